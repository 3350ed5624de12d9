use Rattle.std.proofs.Common.{arith, map, reverse, ap}
use Rattle.cfg_numbered.specs.Symbols.{sym_of, syms_of}
use Rattle.conflict_examples.specs.ExampleViews.{open_item}
use Rattle.conflict_examples.proofs.StepLists.{behind_more, around_all}
use Rattle.conflict_examples.proofs.forms.behind_innermost.Goals as goal

pub items-init : goal.items-init
items-init g c = ap (λ l. reverse (map (sym_of g.S.IndexStorage.number) l)) c.new-rest.ensures.items

pub items-preserved : goal.items-preserved
items-preserved g c =
    let number = g.S.IndexStorage.number in
    behind_more c.args.grm.now.grammar (open_item number) c.args.items.now c.items.k c.index-items-k.result (reverse (syms_of number c.items.rest.items)) (reverse (syms_of number c.push_behind.new.rest.items))
    (grind (arith, c.items-test.true, c.saturating_sub-k-end.ensures)) c.index-items-k.is c.in_ok-push_behind.ensures c.items.invariant

pub returns : goal.returns
returns g c =
    let number = g.S.IndexStorage.number in
    around_all c.args.grm.now.grammar (open_item number) c.args.items.now c.items.k (reverse (syms_of number c.items.rest.items)) (grind (arith, c.items-test.false, c.items.auto.k-end, c.saturating_sub-k-end.ensures)) c.items.invariant
