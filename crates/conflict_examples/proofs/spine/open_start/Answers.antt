use Rattle.std.proofs.Common.{arith, take, ap, ◌∙◌}
use Rattle.cfg_numbered.specs.Symbols.{sym_of}
use Rattle.conflict_examples.specs.ExampleViews.{open_item}
use Rattle.conflict_examples.proofs.Openings.{start_kept}
use Rattle.conflict_examples.proofs.spine.open_start.Goals as goal

pub returns : goal.returns
returns g c =
    let number = g.S.IndexStorage.number in
    let body = c.prod-body.result.now in
    start_kept (open_item number) (sym_of number) c.args.grm.now.grammar (c.start_prod-pidx.result, c.args.dot) c.new-items.result.items c.push.new.self.items c.in_ok-symbols.symbols.items c.new.result.items body
    c.start_prod-pidx.ensures.value c.prod-body.ensures (grind (arith, c.if-index-body.false, c.to_usize-index.ensures.value)) c.new-items.ensures.items c.in_ok-push.ensures.items c.new.ensures.items
    (c.in_ok-symbols.ensures.items ∙ c.symbols_before.ensures ∙ ap (λ k. take k body) c.to_usize-index.ensures.value)
