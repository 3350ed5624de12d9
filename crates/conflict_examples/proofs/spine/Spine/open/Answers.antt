use Rattle.std.proofs.Common.{arith, suc, ◌++◌, take, drop, refl, ap, ◌∙◌}
use Rattle.cfg_numbered.specs.Symbols.{sym_of}
use Rattle.conflict_examples.specs.ExampleViews.{open_item}
use Rattle.conflict_examples.proofs.Openings.{more_kept, behind_is}
use Rattle.conflict_examples.proofs.spine.Spine.open.Goals as goal

pub returns : goal.returns
returns g c = λ _.
    let number = g.S.IndexStorage.number in
    let G = c.args.grm.now.grammar in
    let body = c.prod-body.result.now in
    let was = c.args.self.now in
    let back = c.symbols_behind-behind.result.now in
    let inner = rw c.as_slice.ensures.value at c.in-Some.ensures in
    more_kept (open_item number) (sym_of number) G (c.args.pidx, c.args.dot) (c.in-Some.outer, c.in-Some.at) inner.outer was.items.items c.push.new.self.items was.symbols.items c.extend_from_slice.new.self.items was.rest.items c.push_reversed.new.list.items body back
    inner.is c.requires c.in_ok-push.ensures.items (c.if-not-is_after_dot.ensures refl) c.prod-body.ensures (grind (arith, c.if-index-body.false, c.to_usize-index.ensures.value))
    (c.in_ok-extend_from_slice.ensures.items ∙ ap (λ l. was.symbols.items ++ l) (c.symbols_before.ensures ∙ ap (λ k. take k body) c.to_usize-index.ensures.value))
    c.in_ok-push_reversed.ensures
    (behind_is (open_item number) (sym_of number) G c.prod.result.now back (suc (number c.in-Some.at.0)) (number c.in-Some.outer.0) c.prod.ensures (c.symbols_behind-behind.ensures ∙ ap (λ k. drop (suc k) c.prod.result.now) c.to_usize.ensures.value))
