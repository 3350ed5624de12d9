use Rattle.std.proofs.Common.{◌≡◌, [], ◌∷◌, ap, ◌∙◌}
use Rattle.lrpar.specs.Reducing.{stack_of}
use Rattle.lrpar.proofs.Prefixes.{prefix_first}
use Rattle.lrpar.proofs.parserdata.ParserData.prefix.Goals as goal

pub invariant_of-result : goal.invariant_of-result
invariant_of-result g c =
    let number = g.S.IndexStorage.number in
    let d = c.args.self.now in
    let q = c.start_state.result in
    let items : c.push.new.self.items ≡ q ∷ [] = rw c.new-states.ensures.items at c.in_ok-push.ensures.items in
    let value : number q.0 ≡ d.table.start = rw c.stable.ensures at c.start_state.ensures.value in
    rw c.new-2.ensures.items (prefix_first d c.facts.ensures.pair (stack_of number c.push.new.self.items) (ap (stack_of number) items ∙ ap (λ s. s ∷ []) value) (rw c.stable.ensures at c.start_state.ensures.within))
