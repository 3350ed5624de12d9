use Rattle.std.proofs.Common.{◌≡◌, ◌++◌, ◌∷◌, [], ℕ, List, get_or, map, sym, ap, ap₂, ◌∙◌, subst, arith}
use Rattle.std.specs.List.{Contains}
use Rattle.std.proofs.lemmas.List.{map_push, get_or_default}
use Rattle.lrtable.specs.Pruning.{renumbered_state}
use Rattle.lrtable.specs.States.{StateValue, state_at}
use Rattle.lrtable.specs.StateViews.{value_of}
use Rattle.lrtable.proofs.OpenLaws.{map_next}
use Rattle.lrtable.proofs.Renumbering.{left_next}
use Rattle.lrtable.proofs.pruning.take_all.Goals as goal

pub take_out-state-requires-clause-number : goal.take_out-state-requires-clause-number
take_out-state-requires-clause-number g c =
    let k = get_or c.args.kept.now c.kept.i 0 in
    let is : k ≡ get_or c.args.kept.now c.kept.i k = get_or_default c.args.kept.now c.kept.i 0 k c.kept-test.true in
    let lt = c.requires.within k (c.kept.i, c.kept-test.true, sym is) in
    let n = c.kept.invariant.count in
    omega (arith, lt, n)

pub take_out-state-requires-clause-targets : goal.take_out-state-requires-clause-targets
take_out-state-requires-clause-targets g c = λ e x.
    let number = g.S.IndexStorage.number in
    let k = get_or c.args.kept.now c.kept.i 0 in
    let is : k ≡ get_or c.args.kept.now c.kept.i k = get_or_default c.args.kept.now c.kept.i 0 k c.kept-test.true in
    let was : state_at (map (value_of number) c.kept.states.items) k ≡ state_at (map (value_of number) c.args.states.now.items) k =
    c.kept.invariant.left c.kept.i (omega arith) c.kept-test.true in
    c.requires.targets k e (c.kept.i, c.kept-test.true, sym is) (subst (λ (s : StateValue). Contains s.edges e) was x)

pub kept-preserved : goal.kept-preserved
kept-preserved g c =
    let number = g.S.IndexStorage.number in
    let k = get_or c.args.kept.now c.kept.i 0 in
    let first = map (value_of number) c.args.states.now.items in
    let now = map (value_of number) c.kept.states.items in
    let F = λ (r : ℕ). renumbered_state c.args.numbers.now (state_at first r) in
    let is : k ≡ get_or c.args.kept.now c.kept.i k = get_or_default c.args.kept.now c.kept.i 0 k c.kept-test.true in
    let was : state_at now k ≡ state_at first k = c.kept.invariant.left c.kept.i (omega arith) c.kept-test.true in
    let e = c.take_out-state.ensures in
    record {
      count = e.count ∙ c.kept.invariant.count;
      left = left_next first now (map (value_of number) c.take_out-state.new.states.items) c.args.kept.now c.kept.i k c.requires.ascends c.kept-test.true is c.kept.invariant.left e.left;
      taken = ap (map (value_of number)) c.in_ok-push.ensures.items ∙ map_push (value_of number) c.kept.new.items c.take_out-state.result ∙
          ap₂ (λ (l : List StateValue) (s : StateValue). l ++ s ∷ []) c.kept.invariant.taken (e.state ∙ ap (λ (s : StateValue). renumbered_state c.args.numbers.now s) was) ∙ sym (map_next F c.args.kept.now c.kept.i k c.kept-test.true is);
    }
