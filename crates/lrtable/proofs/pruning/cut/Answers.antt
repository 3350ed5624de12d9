use Rattle.std.proofs.Common.{◌≡◌, ℕ, ◌≤◌, List, length, get_or, map, sym, ap, subst, subst₂, arith}
use Rattle.std.specs.Prelude.{IsTrue, ◌↔◌}
use Rattle.std.specs.List.{Contains}
use Rattle.vob.specs.Sets.{is_set}
use Rattle.std.proofs.lemmas.List.{length-map}
use Rattle.lrtable.specs.Pruning.{AreLinked, IsLed, renumbered_state}
use Rattle.lrtable.specs.States.{state_at}
use Rattle.lrtable.specs.StateViews.{value_of}
use Rattle.lrtable.specs.declared.states.State.{State}
use Rattle.lrtable.proofs.Marking.{flag_within, target_within}
use Rattle.lrtable.proofs.pruning.cut.Goals as goal

pub marks-requires-clause-linked : goal.marks-requires-clause-linked
marks-requires-clause-linked g c =
    let number = g.S.IndexStorage.number in
    subst (λ (l : List (State g.row.S.Denot)). AreLinked (map (value_of number) l)) (sym c.as_slice.ensures.value) c.requires.linked

pub take_all-requires-clause-within : goal.take_all-requires-clause-within
take_all-requires-clause-within g c = λ k x.
    let n = c.in_ok-numbered.ensures in
    let w = c.in_ok-marked.ensures.width in
    let s = ap length c.as_slice.ensures.value in
    let lt = (n.marked k (subst (λ (l : List ℕ). Contains l k) c.as_slice-2.ensures.value x)).0 in
    omega (arith, lt, w, s)

pub take_all-requires-clause-targets : goal.take_all-requires-clause-targets
take_all-requires-clause-targets g c = λ k e x y.
    let number = g.S.IndexStorage.number in
    let xs = c.args.states.now.items in
    let n = c.in_ok-numbered.ensures in
    let w = c.in_ok-marked.ensures.width in
    let s = ap length c.as_slice.ensures.value in
    let t = ap length c.as_slice-3.ensures.value in
    let z = n.size in
    let m = length-map xs (value_of number) in
    let lt = (n.marked k (subst (λ (l : List ℕ). Contains l k) c.as_slice-2.ensures.value x)).0 in
    let target = target_within (map (value_of number) xs) k e c.requires.linked (omega (arith, lt, w, s, m)) y in
    omega (arith, target, w, s, t, z, m)

pub take_all-requires-clause-low : goal.take_all-requires-clause-low
take_all-requires-clause-low g c =
    let n = c.in_ok-numbered.ensures in
    let w = c.in_ok-marked.ensures.width in
    let s = ap length c.as_slice.ensures.value in
    let f = n.few in
    let top = c.requires.few in
    subst (λ (l : List ℕ). (k : ℕ) → get_or l k 0 ≤ g.S.IndexStorage.MAX) (sym c.as_slice-3.ensures.value) (λ k. let l = n.low k in omega (arith, l, f, w, s, top))

pub returns : goal.returns
returns g c =
    let number = g.S.IndexStorage.number in
    let xs = c.args.states.now.items in
    let old = map (value_of number) xs in
    let n = c.in_ok-numbered.ensures in
    let kept = c.in_ok-numbered.numbered.0.items in
    let numbers = c.in_ok-numbered.numbered.1.items in
    let w = c.in_ok-marked.ensures.width in
    let s = ap length c.as_slice.ensures.value in
    let m = length-map xs (value_of number) in
    let marks = subst (λ (l : List (State g.row.S.Denot)). (r : ℕ) → IsTrue (is_set c.in_ok-marked.marked.bits r) ↔ IsLed (map (value_of number) l) r) c.as_slice.ensures.value c.in_ok-marked.ensures.marks in
    record {
      kept = kept;
      numbers = numbers;
      few = (let f = n.few in omega (arith, f, w, s, m));
      ascends = n.ascends;
      within = λ k x. (let lt = (n.marked k x).0 in omega (arith, lt, w, s, m));
      led = λ k x. (marks k).0 (n.marked k x).1;
      number = λ r l. (let x = (marks r).1 l in n.number r (flag_within c.in_ok-marked.marked.bits r x) x);
      value = subst₂ (λ (l ns : List ℕ). map (value_of number) c.in_ok-new.new.items ≡ map (λ k. renumbered_state ns (state_at old k)) l) c.as_slice-2.ensures.value c.as_slice-3.ensures.value c.in_ok-new.ensures;
    }
