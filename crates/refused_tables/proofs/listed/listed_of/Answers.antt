use Rattle.std.proofs.Common.{◌≡◌, ◌++◌, ℕ, List, length, take, map, IsPermutation, ap, ◌∙◌, subst, arith}
use Rattle.std.proofs.lemmas.Grind.{common_steps}
use Rattle.state_table.specs.CellViews as views
use Rattle.refused_tables.specs.Blocks.{pair_of, shift_of}
use Rattle.refused_tables.specs.declared.listed.Listed.{Listed}
use Rattle.refused_tables.proofs.listed.listed_of.Goals as goal

-- each of a list
whole : {X Y Z : Type 0} (f : Y → Z) (g : X → Y) (xs : List X) (i : ℕ) (ys : List Y) → i ≡ length xs → map g xs ≡ ys → map f (map g (take i xs)) ≡ map f ys
whole f g xs i ys e h =
    let all : take i xs ≡ xs = grind (arith, common_steps) in
    ap (λ l. map f (map g l)) all ∙ ap (map f) h

pub returns : goal.returns
returns c =
    let end = c.pairs.auto.entry-index-end in
    let test = c.pairs-test.false in
    let end-2 = c.shifts.auto.entry-index-end in
    let test-2 = c.shifts-test.false in
    let pairs = c.pairs.invariant ∙ whole pair_of (views.pair_of (λ n. n)) c.as_slice-entry-items.result.now c.pairs.entry-index _ (omega (arith, end, test)) (ap (views.pairs_of (λ n. n)) c.as_slice-entry-items.ensures.value ∙ c.rr_conflicts.ensures) in
    let shifts = c.shifts.invariant ∙ whole shift_of (views.shift_of (λ n. n)) c.as_slice-entry-items-2.result.now c.shifts.entry-index _ (omega (arith, end-2, test-2)) (ap (views.shifts_of (λ n. n)) c.as_slice-entry-items-2.ensures.value ∙ c.sr_conflicts.ensures) in
    record {
      pairs = c.sort.new.self.items;
      shifts = c.sort-2.new.self.items;
      are = c.in_ok-extend_from_slice.ensures.items ∙ ap (λ l. c.sort.new.self.items ++ l) c.as_slice.ensures.value;
      pairs_are = subst (λ (l : List Listed). IsPermutation l c.sort.new.self.items) pairs c.sort.ensures.permutation;
      pairs_sorted = c.in_ok-sort.ensures.sorted;
      shifts_are = subst (λ (l : List Listed). IsPermutation l c.sort-2.new.self.items) shifts c.sort-2.ensures.permutation;
      shifts_sorted = c.in_ok-sort-2.ensures.sorted;
    }
