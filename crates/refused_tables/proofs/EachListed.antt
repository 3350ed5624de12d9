-- Blocks hold listed conflicts alone.
use Rattle.std.proofs.Common.{◌≡◌, Bool, List, [], Option, All, Contains, IsPermutation, subst, sym}
use Rattle.std.proofs.lemmas.List.Elements.{All-append, All-contains_itself, All-weaker, Contains-append_left, Contains-append_right}
use Rattle.std.proofs.lemmas.List.Sorted.{All-permutation}
use Rattle.std.specs.declared.cmp.Ordering.{Ordering}
use Rattle.table_theory.specs.Cells.{Conflicts}
use Rattle.refused_tables.specs.Blocks.{AreListed, all_listed, groups, pairs_of, shifts_of}
use Rattle.refused_tables.specs.declared.listed.Listed.{Listed}
use Rattle.refused_tables.proofs.Groups.{groups_all}

module _ (cmp : Listed → Listed → Ordering) where
  each_is : (c : Option Conflicts) (listed : List Listed) → AreListed cmp c listed → All (Contains (all_listed c)) listed
  each_is c listed h =
      let P = Contains (all_listed c) in
      let one = All-permutation P (pairs_of c) h.pairs h.pairs_are (All-weaker (Contains (pairs_of c)) P (λ x there. Contains-append_left (pairs_of c) (shifts_of c) x there) (pairs_of c) (All-contains_itself (pairs_of c))) in
      let other = All-permutation P (shifts_of c) h.shifts h.shifts_are (All-weaker (Contains (shifts_of c)) P (λ x there. Contains-append_right (pairs_of c) (shifts_of c) x there) (shifts_of c) (All-contains_itself (shifts_of c))) in
      subst (All P) (sym h.are) (All-append P h.pairs h.shifts one other)

  pub each_listed : (same : Listed → Listed → Bool) (c : Option Conflicts) (listed : List Listed) (blocks : List (List Listed)) → AreListed cmp c listed → blocks ≡ groups same listed → All (All (Contains (all_listed c))) blocks
  each_listed same c listed blocks h is = subst (All (All (Contains (all_listed c)))) (sym is) (groups_all same (Contains (all_listed c)) listed (each_is c listed h))
