-- The places of a list that are set, walked over, and sets of rules that are emptied on the way.
use Rattle.std.proofs.Common.{◌≡◌, ℕ, ◌<◌, min, inl, inr, Bool, true, false, List, ◌∷◌, length, set, replicate, refl, sym, ◌∙◌, subst, arith}
use Rattle.std.specs.Prelude.{IsTrue, ◌↔◌}
use Rattle.std.specs.List.{Contains}
use Rattle.std.specs.declared.ops.Bound.TheVariants.{Unbounded}
use Rattle.std.proofs.lemmas.Bool.{cases_lt}
use Rattle.std.proofs.lemmas.List.{get_or_past, length-set}
use Rattle.vob.specs.Walk.{walk}
use Rattle.vob.proofs.LawLemmas.{walk_exactly}
use Rattle.table_theory.proofs.CellLists.{contains_head, contains_tail, contains_cases}
use Rattle.vob.specs.Sets.{SetRows, is_set, is_set_in}
use Rattle.vob.proofs.Bits.{none_set, row_set}

never : false ≡ true → ⊥
never e = cc

-- a place that is set is one of the list
pub set_below : (bits : List Bool) (A : ℕ) → IsTrue (is_set bits A) → A < length bits
set_below bits A h = elim (cases_lt A (length bits)) [ inl lt ↦ lt | inr ge ↦ absurd (never (sym (get_or_past bits A false ge) ∙ h)) ]

-- a walk has the places that are set
pub walk_has : (bits : List Bool) (left : List ℕ) (A : ℕ) → left ≡ walk true bits Unbounded Unbounded → Contains left A ↔ IsTrue (is_set bits A)
walk_has bits left A e =
    let exact = walk_exactly true bits 0 (min (length bits) (length bits)) A (omega arith) in (
      λ x. (exact.0 (subst (λ l. Contains l A) e x)).2,
      λ h. (let lt = set_below bits A h in subst (λ l. Contains l A) (sym e) (exact.1 (omega arith, omega (arith, lt), h))),
    )

-- the next place of a walk, and those behind it
pub next_in : (left rest : List ℕ) (A : ℕ) → left ≡ A ∷ rest → Contains left A
next_in left rest A e = subst (λ l. Contains l A) (sym e) (contains_head A rest)

pub rest_in : (left rest : List ℕ) (A B : ℕ) → left ≡ A ∷ rest → Contains rest B → Contains left B
rest_in left rest A B e x = subst (λ l. Contains l B) (sym e) (contains_tail A B rest x)

-- so far the rows of the rules that aren't left are emptied
pub record Emptied (first : SetRows) (rules : List Bool) (left : List ℕ) (s : SetRows) : Type 0 where
  pub width : s.width ≡ first.width
  pub count : length s.rows ≡ length first.rows
  pub kept : (A t : ℕ) → IsTrue (is_set_in s.rows A t) → IsTrue (is_set_in first.rows A t)
  pub emptied : (A t : ℕ) → IsTrue (is_set rules A) → IsTrue (is_set_in s.rows A t) → Contains left A
  pub below : (A : ℕ) → Contains left A → A < length first.rows

pub emptied_begin : (s : SetRows) (rules : List Bool) (left : List ℕ) → length rules ≡ length s.rows → left ≡ walk true rules Unbounded Unbounded → Emptied s rules left s
emptied_begin s rules left len e = record {
  width = refl;
  count = refl;
  kept = λ A t h. h;
  emptied = λ A t is h. (walk_has rules left A e).1 is;
  below = λ A x. subst (λ n. A < n) len (set_below rules A ((walk_has rules left A e).0 x));
}

pub emptied_at : (first s : SetRows) (rules : List Bool) (A : ℕ) (left rest : List ℕ) → left ≡ A ∷ rest → Emptied first rules left s → A < length s.rows
emptied_at first s rules A left rest e h = subst (λ n. A < n) (sym h.count) (h.below A (next_in left rest A e))

pub emptied_next : (first a b : SetRows) (rules : List Bool) (A : ℕ) (left rest : List ℕ) → left ≡ A ∷ rest → b ≡ record { width = a.width; rows = set a.rows A (replicate a.width false) } → Emptied first rules left a → Emptied first rules rest b
emptied_next first a b rules A left rest e is h =
    let lt = emptied_at first a rules A left rest e h in
    subst (Emptied first rules rest) (sym is) (record {
      width = h.width;
      count = length-set a.rows A (replicate a.width false) ∙ h.count;
      kept = λ B t x. h.kept B t (elim (row_set a.rows A B t (replicate a.width false) lt) [ inl q ↦ absurd (none_set a.width t (sym q.1 ∙ x)) | inr q ↦ sym q.1 ∙ x ]);
      emptied = λ B t o x. elim (row_set a.rows A B t (replicate a.width false) lt) [
        | inl q ↦ absurd (none_set a.width t (sym q.1 ∙ x))
        | inr q ↦ elim (contains_cases A B rest (subst (λ l. Contains l B) e (h.emptied B t o (sym q.1 ∙ x)))) [ inl s ↦ absurd (q.0 (sym s)) | inr y ↦ y ]
      ];
      below = λ B x. h.below B (rest_in left rest A B e x);
    })
