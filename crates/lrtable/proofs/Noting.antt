-- The open rules in the order in which they were opened, as long as there is room.
use Rattle.std.proofs.Common.{◌≡◌, ℕ, ◌+◌, ◌<◌, ◌≤◌, ◌⊎◌, inl, inr, Bool, true, false, List, [], ◌∷◌, ◌++◌, length, get_or, set, take, replicate, refl, sym, ap, ◌∙◌, subst, arith, length-set}
use Rattle.std.specs.Prelude.{IsTrue}
use Rattle.std.specs.List.{Contains}
use Rattle.std.proofs.lemmas.Grind.{take-set_at}
use Rattle.std.proofs.lemmas.List.{take_more}
use Rattle.std.proofs.lemmas.List.Elements.{Contains-append_left, Contains-push, Contains-push_cases}
use Rattle.table_theory.proofs.CellLists.{contains_nil}
use Rattle.vob.specs.Sets.{SetRows, is_set, is_set_in}
use Rattle.vob.proofs.Bits.{none_set, put_in, row_set}
use Rattle.lrtable.specs.Opening.{AreNoted}

never : false ≡ true → ⊥
never e = cc

pub noted_none : (n count : ℕ) (flags : List Bool) (order : List ℕ) → flags ≡ replicate n false → count ≡ 0 → AreNoted flags count order
noted_none n count flags order empty none = record {
  few = omega (arith, none);
  within = λ A m. absurd (contains_nil A (subst (λ k. Contains (take k order) A) none m));
  noted = λ A lt x. absurd (none_set n A (subst (λ (l : List Bool). IsTrue (is_set l A)) empty x));
}

module _ (flags new : List Bool) (count : ℕ) (order : List ℕ) (A : ℕ) (h : AreNoted flags count order) (lt : A < length flags) (put : new ≡ set flags A true) where
  wide : length new ≡ length flags
  wide = ap length put ∙ length-set flags A true

  flag_of : (B : ℕ) → IsTrue (is_set new B) → IsTrue (is_set flags B) ⊎ (A ≡ B)
  flag_of B x = (put_in flags A B lt).0 (subst (λ (l : List Bool). IsTrue (is_set l B)) put x)

  -- the rule was written behind the others
  pub noted_next : (n : ℕ) (now : List ℕ) → n ≡ count + 1 → count < length order → now ≡ set order count A → AreNoted new n now
  noted_next n now e room is = record {
    few = (let l = long in omega (arith, e, room, l));
    within = λ B m. elim (Contains-push_cases (take count order) A B (subst (λ (l : List ℕ). Contains l B) first m)) [ inl y ↦ (let b = h.within B y in let w = wide in omega (arith, b, w)) | inr q ↦ (let w = wide in subst (λ C. C < length new) q (omega (arith, lt, w))) ];
    noted = λ B more x. subst (λ (l : List ℕ). Contains l B) (sym first) (elim (flag_of B x) [ inl y ↦ Contains-append_left (take count order) (A ∷ []) B (h.noted B room y) | inr q ↦ subst (λ C. Contains (take count order ++ A ∷ []) C) q (Contains-push (take count order) A) ]);
  }
    where
      long : length now ≡ length order
      long = ap length is ∙ length-set order count A

      first : take n now ≡ take count order ++ A ∷ []
      first = ap (take n) is ∙ take-set_at order count n A e room

  -- it was there, or there was no room
  pub noted_still : IsTrue (is_set flags A) ⊎ (length order ≤ count) → AreNoted new count order
  noted_still why = record {
    few = h.few;
    within = λ B m. let b = h.within B m in let w = wide in omega (arith, b, w);
    noted = λ B room x. elim (flag_of B x) [
      | inl y ↦ h.noted B room y
      | inr q ↦ elim why [ inl y ↦ h.noted B room (subst (λ C. IsTrue (is_set flags C)) q y) | inr full ↦ absurd (omega (arith, room, full)) ]
    ];
  }

-- a flag was set where nothing is told of it
pub flag_was : (flags : List Bool) (A : ℕ) (new : Bool) → new ≡ false → (is_set flags A ≡ false → new ≡ true) → IsTrue (is_set flags A)
flag_was flags A new still told = go (is_set flags A) refl
  where
    go : (b : Bool) → is_set flags A ≡ b → IsTrue (is_set flags A)
    go true e = e
    go false e = absurd (never (sym still ∙ told e))

-- ---- the rows of a list of rules are emptied

pub record ListEmptied (first : SetRows) (rules : List ℕ) (s : SetRows) : Type 0 where
  pub width : s.width ≡ first.width
  pub count : length s.rows ≡ length first.rows
  pub kept : (A t : ℕ) → IsTrue (is_set_in s.rows A t) → IsTrue (is_set_in first.rows A t)
  pub emptied : (A t : ℕ) → Contains rules A → IsTrue (is_set_in s.rows A t) → ⊥

pub list_begun : (s : SetRows) → ListEmptied s [] s
list_begun s = record { width = refl; count = refl; kept = λ A t x. x; emptied = λ A t m x. contains_nil A m }

pub list_next : (first a b : SetRows) (rules : List ℕ) (i A : ℕ) → i < length rules → A ≡ get_or rules i A → A < length a.rows → b ≡ record { width = a.width; rows = set a.rows A (replicate a.width false) } → ListEmptied first (take i rules) a → ListEmptied first (take (i + 1) rules) b
list_next first a b rules i A lt is within e h = subst (λ (l : List ℕ). ListEmptied first l b) (sym more) (subst (ListEmptied first (take i rules ++ A ∷ [])) (sym e) (record {
  width = h.width;
  count = length-set a.rows A (replicate a.width false) ∙ h.count;
  kept = λ B t x. h.kept B t (elim (row_set a.rows A B t (replicate a.width false) within) [ inl q ↦ absurd (none_set a.width t (sym q.1 ∙ x)) | inr q ↦ sym q.1 ∙ x ]);
  emptied = λ B t m x. elim (row_set a.rows A B t (replicate a.width false) within) [
    | inl q ↦ none_set a.width t (sym q.1 ∙ x)
    | inr q ↦ elim (Contains-push_cases (take i rules) A B m) [ inl y ↦ h.emptied B t y (sym q.1 ∙ x) | inr s ↦ q.0 (sym s) ]
  ];
}))
  where
    more : take (i + 1) rules ≡ take i rules ++ A ∷ []
    more = take_more rules i A lt ∙ ap (λ B. take i rules ++ B ∷ []) (sym is)
