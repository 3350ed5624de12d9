-- Productions that a table takes in: what names no rule of which the table tells something else stays closed.
use Rattle.std.proofs.Common.{◌≡◌, ℕ, zero, suc, ◌+◌, ◌<◌, ◌≤◌, ◌⊎◌, inl, inr, List, [], ◌∷◌, length, Option, Some, None, slice_get, sym, ap, ◌∙◌, subst, arith}
use Rattle.std.specs.List.{Contains}
use Rattle.cfg_theory.specs.Grammar.{Sym, rule, token, Grammar, body_of}
use Rattle.cfg_theory.specs.CostTables.{Sums, Concatenates}
use Rattle.cfg_sets.specs.WorkLists.{NamesOne, NamesGiven, given, TakesIn}
use Rattle.cfg_sets.proofs.FirstFills.{waits_still}
use Rattle.cfg_sets.proofs.FollowFills.{is_rule}

-- ---- one step

-- the table was closed under the production
pub idle : {X : Type 0} (G : Grammar) (room : X → ℕ) (C : X → ℕ → Type 0) (n : ℕ) (a : X) → C a n → TakesIn G room C n a a None
idle G room C n a h = record { within = λ A e. absurd (none A e); kept = λ p c. inl c; here = inl h; less = omega arith }
  where
    none : (A : ℕ) → None ≡ Some A → ⊥
    none A e = cc

names_one : (G : Grammar) (list : List ℕ) (A p : ℕ) → Contains list A → NamesGiven G p (Some A) → NamesOne G list p
names_one G list A p waits (d, next) = (A, d, next, waits)

module _ {X : Type 0} (G : Grammar) (room : X → ℕ) (C : X → ℕ → Type 0) (n : ℕ) (old new : X) (o : Option ℕ) (h : TakesIn G room C n old new o) where
  module _ (e : o ≡ None) where
    unnamed : (p : ℕ) → NamesGiven G p o → ⊥
    unnamed p x = subst (NamesGiven G p) e x

    pub none_kept : (list : List ℕ) (p : ℕ) → C old p ⊎ NamesOne G list p → C new p ⊎ NamesOne G list p
    none_kept list p (inr w) = inr w
    none_kept list p (inl c) = elim (h.kept p c) [ inl x ↦ inl x | inr x ↦ absurd (unnamed p x) ]

    pub none_here : (list : List ℕ) → C new n ⊎ NamesOne G list n
    none_here list = elim h.here [ inl x ↦ inl x | inr x ↦ absurd (unnamed n x) ]

    pub none_room : (k : ℕ) → room new + k ≤ room old + k
    none_room k = let r = h.less in omega (arith, r)

  module _ (A : ℕ) (e : o ≡ Some A) (is : List ℕ) (waits : Contains is A) where
    named : (p : ℕ) → NamesGiven G p o → NamesOne G is p
    named p x = names_one G is A p waits (subst (NamesGiven G p) e x)

    pub some_kept : (was : List ℕ) → ((B : ℕ) → Contains was B → Contains is B) → (p : ℕ) → C old p ⊎ NamesOne G was p → C new p ⊎ NamesOne G is p
    some_kept was kept p (inr w) = inr (waits_still G was is p kept w)
    some_kept was kept p (inl c) = elim (h.kept p c) [ inl x ↦ inl x | inr x ↦ inr (named p x) ]

    pub some_here : C new n ⊎ NamesOne G is n
    some_here = elim h.here [ inl x ↦ inl x | inr x ↦ inr (named n x) ]

    pub some_room : (was : List ℕ) → length is ≤ length was + 1 → room new + length is ≤ room old + length was
    some_room was longer = let r = h.less in let one : given o ≡ 1 = ap given e in omega (arith, r, one, longer)

-- where no rule waits, all is closed
pub closed_all : {X : Type 0} (G : Grammar) (C : X → ℕ → Type 0) (a : X) (p : ℕ) → C a p ⊎ NamesOne G [] p → C a p
closed_all G C a p (inl c) = c
closed_all G C a p (inr (A, d, next, (k, within, e))) = absurd (omega (arith, within))

-- ---- symbols that don't name a rule

abbrev pub IsAt : List Sym → ℕ → ℕ → Type 0
IsAt a A d = slice_get a d ≡ Some (rule A)

pub named_or : (a : List Sym) (A : ℕ) → ((d : ℕ) × IsAt a A d) ⊎ ((d : ℕ) → IsAt a A d → ⊥)
named_or [] A = inr (λ d e. nothing d e)
  where
    nothing : (d : ℕ) → IsAt [] A d → ⊥
    nothing d e = cc
named_or (X ∷ a) A = elim (is_rule X A) [ inl e ↦ inl (0, ap Some e) | inr ne ↦ elim (named_or a A) [ inl r ↦ inl (suc r.0, r.1) | inr not ↦ inr (other ne not) ] ]
  where
    same : Some X ≡ Some (rule A) → X ≡ rule A
    same e = cc

    other : (X ≡ rule A → ⊥) → ((d : ℕ) → IsAt a A d → ⊥) → (d : ℕ) → IsAt (X ∷ a) A d → ⊥
    other ne not zero e = ne (same e)
    other ne not (suc d) e = not d e

-- by tables that agree on all rules but one
pub sums_same : (f : ℕ → ℕ) (g h : ℕ → Option ℕ) (A : ℕ) → ((B : ℕ) → (B ≡ A → ⊥) → g B ≡ h B) → (a : List Sym) → ((d : ℕ) → IsAt a A d → ⊥) → (n : ℕ) → Sums f g a n → Sums f h a n
sums_same f g h A same [] not n s = s
sums_same f g h A same (token t ∷ a) not n (k, s, q) = (k, sums_same f g h A same a (λ d e. not (suc d) e) k s, q)
sums_same f g h A same (rule B ∷ a) not n (m, k, e, s, q) = (m, k, sym (same B (λ r. not 0 (ap (λ C. Some (rule C)) r))) ∙ e, sums_same f g h A same a (λ d x. not (suc d) x) k s, q)

pub concatenates_same : (g h : ℕ → List (List ℕ)) (A : ℕ) → ((B : ℕ) → (B ≡ A → ⊥) → g B ≡ h B) → (a : List Sym) → ((d : ℕ) → IsAt a A d → ⊥) → (w : List ℕ) → Concatenates g a w → Concatenates h a w
concatenates_same g h A same [] not w c = c
concatenates_same g h A same (token t ∷ a) not w (v, c, e) = (v, concatenates_same g h A same a (λ d x. not (suc d) x) v c, e)
concatenates_same g h A same (rule B ∷ a) not w (u, v, i, c, e) = (u, v, subst (λ l. Contains l u) (same B (λ r. not 0 (ap (λ C. Some (rule C)) r))) i, concatenates_same g h A same a (λ d x. not (suc d) x) v c, e)

-- a production whose rule the table tells of: what it asks for is there, and so is what others ask for that don't name the rule
pub takes_in : {X : Type 0} (G : Grammar) (room : X → ℕ) (C : X → ℕ → Type 0) (n : ℕ) (old new : X) (A : ℕ) → A < G.rules → ((p : ℕ) → ((d : ℕ) → IsAt (body_of G p) A d → ⊥) → C old p → C new p) → (((d : ℕ) → IsAt (body_of G n) A d → ⊥) → C new n) → room new < room old → TakesIn G room C n old new (Some A)
takes_in G room C n old new A lt kept here fewer = record {
  within = λ B e. subst (λ D. D < G.rules) (same B e) lt;
  kept = λ p c. elim (named_or (body_of G p) A) [ inl r ↦ inr (r.0, record { at = r.1 }) | inr not ↦ inl (kept p not c) ];
  here = elim (named_or (body_of G n) A) [ inl r ↦ inr (r.0, record { at = r.1 }) | inr not ↦ inl (here not) ];
  less = omega (arith, fewer);
}
  where
    same : (B : ℕ) → Some A ≡ Some B → A ≡ B
    same B e = cc
