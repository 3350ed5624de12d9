-- FIRST of lists, by sets that hold exactly what derivations show.
use Rattle.std.proofs.Common.{◌≡◌, ℕ, zero, suc, ◌+◌, ◌<◌, ◌≤◌, inl, inr, ◌↔◌, Bool, List, [], ◌∷◌, length, map, drop, Some, None, slice_get, refl, sym, ap, ◌∙◌, subst, arith}
use Rattle.std.specs.Prelude.{IsTrue}
use Rattle.std.proofs.lemmas.Bool.{cases_lt}
use Rattle.std.proofs.lemmas.List.{drop-map}
use Rattle.cfg_theory.specs.Grammar.{Sym, Grammar, WellFormed, IsNext, body_of}
use Rattle.cfg_theory.specs.First.{AllOf, FirstIsExact}
use Rattle.cfg_theory.proofs.Derivation.{derives_rule, nullable_of, first_of_list, first_table_exact}
use Rattle.lr_theory.specs.Canonical.{from_dot}
use Rattle.vob.specs.Sets.{is_set}
use Rattle.cfg_sets.specs.Firsts.{FirstSets, HasEpsilon, HasFirst, AreOf, AreFirsts, FirstsOf, AllWithin}
use Rattle.cfg_sets.proofs.FirstSteps.{body_within}
use Rattle.lrtable.specs.Closes.{IsRest}

pub exact : (G : Grammar) (s : FirstSets) → AreFirsts G s → FirstIsExact G (HasEpsilon s) (HasFirst s)
exact G s k = first_table_exact G (HasEpsilon s) (HasFirst s) (record {
  nullable = λ A. (k.nullable A).0;
  first = λ A t. (k.first A t).0;
  nullable_closed = λ p A o h. (k.nullable A).1 (derives_rule G o (nullable_of G (HasEpsilon s) (HasFirst s) (λ B. (k.nullable B).0) (λ B u. (k.first B u).0) (body_of G p) h));
  first_closed = λ p A t o h. (k.first A t).1 (let d = first_of_list G (HasEpsilon s) (HasFirst s) (λ B. (k.nullable B).0) (λ B u. (k.first B u).0) (body_of G p) t h in (d.0, derives_rule G o d.1));
})

-- what was computed of the symbols behind the dot
pub rest_is : (G : Grammar) (s : FirstSets) → AreFirsts G s → (p d : ℕ) (first : List Bool) (nullable : Bool) → length first ≡ s.tokens → IsTrue nullable ↔ AllOf (HasEpsilon s) (from_dot G p (suc d)) → ((t : ℕ) → IsTrue (is_set first t) ↔ FirstsOf s (from_dot G p (suc d)) t) →
    IsRest G p d first nullable
rest_is G s k p d first nullable wide n f =
    let x = exact G s k in
    record {
      width = wide ∙ k.sizes.tokens;
      nullable = (λ h. (x.list_nullable (from_dot G p (suc d))).0 (n.0 h), λ h. n.1 ((x.list_nullable (from_dot G p (suc d))).1 h));
      first = λ t. (λ h. (x.list_first (from_dot G p (suc d)) t).0 ((f t).0 h), λ h. (f t).1 ((x.list_first (from_dot G p (suc d)) t).1 h));
    }

-- a part of a list whose symbols have sets
pub within_drop : (s : FirstSets) (a : List Sym) (n : ℕ) → AllWithin s a → AllWithin s (drop n a)
within_drop s a zero h = h
within_drop s [] (suc n) h = h
within_drop s (X ∷ a) (suc n) h = within_drop s a n h.1

-- ---- symbols behind dots

none_past : (l : List Sym) (d : ℕ) → length l ≤ d → slice_get l d ≡ None
none_past [] d le = refl
none_past (X ∷ l) zero le = absurd (omega (arith, le))
none_past (X ∷ l) (suc d) le = none_past l d (omega (arith, le))

-- a symbol stands behind a dot within the production
pub dot_within : (G : Grammar) (p d : ℕ) (Y : Sym) → IsNext G p d Y → d < length (body_of G p)
dot_within G p d Y n = elim (cases_lt d (length (body_of G p))) [ inl lt ↦ lt | inr ge ↦ absurd (let h : None ≡ Some Y = sym (none_past (body_of G p) d ge) ∙ n.at in cc) ]

module _ {X : Type 0} (G : Grammar) (s : FirstSets) (p d : ℕ) (f : X → Sym) (xs slice : List X) (e : map f xs ≡ body_of G p) (is : slice ≡ drop (d + 1) xs) where
  behind : map f slice ≡ from_dot G p (suc d)
  behind = ap (map f) is ∙ sym (drop-map f (d + 1) xs) ∙ ap (λ l. drop (d + 1) l) e ∙ ap (λ n. drop n (body_of G p)) (let q : d + 1 ≡ suc d = omega arith in q)

  pub slice_within : WellFormed G → AreOf G s → AllWithin s (map f slice)
  slice_within good sizes = subst (AllWithin s) (sym behind) (within_drop s (body_of G p) (suc d) (body_within G s p good sizes))

  pub slice_rest : AreFirsts G s → (first : List Bool) (nullable : Bool) → length first ≡ s.tokens → IsTrue nullable ↔ AllOf (HasEpsilon s) (map f slice) → ((t : ℕ) → IsTrue (is_set first t) ↔ FirstsOf s (map f slice) t) → IsRest G p d first nullable
  slice_rest k first nullable wide n h = rest_is G s k p d first nullable wide (subst (λ a. IsTrue nullable ↔ AllOf (HasEpsilon s) a) behind n) (subst (λ a. (t : ℕ) → IsTrue (is_set first t) ↔ FirstsOf s a t) behind h)
