-- What one list behind another begins with.
use Rattle.std.proofs.Common.{◌≡◌, ℕ, ◌⊎◌, inl, inr, List, [], ◌∷◌, ◌++◌}
use Rattle.cfg_theory.specs.Grammar.{Sym, rule, Grammar, IsOf, body_of}
use Rattle.cfg_theory.specs.Derivation.{Derives, Nullable, IsFirst, IsFirstBefore}
use Rattle.cfg_theory.specs.First.{AllOf, FirstOf, FirstIsExact}
use Rattle.cfg_theory.proofs.Derivation.{derives_on, derives_within, derives_rule, nullable_of, first_of_list, all_split, first_split, first_table_exact}

module _ (G : Grammar) where
  abbrev Null : ℕ → Type 0
  Null A = Nullable G (rule A ∷ [])

  abbrev First : ℕ → ℕ → Type 0
  First A t = IsFirst G (rule A ∷ []) t

  null_closed : (p A : ℕ) → IsOf G p A → AllOf Null (body_of G p) → Null A
  null_closed p A o h = derives_rule G o (nullable_of G Null First (λ B n. n) (λ B t f. f) (body_of G p) h)

  first_closed : (p A t : ℕ) → IsOf G p A → FirstOf Null First (body_of G p) t → First A t
  first_closed p A t o h = let (rest, d) = first_of_list G Null First (λ B n. n) (λ B t f. f) (body_of G p) t h in (rest, derives_rule G o d)

  exact : FirstIsExact G Null First
  exact = first_table_exact G Null First (record { nullable = λ A n. n; first = λ A t f. f; nullable_closed = null_closed; first_closed = first_closed })

  null_both : (a b : List Sym) → Nullable G (a ++ b) → Nullable G a × Nullable G b
  null_both a b h = let (x, y) = all_split G Null null_closed a b ((exact.list_nullable (a ++ b)).1 h) in ((exact.list_nullable a).0 x, (exact.list_nullable b).0 y)

  first_both : (a b : List Sym) (t : ℕ) → IsFirst G (a ++ b) t → IsFirst G a t ⊎ (Nullable G a × IsFirst G b t)
  first_both a b t h = go (first_split G Null null_closed First first_closed a b t ((exact.list_first (a ++ b) t).1 h))
    where
      go : FirstOf Null First a t ⊎ (AllOf Null a × FirstOf Null First b t) → IsFirst G a t ⊎ (Nullable G a × IsFirst G b t)
      go (inl f) = inl ((exact.list_first a t).0 f)
      go (inr (n, f)) = inr ((exact.list_nullable a).0 n, (exact.list_first b t).0 f)

  -- behind a list that vanishes
  front_gone : {a b c : List Sym} → Nullable G a → Derives G b c → Derives G (a ++ b) c
  front_gone {a} {b} n d = derives_on G (derives_within G [] b n) d

  -- what may stand behind two lists
  pub before_first : (a b : List Sym) (u t : ℕ) → IsFirst G a t → IsFirstBefore G (a ++ b) u t
  before_first a b u t (rest, d) = inl (rest ++ b, derives_within G [] b d)

  pub before_passed : (a b : List Sym) (u t : ℕ) → Nullable G a → IsFirstBefore G b u t → IsFirstBefore G (a ++ b) u t
  before_passed a b u t n (inl (rest, d)) = inl (rest, front_gone n d)
  before_passed a b u t n (inr (d, e)) = inr (front_gone n d, e)

  pub before_split : (a b : List Sym) (u t : ℕ) → IsFirstBefore G (a ++ b) u t → IsFirst G a t ⊎ (Nullable G a × IsFirstBefore G b u t)
  before_split a b u t (inl f) = go (first_both a b t f)
    where
      go : IsFirst G a t ⊎ (Nullable G a × IsFirst G b t) → IsFirst G a t ⊎ (Nullable G a × IsFirstBefore G b u t)
      go (inl x) = inl x
      go (inr (n, x)) = inr (n, inl x)
  before_split a b u t (inr (n, e)) = let (x, y) = null_both a b n in inr (x, inr (y, e))

  -- nothing begins with a token
  pub before_none : (u t : ℕ) → IsFirstBefore G [] u t → t ≡ u
  before_none u t (inl f) = absurd ((exact.list_first [] t).1 f)
  before_none u t (inr (n, e)) = e
