-- What begins a sentence has tokens of the grammar other than the end alone.
use Rattle.std.proofs.Common.{◌≡◌, ℕ, zero, suc, ◌<◌, List, [], ◌∷◌, ◌++◌, drop, get_or, Some, refl, sym, subst, arith}
use Rattle.std.specs.Prelude.{slice_get}
use Rattle.cfg_theory.specs.Grammar.{Sym, rule, token, Grammar, WellFormed, body_of, end_token, start_symbol}
use Rattle.cfg_theory.specs.Derivation.{Replaces, Derives, BeginsSentence}
use Rattle.cfg_theory.proofs.Lists.{get_from_drop}
use Rattle.std.proofs.Common.{map}

module _ (G : Grammar) (good : WellFormed G) where
  abbrev IsInside : Sym → Type 0
  IsInside (rule A) = Unit {0}
  IsInside (token t) = t < end_token G

  abbrev AllInside : List Sym → Type 0
  AllInside [] = Unit {0}
  AllInside (X ∷ a) = IsInside X × AllInside a

  in_body : (p d : ℕ) (X : Sym) → slice_get (body_of G p) d ≡ Some X → IsInside X
  in_body p d (rule A) e = tt
  in_body p d (token t) e =
      let lt = good.symbols p d (token t) (record { at = e }) in
      let other : t ≡ end_token G → ⊥ = λ h. good.no_end p d t h (record { at = e }) in
      omega (arith, lt, other)

  of_body : (p : ℕ) (c : List Sym) (d : ℕ) → drop d (body_of G p) ≡ c → AllInside c
  of_body p [] d e = tt
  of_body p (X ∷ c) d e = let h = get_from_drop (body_of G p) d X c e in (in_body p d X h.0, of_body p c (suc d) h.1)

  both : (a b : List Sym) → AllInside a → AllInside b → AllInside (a ++ b)
  both [] b h k = k
  both (X ∷ a) b h k = (h.0, both a b h.1 k)

  parts : (a b : List Sym) → AllInside (a ++ b) → AllInside a × AllInside b
  parts [] b h = (tt, h)
  parts (X ∷ a) b h = let r = parts a b h.1 in ((h.0, r.0), r.1)

  replaced : {a b : List Sym} → Replaces G a b → AllInside a → AllInside b
  replaced {a} {b} r h =
      let (x, y) = parts r.before (rule r.head ∷ r.after) (subst AllInside r.old h) in
      subst AllInside (sym r.new) (both r.before (body_of G r.production ++ r.after) x (both (body_of G r.production) r.after (of_body r.production (body_of G r.production) 0 refl) y.1))

  derived : {a b : List Sym} → Derives G a b → AllInside a → AllInside b
  derived Derives.none h = h
  derived (Derives.one r d) h = derived d (replaced r h)

  start_inside : AllInside (start_symbol G ∷ [])
  start_inside = let r = good.start_rule in (subst (λ b. IsInside (get_or b 0 (rule 0))) (sym r.1) tt, tt)

  at_index : (u w : List ℕ) (k t : ℕ) → AllInside (map token (u ++ w)) → slice_get u k ≡ Some t → t < end_token G
  at_index [] w k t h e = cc
  at_index (s ∷ u) w zero t h e = let is : s ≡ t = cc in subst (λ n. n < end_token G) is h.0
  at_index (s ∷ u) w (suc k) t h e = at_index u w k t h.1 e

  pub begins_inside : (u : List ℕ) (k t : ℕ) → BeginsSentence G (start_symbol G) u → slice_get u k ≡ Some t → t < end_token G
  begins_inside u k t b e = at_index u b.0 k t (derived b.1 start_inside) e
