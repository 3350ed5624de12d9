-- A parse goes on from where it has come to; lists handed in at its errors are those of a function of the errors.
use Rattle.std.proofs.Common.{◌≡◌, ℕ, ◌<◌, ◌⊎◌, inl, inr, Bool, true, false, cond, nat_eq, List, [], ◌∷◌, ◌++◌, length, map, Option, refl, sym, ap, ap₂, ◌∙◌, subst, arith, append_assoc}
use Rattle.std.specs.List.{AllByRecursion}
use Rattle.cfg_theory.specs.Grammar.{Grammar}
use Rattle.cfg_theory.specs.Tree.{Tree}
use Rattle.lr_theory.specs.Automaton.{Automaton}
use Rattle.lr_theory.specs.Machine.{Config}
use Rattle.lr_theory.specs.Repair.{Edit, with_rest, Takes, IsFirstTaken, Parses, Advances}
use Rattle.lr_theory.specs.HandedRepairs.{ParsesWith, ComesTo, HandedIsOffered, ParsesGoOn}
use Rattle.lr_theory.proofs.Place.{nat_eq_refl}
use Rattle.lr_theory.proofs.Repair.{left_of, later, Bounded, bounded}

module _ (L : Type 0) (G : Grammar) (a : Automaton) (tok : L → ℕ) (make : ℕ → List L → L) where
  on : {c d : Config L} {handed : List (List (List Edit))} {errors : List (Config L)} → ComesTo L G a tok make c handed errors d → (further : List (List (List Edit))) (more : List (Config L))
      (r : Option (Tree L)) (lexemes : List L) → ParsesWith L G a tok make d further r more lexemes → ParsesWith L G a tok make c (handed ++ further) r (errors ++ more) lexemes
  on ComesTo.here further more r lexemes p = p
  on (ComesTo.past {c} {d} {handed} {errors} n e offered es before fails first) further more r lexemes p =
      let longer = ParsesWith.repairs n e offered es further more fails first refl refl p in
      let q = on before (offered ∷ further) (e ∷ more) r lexemes longer in
      let x : handed ++ offered ∷ further ≡ (handed ++ offered ∷ []) ++ further = sym (append_assoc handed (offered ∷ []) further) in
      let y : errors ++ e ∷ more ≡ (errors ++ e ∷ []) ++ more = sym (append_assoc errors (e ∷ []) more) in
      subst (λ es. ParsesWith L G a tok make c ((handed ++ offered ∷ []) ++ further) r es lexemes) y (subst (λ hs. ParsesWith L G a tok make c hs r (errors ++ e ∷ more) lexemes) x q)

pub parses_go_on : (L : Type 0) → ParsesGoOn L
parses_go_on L = record { on = λ G a tok make c d handed further errors more r lexemes come p. on L G a tok make come further more r lexemes p }

module _ (L : Type 0) (G : Grammar) (a : Automaton) (tok : L → ℕ) (make : ℕ → List L → L) where
  abbrev Offers : Type 0
  Offers = Config L → List (List Edit)

  abbrev Agree : Offers → Offers → List (Config L) → Type 0
  Agree f g errors = AllByRecursion (λ e. f e ≡ g e) errors

  abbrev Shorter : ℕ → List (Config L) → Type 0
  Shorter n errors = AllByRecursion (λ e. length e.rest < n) errors

  -- the same sequences by another name
  abbrev as_offered : (d : Config L) (xs ys : List (List Edit)) (es : List Edit) → ys ≡ xs → IsFirstTaken G a tok make d xs es → IsFirstTaken G a tok make d ys es
  as_offered d xs ys es same first = record { earlier = first.earlier; later = first.later; is_offered = same ∙ first.is_offered; are_refused = first.are_refused; takes = first.takes }

  -- functions that agree at the errors give one parse
  along : (f g : Offers) {c : Config L} {r : Option (Tree L)} {errors : List (Config L)} {lexemes : List L} → Parses L G a tok make f c r errors lexemes → Agree f g errors → Parses L G a tok make g c r errors lexemes
  along f g (Parses.accepts n t e i j k) all = Parses.accepts n t e i j k
  along f g (Parses.gives_up n d e refused i j k) all =
      let same = subst (Agree f g) j all in
      Parses.gives_up n d e (subst (AllByRecursion (λ es. Takes G a tok make d es → ⊥)) same.0 refused) i j k
  along f g (Parses.repairs n d es more e first j p) all =
      let same = subst (Agree f g) j all in
      Parses.repairs n d es more e (as_offered d (f d) (g d) es (sym same.0) first) j (along f g p same.1)

  -- the errors behind a repair have fewer lexemes left than it
  all_shorter : (n : ℕ) (d : Config L) (more : List (Config L)) → length d.rest < n → Advances (d ∷ more) → Shorter n (d ∷ more)
  all_shorter n d [] lt advances = (lt, tt)
  all_shorter n d (e ∷ more) lt advances = (lt, all_shorter n e more (let x = advances.0 in omega (arith, lt, x)) advances.1)

  behind : (offers : Offers) (d : Config L) (es : List Edit) (k : Takes G a tok make d es) {r : Option (Tree L)} {more : List (Config L)} {lexemes : List L} →
      Parses L G a tok make offers (with_rest d (k.put ++ k.left)) r more lexemes → Shorter (length d.rest) more
  behind offers d es k {more = more} p = by (bounded L G a tok make offers p)
    where
      by : (more ≡ []) ⊎ Bounded L G a tok make offers (with_rest d (k.put ++ k.left)) more → Shorter (length d.rest) more
      by (inl e) = subst (Shorter (length d.rest)) (sym e) tt
      by (inr b) =
          let lt = later L G a tok make offers b.steps d b.failure k.put k.left k.gets_past b.fails in
          let le = (left_of L G a tok make es d.rest k.put k.left k.applied).shorter in
          subst (Shorter (length d.rest)) (sym b.first) (all_shorter (length d.rest) b.failure b.others (omega (arith, lt, le)) (subst Advances b.first b.advances))

  -- given sequences for errors with as many lexemes left as d
  abbrev with_error : Config L → List (List Edit) → Offers → Offers
  with_error d offered f e = cond (nat_eq (length e.rest) (length d.rest)) offered (f e)

  at_error : (d : Config L) (offered : List (List Edit)) (f : Offers) → with_error d offered f d ≡ offered
  at_error d offered f = ap (λ b. cond b offered (f d)) (nat_eq_refl (length d.rest))

  elsewhere : (d : Config L) (offered : List (List Edit)) (f : Offers) (errors : List (Config L)) → Shorter (length d.rest) errors → Agree f (with_error d offered f) errors
  elsewhere d offered f [] h = tt
  elsewhere d offered f (e ∷ errors) h = (sym (ap (λ b. cond b offered (f e)) (apart (length e.rest) (length d.rest) h.0)), elsewhere d offered f errors h.1)
    where
      apart : (m n : ℕ) → m < n → nat_eq m n ≡ false
      apart m n lt = grind arith

  maps : (f g : Offers) (errors : List (Config L)) → Agree f g errors → map f errors ≡ map g errors
  maps f g [] h = refl
  maps f g (e ∷ errors) h = ap₂ (λ (x : List (List Edit)) (xs : List (List (List Edit))). x ∷ xs) h.0 (maps f g errors h.1)

  to_function : {c : Config L} {handed : List (List (List Edit))} {r : Option (Tree L)} {errors : List (Config L)} {lexemes : List L} → ParsesWith L G a tok make c handed r errors lexemes →
      (offers : Config L → List (List Edit)) × (map offers errors ≡ handed) × Parses L G a tok make offers c r errors lexemes
  to_function (ParsesWith.accepts n t e h i j k) = let f : Offers = λ d. [] in (f, ap (map f) j ∙ sym h, Parses.accepts n t e i j k)
  to_function (ParsesWith.gives_up n d offered e refused h i j k) = let f : Offers = λ d. offered in (f, ap (map f) j ∙ sym h, Parses.gives_up n d e refused i j k)
  to_function (ParsesWith.repairs n d offered es further more e first h j p) =
      let (f, m, q) = to_function p in
      let g : Offers = with_error d offered f in
      let all : Agree f g more = elsewhere d offered f more (behind f d es first.takes q) in
      let is : g d ≡ offered = at_error d offered f in
      let rest : map g more ≡ further = sym (maps f g more all) ∙ m in
      (g, ap (map g) j ∙ ap₂ (λ (x : List (List Edit)) (xs : List (List (List Edit))). x ∷ xs) is rest ∙ sym h, Parses.repairs n d es more e (as_offered d offered (g d) es is first) j (along f g q all))

  from_function : (f : Offers) {c : Config L} {r : Option (Tree L)} {errors : List (Config L)} {lexemes : List L} → Parses L G a tok make f c r errors lexemes → ParsesWith L G a tok make c (map f errors) r errors lexemes
  from_function f (Parses.accepts n t e i j k) = ParsesWith.accepts n t e (ap (map f) j) i j k
  from_function f (Parses.gives_up n d e refused i j k) = ParsesWith.gives_up n d (f d) e refused (ap (map f) j) i j k
  from_function f (Parses.repairs n d es more e first j p) = ParsesWith.repairs n d (f d) es (map f more) more e first (ap (map f) j) j (from_function f p)

pub handed_is_offered : (L : Type 0) → HandedIsOffered L
handed_is_offered L = record {
  by_function = λ G a tok make c handed r errors lexemes p. to_function L G a tok make p;
  of_function = λ G a tok make offers c r errors lexemes p. from_function L G a tok make offers p;
}
