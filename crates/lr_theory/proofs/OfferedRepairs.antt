-- Which of the offered sequences can be taken, and when a value comes.
use Rattle.std.proofs.Common.{◌≡◌, ℕ, List, [], ◌∷◌, ◌++◌, Option, None, refl, sym, ap, subst}
use Rattle.std.specs.Prelude.{IsSome}
use Rattle.std.specs.List.{AllByRecursion}
use Rattle.cfg_theory.specs.Grammar.{Grammar}
use Rattle.cfg_theory.specs.Tree.{Tree}
use Rattle.lr_theory.specs.Automaton.{Automaton}
use Rattle.lr_theory.specs.Machine.{Config}
use Rattle.lr_theory.specs.Repair.{Edit, Takes, Parses, accepts, gives_up, repairs}
use Rattle.lr_theory.specs.OfferedRepairs.{Filtered, HasRepair, RepairsAreOffered, ValuesComeByRepairs}
use Rattle.lr_theory.proofs.OneAnswer.{not_refused}

module _ {X : Type 0} (P : X → Type 0) where
  kept_same : {xs ys zs : List X} → Filtered P xs ys → Filtered P xs zs → ys ≡ zs
  kept_same Filtered.none Filtered.none = refl
  kept_same (Filtered.kept {x} p h) (Filtered.kept q k) = ap (λ l. x ∷ l) (kept_same h k)
  kept_same (Filtered.kept p h) (Filtered.dropped n k) = absurd (n p)
  kept_same (Filtered.dropped n h) (Filtered.kept p k) = absurd (n p)
  kept_same (Filtered.dropped n h) (Filtered.dropped m k) = kept_same h k

  -- behind what is refused stands the first that is kept
  pub record Split (xs : List X) (y : X) : Type 0 where
    earlier : List X
    later : List X
    is : xs ≡ earlier ++ y ∷ later
    refused : AllByRecursion (λ x. P x → ⊥) earlier
    here : P y

  split : {xs zs : List X} → Filtered P xs zs → (y : X) (ys : List X) → zs ≡ y ∷ ys → Split xs y
  split Filtered.none y ys e = cc
  split (Filtered.kept {x} {xs} p h) y ys e = let same : x ≡ y = cc in record { earlier = []; later = xs; is = ap (λ z. z ∷ xs) same; refused = tt; here = subst P same p }
  split (Filtered.dropped {x} {xs} n h) y ys e =
      let s = split h y ys e in
      record { earlier = x ∷ s.earlier; later = s.later; is = ap (λ l. x ∷ l) s.is; refused = (n, s.refused); here = s.here }

  joined : (earlier later : List X) (y : X) → AllByRecursion (λ x. P x → ⊥) earlier → P y → {xs zs : List X} → Filtered P xs zs → xs ≡ earlier ++ y ∷ later → (ys : List X) × (zs ≡ y ∷ ys)
  joined [] later y all p Filtered.none e = cc
  joined [] later y all p (Filtered.kept {x} {xs} {ys} q h) e = let same : x ≡ y = cc in (ys, ap (λ z. z ∷ ys) same)
  joined [] later y all p (Filtered.dropped {x} n h) e = let same : x ≡ y = cc in absurd (n (subst P (sym same) p))
  joined (z ∷ earlier) later y all p Filtered.none e = cc
  joined (z ∷ earlier) later y all p (Filtered.kept {x} q h) e = let same : x ≡ z = cc in absurd (all.0 (subst P same q))
  joined (z ∷ earlier) later y all p (Filtered.dropped {x} {xs} n h) e = joined earlier later y all.1 p h (let same : xs ≡ earlier ++ y ∷ later = cc in same)

  none_kept : {xs zs : List X} → Filtered P xs zs → zs ≡ [] → AllByRecursion (λ x. P x → ⊥) xs
  none_kept Filtered.none e = tt
  none_kept (Filtered.kept p h) e = cc
  none_kept (Filtered.dropped n h) e = (n, none_kept h e)

  all_dropped : (xs : List X) → AllByRecursion (λ x. P x → ⊥) xs → Filtered P xs []
  all_dropped [] all = Filtered.none
  all_dropped (x ∷ xs) all = Filtered.dropped all.0 (all_dropped xs all.1)

pub repairs_are_offered : (L : Type 0) → RepairsAreOffered L
repairs_are_offered L = record {
  unique = λ G a tok make d offered repairs others h k. kept_same (Takes G a tok make d) h k;
  first = λ G a tok make d offered more es h.
      let s = split (Takes G a tok make d) h es more refl in
      record { earlier = s.earlier; later = s.later; is_offered = s.is; are_refused = s.refused; takes = s.here };
  is_first = λ G a tok make d offered repairs es h k. joined (Takes G a tok make d) k.earlier k.later es k.are_refused k.takes h k.is_offered;
  none = λ G a tok make d offered. (λ h. none_kept (Takes G a tok make d) h refl, all_dropped (Takes G a tok make d) offered);
}

module _ (L : Type 0) (G : Grammar) (a : Automaton) (tok : L → ℕ) (make : ℕ → List L → L) (offers : Config L → List (List Edit)) where
  not_some : IsSome {T = Tree L} None → ⊥
  not_some h = cc

  there : {c : Config L} {r : Option (Tree L)} {errors : List (Config L)} {lexemes : List L} → Parses L G a tok make offers c r errors lexemes → IsSome r → AllByRecursion (HasRepair G a tok make offers) errors
  there (accepts n t h i j k) some = subst (AllByRecursion (HasRepair G a tok make offers)) (sym j) tt
  there (gives_up n d h i j k l) some = absurd (not_some (subst IsSome j some))
  there (repairs n d es more h first j p) some = subst (AllByRecursion (HasRepair G a tok make offers)) (sym j) ((es, first), there p some)

  back : {c : Config L} {r : Option (Tree L)} {errors : List (Config L)} {lexemes : List L} → Parses L G a tok make offers c r errors lexemes → AllByRecursion (HasRepair G a tok make offers) errors → IsSome r
  back (accepts n t h i j k) all = subst IsSome (sym i) refl
  back (gives_up n d h i j k l) all =
      let (es, first) = (subst (AllByRecursion (HasRepair G a tok make offers)) k all).0 in
      absurd (not_refused L G a tok make d first.earlier es first.later (subst (AllByRecursion (λ e. Takes G a tok make d e → ⊥)) first.is_offered i) first.takes)
  back (repairs n d es more h first j p) all = back p (subst (AllByRecursion (HasRepair G a tok make offers)) j all).1

pub values_come_by_repairs : (L : Type 0) → ValuesComeByRepairs L
values_come_by_repairs L = record { comes = λ G a tok make offers c r errors lexemes p. (there L G a tok make offers p, back L G a tok make offers p) }
