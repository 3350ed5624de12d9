-- The productions that reduce on a token.
use Rattle.std.proofs.Common.{◌≡◌, ℕ, ◌+◌, ◌<◌, Bool, true, false, cond, List, [], ◌∷◌, ◌++◌, length, get_or, take, drop, Option, Some, None, refl, sym, ap, ◌∙◌, arith, append-nil, append_assoc}
use Rattle.std.specs.Prelude.{slice_get, IfSome, MatchOption}
use Rattle.std.specs.List.{AllByRecursion}
use Rattle.std.specs.Option.{option_or, unwrap_or}
use Rattle.std.proofs.lemmas.Option.{unwrap_or-slice_get}
use Rattle.vob.specs.Packed.{Contents}
use Rattle.state_table.specs.Meeting.{rows_in}
use Rattle.std.proofs.lemmas.List.{get_or-map, map-append, map_more, at_drop_more}
use Rattle.cfg_base.specs.declared.symbol.PIdx.{PIdx}
use Rattle.vob.specs.Sets.{is_set}
use Rattle.table_theory.specs.Cells.{ReduceReduce, pairs_at}
use Rattle.state_table.specs.declared.state_rows.Reduction.{Reduction}
use Rattle.state_table.specs.CellRows.{ReductionValue, reductions_on, first_of, pair_with}
use Rattle.state_table.specs.CellViews.{production_of, reduction_of, reductions_of}

-- a flag, and a set of a list
pub flag_at : (bits : List Bool) (i : ℕ) → unwrap_or (slice_get bits i) false ≡ is_set bits i
flag_at bits i = unwrap_or-slice_get bits i false

pub row_in : (sets : List Contents) (i : ℕ) (x : Contents) → i < length sets → x ≡ get_or sets i x → get_or (rows_in sets) i [] ≡ x.bits
row_in sets i x lt at = get_or-map (λ (v : Contents). v.bits) sets i x [] lt ∙ ap (λ (v : Contents). v.bits) (sym at)

kept_cond : (b : Bool) (q : ℕ) (l m c : List ℕ) → m ≡ l ++ c → cond b (q ∷ m) m ≡ cond b (q ∷ l) l ++ c
kept_cond true q l m c e = ap (λ k. q ∷ k) e
kept_cond false q l m c e = e

-- one reduction more
reductions_put : (rs : List ReductionValue) (r : ReductionValue) (t : ℕ) → reductions_on (rs ++ r ∷ []) t ≡ reductions_on rs t ++ cond (is_set r.looks t) (r.production ∷ []) []
reductions_put [] r t = refl
reductions_put (x ∷ rs) r t = kept_cond (is_set x.looks t) x.production (reductions_on rs t) (reductions_on (rs ++ r ∷ []) t) (cond (is_set r.looks t) (r.production ∷ []) []) (reductions_put rs r t)

first_put : (a : List ℕ) (p : ℕ) → first_of (a ++ p ∷ []) ≡ option_or (first_of a) (Some p)
first_put [] p = refl
first_put (q ∷ a) p = refl

pairs_put : (s t : ℕ) (a : List ℕ) (p : ℕ) → pairs_at s t (a ++ p ∷ []) ≡ pairs_at s t a ++ pair_with (first_of a) s t p
pairs_put s t [] p = refl
pairs_put s t (q ∷ a) p = map-append (λ (x : ℕ). (t, q, x, s)) a (p ∷ [])

-- the first is one of them
below_cond : (b : Bool) (q m n : ℕ) (rest : List ℕ) → q < n → (first_of rest ≡ Some m → m < n) → first_of (cond b (q ∷ rest) rest) ≡ Some m → m < n
below_cond true q m n rest lt h e = let f : q ≡ m = cc in omega (arith, lt, f)
below_cond false q m n rest lt h e = h e

first_below : (rs : List ReductionValue) (t m n : ℕ) → AllByRecursion (λ r. r.production < n) rs → first_of (reductions_on rs t) ≡ Some m → m < n
first_below [] t m n all e = cc
first_below (r ∷ rs) t m n all e = below_cond (is_set r.looks t) r.production m n (reductions_on rs t) all.0 (λ f. first_below rs t m n all.1 f) e

pub first_within : {S : Type 0} (number : S → ℕ) (o : Option (PIdx S)) (n : ℕ) (rs : List ReductionValue) (t : ℕ) → AllByRecursion (λ r. r.production < n) rs → production_of number o ≡ first_of (reductions_on rs t) → IfSome o (λ p. number p.0 < n)
first_within number None n rs t all e = tt
first_within number (Some p) n rs t all e = first_below rs t (number p.0) n all (sym e)

module _ {S : Type 0} (number : S → ℕ) (sets : List (List Bool)) (xs : List (Reduction S)) (t i : ℕ) (x : Reduction S) (lt : i < length xs) (at : x ≡ get_or xs i x) where
  abbrev upto : ℕ → List ℕ
  upto k = reductions_on (reductions_of number sets (take k xs)) t

  abbrev own : List ℕ
  own = cond (is_set (get_or sets x.set []) t) (number x.pidx.0 ∷ []) []

  more : upto (i + 1) ≡ upto i ++ own
  more = ap (λ l. reductions_on l t) (map_more (reduction_of number sets) xs i x lt ∙ ap (λ y. reductions_of number sets (take i xs) ++ reduction_of number sets y ∷ []) (sym at)) ∙ reductions_put (reductions_of number sets (take i xs)) (reduction_of number sets x) t

  with_own : is_set (get_or sets x.set []) t ≡ true → upto (i + 1) ≡ upto i ++ number x.pidx.0 ∷ []
  with_own e = more ∙ ap (λ b. upto i ++ cond b (number x.pidx.0 ∷ []) []) e

  pub without_own : is_set (get_or sets x.set []) t ≡ false → upto (i + 1) ≡ upto i
  without_own e = more ∙ (ap (λ b. upto i ++ cond b (number x.pidx.0 ∷ []) []) e ∙ append-nil (upto i))

  -- the first one so far, and the pairs so far, with one that reduces
  pub first_noted : (old new : Option ℕ) → is_set (get_or sets x.set []) t ≡ true → old ≡ first_of (upto i) → new ≡ option_or old (Some (number x.pidx.0)) → new ≡ first_of (upto (i + 1))
  first_noted old new e h n = n ∙ (ap (λ o. option_or o (Some (number x.pidx.0))) h ∙ (sym (first_put (upto i) (number x.pidx.0)) ∙ ap first_of (sym (with_own e))))

  pub pairs_noted : (s : ℕ) (first : Option ℕ) (before old new : List ReduceReduce) → is_set (get_or sets x.set []) t ≡ true → first ≡ first_of (upto i) → old ≡ before ++ pairs_at s t (upto i) → new ≡ old ++ pair_with first s t (number x.pidx.0) → new ≡ before ++ pairs_at s t (upto (i + 1))
  pairs_noted s first before old new e f h n =
      n ∙ (ap (λ l. l ++ pair_with first s t (number x.pidx.0)) h ∙ (append_assoc before (pairs_at s t (upto i)) (pair_with first s t (number x.pidx.0))
      ∙ (ap (λ o. before ++ (pairs_at s t (upto i) ++ pair_with o s t (number x.pidx.0))) f ∙ ap (λ l. before ++ l) (sym (pairs_put s t (upto i) (number x.pidx.0)) ∙ ap (λ l. pairs_at s t l) (sym (with_own e))))))

  -- and with one that doesn't
  pub first_kept : (old new : Option ℕ) → is_set (get_or sets x.set []) t ≡ false → old ≡ first_of (upto i) → new ≡ old → new ≡ first_of (upto (i + 1))
  first_kept old new e h n = n ∙ (h ∙ ap first_of (sym (without_own e)))

  pub pairs_kept : (s : ℕ) (before old new : List ReduceReduce) → is_set (get_or sets x.set []) t ≡ false → old ≡ before ++ pairs_at s t (upto i) → new ≡ old → new ≡ before ++ pairs_at s t (upto (i + 1))
  pairs_kept s before old new e h n = n ∙ (h ∙ ap (λ l. before ++ pairs_at s t l) (sym (without_own e)))

  abbrev from : List (Reduction S) → Option ℕ
  from ys = first_of (reductions_on (reductions_of number sets ys) t)

  at_hand : from (drop i xs) ≡ first_of (cond (is_set (get_or sets x.set []) t) (number x.pidx.0 ∷ reductions_on (reductions_of number sets (drop (i + 1) xs)) t) (reductions_on (reductions_of number sets (drop (i + 1) xs)) t))
  at_hand = at_drop_more from xs i x lt ∙ ap (λ y. from (y ∷ drop (i + 1) xs)) (sym at)

  -- the first of those that are left
  pub passed : is_set (get_or sets x.set []) t ≡ false → from (drop i xs) ≡ from (drop (i + 1) xs)
  passed e = at_hand ∙ ap (λ b. first_of (cond b (number x.pidx.0 ∷ reductions_on (reductions_of number sets (drop (i + 1) xs)) t) (reductions_on (reductions_of number sets (drop (i + 1) xs)) t))) e

  pub found : is_set (get_or sets x.set []) t ≡ true → from (drop i xs) ≡ Some (number x.pidx.0)
  found e = at_hand ∙ ap (λ b. first_of (cond b (number x.pidx.0 ∷ reductions_on (reductions_of number sets (drop (i + 1) xs)) t) (reductions_on (reductions_of number sets (drop (i + 1) xs)) t))) e

-- what contests accept
pub contests : {S : Type 0} (number : S → ℕ) (o : Option (PIdx S)) (accepts : Bool) (ps : List ℕ) → accepts ≡ true → production_of number o ≡ first_of ps → MatchOption o ((p : ℕ) → (accepts ≡ true) × (first_of ps ≡ Some p) → ⊥) (λ p. (accepts ≡ true) × (first_of ps ≡ Some (number p.0)))
contests number None accepts ps a e = λ p h. let f = h.1 in cc
contests number (Some p) accepts ps a e = (a, sym e)
