-- Rows that are spread, place by place and row by row.
use Rattle.std.proofs.Common.{◌≡◌, ℕ, zero, suc, ◌+◌, ◌<◌, ◌≤◌, ◌⊎◌, inl, inr, ⊎_elim, List, [], ◌∷◌, ◌++◌, length, get_or, map, Option, Some, None, refl, sym, ap, ◌∙◌, subst, arith}
use Rattle.std.specs.Prelude.{slice_get, slice_set, IfSome, replicate}
use Rattle.std.specs.declared.alloc.Global.{Global}
use Rattle.std.specs.declared.vec.Vec.{Vec}
use Rattle.std.proofs.lemmas.Bool.{cases_lt, cases_eq}
use Rattle.std.proofs.lemmas.List.{length-replicate, get_or-replicate, length-map, get_or-map}
use Rattle.std.proofs.lemmas.Option.{get_or_from_slice_get, slice_get_within, slice_get-get_or, same_Some}
use Rattle.state_table.specs.Rows.{Rises, Below, at_of}
use Rattle.state_table.specs.SpreadRows.{IsSpread, AreSpread, TellsAt, CanSpread}
use Rattle.state_table.proofs.FullRows.{rises_under}
use Rattle.state_table.proofs.RowsAt.{at_index, at_nowhere}

set_same : {X : Type 0} (xs : List X) (q : ℕ) (b c : X) → slice_get (slice_set xs q b) q ≡ Some c → b ≡ c
set_same [] q b c e = cc
set_same (x ∷ xs) zero b c e = same_Some b c e
set_same (x ∷ xs) (suc q) b c e = set_same xs q b c e

set_other : {X : Type 0} (xs : List X) (q u : ℕ) (b : X) → (u ≡ q → ⊥) → slice_get (slice_set xs q b) u ≡ slice_get xs u
set_other [] q u b ne = refl
set_other (x ∷ xs) zero zero b ne = absurd (ne refl)
set_other (x ∷ xs) zero (suc u) b ne = refl
set_other (x ∷ xs) (suc q) zero b ne = refl
set_other (x ∷ xs) (suc q) (suc u) b ne = set_other xs q u b (λ e. ne (ap suc e))

set_length : {X : Type 0} (xs : List X) (q : ℕ) (b : X) → length (slice_set xs q b) ≡ length xs
set_length [] q b = refl
set_length (x ∷ xs) zero b = refl
set_length (x ∷ xs) (suc q) b = ap suc (set_length xs q b)

appended : {X : Type 0} (xs : List X) (x y : X) (k : ℕ) → slice_get (xs ++ x ∷ []) k ≡ Some y → (slice_get xs k ≡ Some y) ⊎ ((k ≡ length xs) × (x ≡ y))
appended [] x y zero e = inr (refl, same_Some x y e)
appended [] x y (suc k) e = cc
appended (z ∷ xs) x y zero e = inl e
appended (z ∷ xs) x y (suc k) e = ⊎_elim (λ h. inl h) (λ h. inr (ap suc h.0, h.1)) (appended xs x y k e)

appended_length : {X : Type 0} (xs : List X) (x : X) → length (xs ++ x ∷ []) ≡ length xs + 1
appended_length [] x = omega arith
appended_length (z ∷ xs) x = let h : length (xs ++ x ∷ []) ≡ length xs + 1 = appended_length xs x in omega (arith, h)

-- a place is told by the row, or is empty where none of the first i entries has its number
pub record SpreadTo {V : Type 0} (n : ℕ) (row : List (ℕ × V)) (i : ℕ) (spread : List (Option V)) : Type 0 where
  pub count : length spread ≡ n
  pub each : (k : ℕ) (o : Option V) → slice_get spread k ≡ Some o → (o ≡ at_of row k) ⊎ ((o ≡ None) × ((j : ℕ) (d : ℕ × V) → j < i → j < length row → (get_or row j d).0 ≡ k → ⊥))

module _ {V : Type 0} (n : ℕ) (row : List (ℕ × V)) where
  pub spread_start : (spread : List (Option V)) → spread ≡ replicate n None → SpreadTo n row 0 spread
  spread_start spread e = record {
    count = ap (λ (l : List (Option V)). length l) e ∙ length-replicate n None;
    each = λ k o at.
        let w = slice_get_within spread k o at in
        let len : length spread ≡ n = ap (λ (l : List (Option V)). length l) e ∙ length-replicate n None in
        inr (sym (get_or_from_slice_get spread k o o at) ∙ (ap (λ (l : List (Option V)). get_or l k o) e ∙ get_or-replicate n k None o (omega (arith, w, len))), λ j d lt. absurd (omega (arith, lt)));
  }

  pub spread_more : (i : ℕ) (x : ℕ × V) (spread new : List (Option V)) → Rises row → i < length row → x ≡ get_or row i x → new ≡ slice_set spread x.0 (Some x.1) → SpreadTo n row i spread → SpreadTo n row (i + 1) new
  spread_more i x spread new up lt read e h = subst (SpreadTo n row (i + 1)) (sym e) (record {
    count = set_length spread x.0 (Some x.1) ∙ h.count;
    each = λ k o at. elim (cases_eq k x.0) [
      | inl same ↦
          let here : Some x.1 ≡ o = set_same spread x.0 (Some x.1) o (ap (slice_get (slice_set spread x.0 (Some x.1))) (sym same) ∙ at) in
          let found = at_index row i x up lt in
          inl (sym here ∙ (ap (λ (y : ℕ × V). Some y.1) read ∙ (sym found ∙ (ap (λ (y : ℕ × V). at_of row y.0) (sym read) ∙ ap (at_of row) (sym same)))))
      | inr ne ↦ elim (h.each k o (sym (set_other spread x.0 k (Some x.1) ne) ∙ at)) [
        | inl told ↦ inl told
        | inr none ↦ inr (
          none.0,
          λ j d l w f. elim (cases_lt j i) [
            | inl before ↦ none.1 j d before w f
            | inr ge ↦
                let s : j ≡ i = omega (arith, l, ge) in
                ne (sym f ∙ (ap (λ m. (get_or row m d).0) s ∙ (entry i d lt ∙ ap (λ (y : ℕ × V). y.0) (sym read))))
          ],
        )
      ]
    ];
  })
    where
      entry : (m : ℕ) (d : ℕ × V) → m < length row → (get_or row m d).0 ≡ (get_or row m x).0
      entry m d w = ap (λ (y : ℕ × V). y.0) (get_or_from_slice_get row m (get_or row m x) d (slice_get-get_or row m x w))

  pub spread_all : (i : ℕ) (spread : List (Option V)) → length row ≤ i → SpreadTo n row i spread → IsSpread row spread
  spread_all i spread le h = λ k o at. elim (h.each k o at) [
    | inl told ↦ told
    | inr none ↦ none.0 ∙ sym (at_nowhere row k (λ j d w f. none.1 j d (omega (arith, w, le)) w f))
  ]

-- rows
pub spread_none : {V : Type 0} (rows : List (Vec (ℕ × V) Global)) → AreSpread rows []
spread_none rows s x e = cc

pub rows_more : {V : Type 0} (rows : List (Vec (ℕ × V) Global)) (spreads : List (Vec (Option V) Global)) (r : Vec (ℕ × V) Global) (x : Vec (Option V) Global) → AreSpread rows spreads → slice_get rows (length spreads) ≡ Some r → IsSpread r.items x.items → AreSpread rows (spreads ++ x ∷ [])
rows_more {V} rows spreads r x h at is s y e = elim (appended spreads x y s e) [
  | inl old ↦ h s y old
  | inr new ↦ (r, ap (slice_get rows) new.0 ∙ at, subst (λ (z : Vec (Option V) Global). IsSpread r.items z.items) new.1 is)
]

pub rows_count : {V : Type 0} (spreads : List (Vec (Option V) Global)) (x : Vec (Option V) Global) (s : ℕ) → length spreads ≡ s → length (spreads ++ x ∷ []) ≡ s + 1
rows_count spreads x s e = appended_length spreads x ∙ ap (λ k. k + 1) e

-- a place of a full row
pub told_by : {V : Type 0} (rows : List (Vec (ℕ × V) Global)) (spreads : List (Vec (Option V) Global)) (s k : ℕ) (x : Vec (Option V) Global) (o : Option V) → AreSpread rows spreads → slice_get spreads s ≡ Some x → slice_get x.items k ≡ Some o → TellsAt rows s k o
told_by rows spreads s k x o h at told =
    let y = h s x at in
    (y.0, y.1, y.2 k o told)

pub told_if : {V : Type 0} (spreads : List (Vec (Option V) Global)) (s k : ℕ) (x : Vec (Option V) Global) (p : Option (Option V)) → slice_get spreads s ≡ Some x → p ≡ slice_get x.items k → IfSome p (λ o. (rows : List (Vec (ℕ × V) Global)) → AreSpread rows spreads → TellsAt rows s k o)
told_if spreads s k x None at e = tt
told_if spreads s k x (Some o) at e = λ rows h. told_by rows spreads s k x o h at (sym e)

-- the row that is told of
pub told_within : {V : Type 0} (rows : List (Vec (ℕ × V) Global)) (s k : ℕ) (o : Option V) (t : TellsAt rows s k o) → s < length rows
told_within rows s k o t = slice_get_within rows s t.0 t.1

pub told_read : {V : Type 0} (rows : List (Vec (ℕ × V) Global)) (s k : ℕ) (o : Option V) (t : TellsAt rows s k o) → t.0 ≡ get_or rows s t.0
told_read rows s k o t = sym (get_or_from_slice_get rows s t.0 t.0 t.1)

-- rows that can be spread
below_of : {V W : Type 0} (h : V → W) (row : List (ℕ × V)) (n : ℕ) → Below n (map (λ (e : ℕ × V). (e.0, h e.1)) row) → Below n row
below_of {V} {W} h row n low i d w =
    let f : ℕ × V → ℕ × W = λ e. (e.0, h e.1) in
    let k = length-map row f in
    let b = low i (f d) (omega (arith, k, w)) in
    let e = ap (λ (y : ℕ × W). y.0) (get_or-map f row i d (f d) w) in
    omega (arith, b, e)

pub can_spread : {V W : Type 0} (h : V → W) (n : ℕ) (rows : List (Vec (ℕ × V) Global)) → ((s : ℕ) (r : Vec (ℕ × V) Global) → s < length rows → r ≡ get_or rows s r → Rises (map (λ (e : ℕ × V). (e.0, h e.1)) r.items) × Below n (map (λ (e : ℕ × V). (e.0, h e.1)) r.items)) → CanSpread n rows
can_spread h n rows each s r at =
    let k = each s r (slice_get_within rows s r at) (sym (get_or_from_slice_get rows s r r at)) in
    (rises_under h r.items k.0, below_of h r.items n k.1)
