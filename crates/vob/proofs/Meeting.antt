-- Whether two lists are true at one index.
use Rattle.std.proofs.Common.{◌≡◌, ℕ, zero, suc, ◌+◌, ◌-◌, ◌*◌, ◌<◌, ◌≤◌, ◌⊎◌, inl, inr, ◌↔◌, Bool, true, false, not, cond, ◌&&◌, ◌||◌, List, [], ◌∷◌, ◌++◌, length, get_or, take, drop, replicate, map, refl, sym, ap, ◌∙◌, subst, subst₂, arith}
use Rattle.std.specs.Prelude.{IsTrue}
use Rattle.std.specs.List.{flat_map}
use Rattle.std.proofs.lemmas.List.{length-map, get_or-map, map-append, take-append-drop, get_or_past}
use Rattle.std.proofs.lemmas.List.Concat.{flat_map-append}
use Rattle.std.proofs.lemmas.Bool.{cases_lt}
use Rattle.vob.specs.Bits.{bitwise, Meets, IsApart, HoldsAll, LacksSome}
use Rattle.vob.specs.Packed.{blocks_for}
use Rattle.vob.proofs.Pack as pack
use Rattle.vob.proofs.Setwise as setwise

never : false ≡ true → ⊥
never e = cc

is_false : (x : Bool) → (IsTrue x → ⊥) → x ≡ false
is_false true h = absurd (h refl)
is_false false h = refl

is_true : (x : Bool) → (x ≡ false → ⊥) → IsTrue x
is_true true h = refl
is_true false h = absurd (h refl)

-- a bit of both
pub anded : (xs ys : List Bool) (t : ℕ) → IsTrue (get_or (bitwise (λ x y. x && y) xs ys) t false) ↔ (IsTrue (get_or xs t false) × IsTrue (get_or ys t false))
anded [] ys t = (λ h. absurd (never h), λ h. absurd (never h.0))
anded (x ∷ xs) [] t = (λ h. absurd (never h), λ h. absurd (never h.1))
anded (true ∷ xs) (y ∷ ys) zero = (λ h. (refl, h), λ h. h.1)
anded (false ∷ xs) (y ∷ ys) zero = (λ h. absurd (never h), λ h. absurd (never h.0))
anded (x ∷ xs) (y ∷ ys) (suc t) = anded xs ys t

-- a bit of either
ored : (xs ys : List Bool) (t : ℕ) → length xs ≡ length ys → IsTrue (get_or (bitwise (λ x y. x || y) xs ys) t false) ↔ (IsTrue (get_or xs t false) ⊎ IsTrue (get_or ys t false))
ored [] [] t e = (λ h. absurd (never h), λ h. elim h [ inl x ↦ absurd (never x) | inr y ↦ absurd (never y) ])
ored [] (y ∷ ys) t e = absurd (omega (arith, e))
ored (x ∷ xs) [] t e = absurd (omega (arith, e))
ored (true ∷ xs) (y ∷ ys) zero e = (λ h. inl refl, λ h. refl)
ored (false ∷ xs) (true ∷ ys) zero e = (λ h. inr refl, λ h. refl)
ored (false ∷ xs) (false ∷ ys) zero e = (λ h. absurd (never h), λ h. elim h [ inl x ↦ absurd (never x) | inr y ↦ absurd (never y) ])
ored (x ∷ xs) (y ∷ ys) (suc t) e = ored xs ys t (omega (arith, e))

-- some bit is set
abbrev pub HasOne : List Bool → Type 0
HasOne xs = (t : ℕ) × IsTrue (get_or xs t false)

meets_cons : (x y : Bool) (a c : List Bool) → Meets (x ∷ a) (y ∷ c) → (IsTrue x × IsTrue y) ⊎ Meets a c
meets_cons x y a c (t, h, k) = at t h k
  where
    at : (t : ℕ) → IsTrue (get_or (x ∷ a) t false) → IsTrue (get_or (y ∷ c) t false) → (IsTrue x × IsTrue y) ⊎ Meets a c
    at zero h k = inl (h, k)
    at (suc t) h k = inr (t, h, k)

meets_on : (x y : Bool) (a c : List Bool) → Meets a c → Meets (x ∷ a) (y ∷ c)
meets_on x y a c (t, h, k) = (suc t, h, k)

pub meets_append : (a b c d : List Bool) → length a ≡ length c → Meets (a ++ b) (c ++ d) ↔ (Meets a c ⊎ Meets b d)
meets_append [] b [] d e = (λ h. inr h, λ h. elim h [ inl x ↦ absurd (never x.1) | inr y ↦ y ])
meets_append [] b (y ∷ c) d e = absurd (omega (arith, e))
meets_append (x ∷ a) b [] d e = absurd (omega (arith, e))
meets_append (x ∷ a) b (y ∷ c) d e =
    let r = meets_append a b c d (omega (arith, e)) in (
      λ h. elim (meets_cons x y (a ++ b) (c ++ d) h) [ inl u ↦ inl (zero, u.0, u.1) | inr m ↦ elim (r.0 m) [ inl u ↦ inl (meets_on x y a c u) | inr v ↦ inr v ] ],
      λ h. elim h [ inl u ↦ elim (meets_cons x y a c u) [ inl z ↦ (zero, z.0, z.1) | inr m ↦ meets_on x y (a ++ b) (c ++ d) (r.1 (inl m)) ] | inr v ↦ meets_on x y (a ++ b) (c ++ d) (r.1 (inr v)) ],
    )

none_set : (n t : ℕ) → IsTrue (get_or (replicate n false) t false) → ⊥
none_set zero t h = never h
none_set (suc n) zero h = never h
none_set (suc n) (suc t) h = none_set n t h

-- unused bits past the end
pub meets_padded : (a c x y : List Bool) (n : ℕ) (z : List Bool) → length a ≡ length c → x ≡ a ++ replicate n false → y ≡ c ++ z → Meets x y ↔ Meets a c
meets_padded a c x y n z len ex ey =
    let r = meets_append a (replicate n false) c z len in (
      λ h. elim (r.0 (subst₂ (λ p q. Meets p q) ex ey h)) [ inl u ↦ u | inr v ↦ absurd (none_set n v.0 v.1) ],
      λ h. subst₂ (λ p q. Meets p q) (sym ex) (sym ey) (r.1 (inl h)),
    )

-- ---- bits as they are, or each of them turned

abbrev pub turned : Bool → List Bool → List Bool
turned v xs = cond v xs (map not xs)

pub turned-append : (v : Bool) (a b : List Bool) → turned v (a ++ b) ≡ turned v a ++ turned v b
turned-append true a b = refl
turned-append false a b = map-append not a b

pub length-turned : (v : Bool) (a : List Bool) → length (turned v a) ≡ length a
length-turned true a = refl
length-turned false a = length-map a not

-- ---- block by block

module _ {X : Type 0} (bits : X → List Bool) (w : ℕ) (each : (x : X) → length (bits x) ≡ w) where
  -- whether a block that is the `and` of two has a bit tells whether they meet
  pub block_meets : (x z : X) (other : List Bool) (zeros : ℕ) → bits z ≡ bitwise (λ p q. p && q) (bits x) other → (zeros < w → get_or (bits z) zeros false ≡ true) → ((i : ℕ) → i < zeros → get_or (bits z) i false ≡ false) →
      (zeros < w → Meets (bits x) other) × (w ≤ zeros → Meets (bits x) other → ⊥)
  block_meets x z other zeros made found before = (λ lt. some (found lt), λ le m. none le m)
    where
      some : get_or (bits z) zeros false ≡ true → Meets (bits x) other
      some h = let p = (anded (bits x) other zeros).0 (subst (λ l. IsTrue (get_or l zeros false)) made h) in (zeros, p.0, p.1)

      none : w ≤ zeros → Meets (bits x) other → ⊥
      none le (t, h, k) =
          let set : IsTrue (get_or (bits z) t false) = subst (λ l. IsTrue (get_or l t false)) (sym made) ((anded (bits x) other t).1 (h, k)) in
          elim (cases_lt t zeros) [ inl lt ↦ never (sym (before t lt) ∙ set) | inr ge ↦ never (sym (get_or_past (bits z) t false (let n = each z in omega (arith, n, le, ge))) ∙ set) ]

  -- no block has been read
  pub sees_none : (xs ys : List X) (z : X) (v : Bool) (n : ℕ) → bits z ≡ replicate n false → HasOne (bits z) ↔ Meets (flat_map bits (take 0 xs)) (turned v (flat_map bits (take 0 ys)))
  sees_none xs ys z v n e = (λ h. absurd (none_set n h.0 (subst (λ l. IsTrue (get_or l h.0 false)) e h.1)), λ m. absurd (never m.1))

  -- the bits below the lowest one tell whether there is one
  pub has_one : (z : X) (zeros : ℕ) → (zeros < w → get_or (bits z) zeros false ≡ true) → ((i : ℕ) → i < zeros → get_or (bits z) i false ≡ false) → (zeros < w → HasOne (bits z)) × (w ≤ zeros → HasOne (bits z) → ⊥)
  has_one z zeros found before = (
    λ lt. (zeros, found lt),
    λ le h. elim (cases_lt h.0 zeros) [ inl lt ↦ never (sym (before h.0 lt) ∙ h.1) | inr ge ↦ never (sym (get_or_past (bits z) h.0 false (let n = each z in omega (arith, n, le, ge))) ∙ h.1) ],
  )

  -- lists of as many bits are kept in as many blocks
  pub as_many : (a b : List Bool) (xs ys : List X) → 0 < w → length a ≡ length b → flat_map bits xs ≡ a ++ replicate (blocks_for w (length a) * w - length a) false →
      flat_map bits ys ≡ b ++ replicate (blocks_for w (length b) * w - length b) false → length xs ≡ length ys
  as_many a b xs ys some len ex ey =
      pack.blocks_are bits w each xs (length a) some (pack.closed w (length a) a (flat_map bits xs) some ex refl)
      ∙ ap (blocks_for w) len
      ∙ sym (pack.blocks_are bits w each ys (length b) some (pack.closed w (length b) b (flat_map bits ys) some ey refl))

  -- the first blocks, and one more
  module _ (xs ys : List X) (k : ℕ) (x y : X) (v : Bool) (len : length xs ≡ length ys) (lt : k < length xs) (ex : x ≡ get_or xs k x) (ey : y ≡ get_or ys k y) where
    more_x : flat_map bits (take (k + 1) xs) ≡ flat_map bits (take k xs) ++ bits x
    more_x = setwise.spelled_more bits w each xs k x lt ex

    more_y : turned v (flat_map bits (take (k + 1) ys)) ≡ turned v (flat_map bits (take k ys)) ++ turned v (bits y)
    more_y = ap (turned v) (setwise.spelled_more bits w each ys k y (omega (arith, len, lt)) ey) ∙ turned-append v (flat_map bits (take k ys)) (bits y)

    same_front : (n : ℕ) → length (flat_map bits (take n xs)) ≡ length (turned v (flat_map bits (take n ys)))
    same_front n = setwise.equal_lengths bits w each xs ys n len ∙ sym (length-turned v (flat_map bits (take n ys)))

    pub none_more : (Meets (flat_map bits (take k xs)) (turned v (flat_map bits (take k ys))) → ⊥) → (Meets (bits x) (turned v (bits y)) → ⊥) → Meets (flat_map bits (take (k + 1) xs)) (turned v (flat_map bits (take (k + 1) ys))) → ⊥
    none_more before here m =
        elim ((meets_append (flat_map bits (take k xs)) (bits x) (turned v (flat_map bits (take k ys))) (turned v (bits y)) (same_front k)).0 (subst₂ (λ p q. Meets p q) more_x more_y m)) [ inl u ↦ before u | inr u ↦ here u ]

    -- bits that are set where the blocks so far meet, and those of one block more
    pub sees_more : (seen new next : X) → bits new ≡ bitwise (λ p q. p && q) (bits x) (turned v (bits y)) → bits next ≡ bitwise (λ p q. p || q) (bits seen) (bits new) → HasOne (bits seen) ↔ Meets (flat_map bits (take k xs)) (turned v (flat_map bits (take k ys))) →
        HasOne (bits next) ↔ Meets (flat_map bits (take (k + 1) xs)) (turned v (flat_map bits (take (k + 1) ys)))
    sees_more seen new next made joined before = (
      λ h. elim ((either h.0).0 (subst (λ l. IsTrue (get_or l h.0 false)) joined h.1)) [
        | inl s ↦ back (inl (before.0 (h.0, s)))
        | inr n ↦ (let p = (anded (bits x) (turned v (bits y)) h.0).0 (subst (λ l. IsTrue (get_or l h.0 false)) made n) in back (inr (h.0, p.0, p.1)))
      ],
      λ m. elim (both.0 (subst₂ (λ p q. Meets p q) more_x more_y m)) [
        | inl u ↦ (let s = before.1 u in on s.0 (inl s.1))
        | inr u ↦ on u.0 (inr (subst (λ l. IsTrue (get_or l u.0 false)) (sym made) ((anded (bits x) (turned v (bits y)) u.0).1 (u.1, u.2))))
      ],
    )
      where
        both : Meets (flat_map bits (take k xs) ++ bits x) (turned v (flat_map bits (take k ys)) ++ turned v (bits y)) ↔ (Meets (flat_map bits (take k xs)) (turned v (flat_map bits (take k ys))) ⊎ Meets (bits x) (turned v (bits y)))
        both = meets_append (flat_map bits (take k xs)) (bits x) (turned v (flat_map bits (take k ys))) (turned v (bits y)) (same_front k)

        back : Meets (flat_map bits (take k xs)) (turned v (flat_map bits (take k ys))) ⊎ Meets (bits x) (turned v (bits y)) → Meets (flat_map bits (take (k + 1) xs)) (turned v (flat_map bits (take (k + 1) ys)))
        back u = subst₂ (λ p q. Meets p q) (sym more_x) (sym more_y) (both.1 u)

        either : (t : ℕ) → IsTrue (get_or (bitwise (λ p q. p || q) (bits seen) (bits new)) t false) ↔ (IsTrue (get_or (bits seen) t false) ⊎ IsTrue (get_or (bits new) t false))
        either t = ored (bits seen) (bits new) t (each seen ∙ sym (each new))

        on : (t : ℕ) → IsTrue (get_or (bits seen) t false) ⊎ IsTrue (get_or (bits new) t false) → HasOne (bits next)
        on t o = (t, subst (λ l. IsTrue (get_or l t false)) (sym joined) ((either t).1 o))

    split : (zs : List X) → flat_map bits (take (k + 1) zs) ++ flat_map bits (drop (k + 1) zs) ≡ flat_map bits zs
    split zs = sym (flat_map-append bits (take (k + 1) zs) (drop (k + 1) zs)) ∙ ap (flat_map bits) (take-append-drop (k + 1) zs)

    pub one_meets : Meets (bits x) (turned v (bits y)) → Meets (flat_map bits xs) (turned v (flat_map bits ys))
    one_meets m =
        let front = subst₂ (λ p q. Meets p q) (sym more_x) (sym more_y) ((meets_append (flat_map bits (take k xs)) (bits x) (turned v (flat_map bits (take k ys))) (turned v (bits y)) (same_front k)).1 (inr m)) in
        let whole : turned v (flat_map bits (take (k + 1) ys)) ++ turned v (flat_map bits (drop (k + 1) ys)) ≡ turned v (flat_map bits ys) =
        sym (turned-append v (flat_map bits (take (k + 1) ys)) (flat_map bits (drop (k + 1) ys))) ∙ ap (turned v) (split ys) in
        subst₂ (λ p q. Meets p q) (split xs) whole
        ((meets_append (flat_map bits (take (k + 1) xs)) (flat_map bits (drop (k + 1) xs)) (turned v (flat_map bits (take (k + 1) ys))) (turned v (flat_map bits (drop (k + 1) ys))) (same_front (k + 1))).1 (inl front))

-- ---- whole lists

pub apart_if : (r : Bool) (a b : List Bool) → (IsTrue r ↔ Meets a b) → r ≡ false → IsApart a b
apart_if r a b h e = λ i s. is_false (get_or b i false) (λ t. never (sym e ∙ h.1 (i, s, t)))

lacks_of : (a b : List Bool) → Meets b (map not a) → LacksSome a b
lacks_of a b (i, s, t) = (i, s, elim (cases_lt i (length a)) [ inl lt ↦ unset (get_or a i false) (sym (get_or-map not a i false false lt) ∙ t) | inr ge ↦ absurd (never (sym (get_or_past (map not a) i false (past ge)) ∙ t)) ])
  where
    unset : (x : Bool) → not x ≡ true → x ≡ false
    unset true e = cc
    unset false e = refl

    past : length a ≤ i → length (map not a) ≤ i
    past ge = let n = length-map a not in omega (arith, n, ge)

holds_of : (a b : List Bool) → length a ≡ length b → (Meets b (map not a) → ⊥) → HoldsAll a b
holds_of a b len h = λ i s. is_true (get_or a i false) (λ e. h (i, s, get_or-map not a i false false (within i s) ∙ ap not e))
  where
    within : (i : ℕ) → IsTrue (get_or b i false) → i < length a
    within i s = elim (cases_lt i (length a)) [ inl lt ↦ lt | inr ge ↦ absurd (never (sym (get_or_past b i false (omega (arith, len, ge))) ∙ s)) ]

pub holds_if : (r : Bool) (a b : List Bool) → length a ≡ length b → (IsTrue r ↔ Meets b (map not a)) → IsTrue (not r) ↔ HoldsAll a b
holds_if true a b len h = (λ e. absurd (never e), λ all. let l = lacks_of a b (h.0 refl) in absurd (never (sym l.2 ∙ all l.0 l.1)))
holds_if false a b len h = (λ e. holds_of a b len (λ m. never (h.1 m)), λ all. refl)

pub lacks_if : (r : Bool) (a b : List Bool) → (IsTrue r ↔ Meets b (map not a)) → not r ≡ false → LacksSome a b
lacks_if true a b h e = lacks_of a b (h.0 refl)
lacks_if false a b h e = absurd (never (sym e))
