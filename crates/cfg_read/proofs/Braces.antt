-- Braces of an action, counted.
use Rattle.std.proofs.Common.{◌≡◌, ℕ, zero, suc, ◌+◌, ◌-◌, ◌<◌, ◌≤◌, Bool, true, false, List, [], ◌∷◌, length, drop, get_or, Some, None, refl, sym, ap, ◌∙◌, arith}
use Rattle.std.specs.Prelude.{slice_get, nat_eq}
use Rattle.std.proofs.lemmas.Bool.{eqb-true, eq-eqb}
use Rattle.std.proofs.lemmas.Option.{slice_get_within}
use Rattle.std.proofs.lemmas.List.{get_or-drop, length-drop}
use Rattle.std.proofs.lemmas.List.Sums.{count_by_more_yes, count_by_more_no}
use Rattle.cfg_read.specs.Words.{count_between, is_action_end}
use Rattle.cfg_read.specs.Scanning.{depth_behind}
use Rattle.cfg_base.proofs.TextRuns.{read_at}

pub count_none : (b : ℕ) (text : List ℕ) (a : ℕ) → count_between b text a a ≡ 0
unfolding count_between
count_none b text a = let e : a - a ≡ 0 = omega arith in rw e refl

pub count_yes : (b : ℕ) (text : List ℕ) (a p c : ℕ) → a ≤ p → slice_get text p ≡ Some c → nat_eq c b ≡ true → count_between b text a (p + 1) ≡ count_between b text a p + 1
unfolding count_between
count_yes b text a p c le h e =
    let n : p + 1 - a ≡ p - a + 1 = omega arith in
    let within = slice_get_within text p c h in
    let len = length-drop a text in
    let at : a + (p - a) ≡ p = omega arith in
    let byte : get_or (drop a text) (p - a) 0 ≡ c = get_or-drop a text (p - a) 0 ∙ ap (λ i. get_or text i 0) at ∙ read_at text p c h in
    rw n (count_by_more_yes (λ c. nat_eq c b) (drop a text) (p - a) 0 (omega arith) (rw byte e))

pub count_no : (b : ℕ) (text : List ℕ) (a p c : ℕ) → a ≤ p → slice_get text p ≡ Some c → nat_eq c b ≡ false → count_between b text a (p + 1) ≡ count_between b text a p
unfolding count_between
count_no b text a p c le h e =
    let n : p + 1 - a ≡ p - a + 1 = omega arith in
    let within = slice_get_within text p c h in
    let len = length-drop a text in
    let at : a + (p - a) ≡ p = omega arith in
    let byte : get_or (drop a text) (p - a) 0 ≡ c = get_or-drop a text (p - a) 0 ∙ ap (λ i. get_or text i 0) at ∙ read_at text p c h in
    rw n (count_by_more_no (λ c. nat_eq c b) (drop a text) (p - a) 0 (omega arith) (rw byte e))

pub record Deeper (text : List ℕ) (a p e : ℕ) : Type 0 where
  pub inside : is_action_end text a p ≡ false
  pub depth : count_between 125 text a (p + 1) + e ≡ count_between 123 text a (p + 1)
  pub few : e ≤ p + 1

ends_here : (text : List ℕ) (a p : ℕ) → slice_get text p ≡ Some 125 → count_between 125 text a p ≡ count_between 123 text a p → is_action_end text a p ≡ true
ends_here text a p h e = let t : nat_eq (count_between 123 text a p) (count_between 125 text a p) ≡ true = eq-eqb _ _ (sym e) in rw (h, t) refl

no_brace : (text : List ℕ) (a p c : ℕ) → slice_get text p ≡ Some c → nat_eq c 125 ≡ false → is_action_end text a p ≡ false
no_brace text a p c h e = rw (h, e) refl

ends_later : (text : List ℕ) (a p d : ℕ) → slice_get text p ≡ Some 125 → count_between 125 text a p + d ≡ count_between 123 text a p → 0 < d → is_action_end text a p ≡ false
ends_later text a p d h e more = let t : nat_eq (count_between 123 text a p) (count_between 125 text a p) ≡ false = unequal _ _ (omega arith) in rw (h, t) refl
  where
    unequal : (n m : ℕ) → m < n → nat_eq n m ≡ false
    unequal n m lt = grind (arith, eqb-true)

pub closes : (text : List ℕ) (a p c d : ℕ) → a ≤ p → slice_get text p ≡ Some c → count_between 125 text a p + d ≡ count_between 123 text a p → depth_behind c d ≡ None → is_action_end text a p ≡ true
closes text a p c d le h e n = go (nat_eq c 125) refl (nat_eq d 0) refl n
  where
    go : (x : Bool) → nat_eq c 125 ≡ x → (y : Bool) → nat_eq d 0 ≡ y → depth_behind c d ≡ None → is_action_end text a p ≡ true
    go true e₁ true e₂ n =
        let is : c ≡ 125 = eqb-true c 125 e₁ in
        let zero : d ≡ 0 = eqb-true d 0 e₂ in
        ends_here text a p (h ∙ ap Some is) (omega (arith, e, zero))
    go true e₁ false e₂ n = absurd (let m = rw (e₁, e₂) at n in cc)
    go false e₁ y e₂ n = go₂ (nat_eq c 123) refl
      where
        go₂ : (z : Bool) → nat_eq c 123 ≡ z → is_action_end text a p ≡ true
        go₂ true e₃ = absurd (let m = rw (e₁, e₃) at n in cc)
        go₂ false e₃ = absurd (let m = rw (e₁, e₃) at n in cc)

pub goes_on : (text : List ℕ) (a p c d e : ℕ) → a ≤ p → slice_get text p ≡ Some c → count_between 125 text a p + d ≡ count_between 123 text a p → d ≤ p → depth_behind c d ≡ Some e → Deeper text a p e
goes_on text a p c d e le h k few n = go (nat_eq c 125) refl (nat_eq d 0) refl (nat_eq c 123) refl
  where
    some : (x y : ℕ) → Some x ≡ Some y → x ≡ y
    some x y q = cc

    go : (x : Bool) → nat_eq c 125 ≡ x → (y : Bool) → nat_eq d 0 ≡ y → (z : Bool) → nat_eq c 123 ≡ z → Deeper text a p e
    go true e₁ true e₂ z e₃ = absurd (let m = rw (e₁, e₂) at n in cc)
    go true e₁ false e₂ z e₃ =
        let is : c ≡ 125 = eqb-true c 125 e₁ in
        let m : d - 1 ≡ e = some _ _ (rw (e₁, e₂) at n) in
        let more : d ≡ 0 → ⊥ = λ q. let t = eq-eqb d 0 q in absurd cc in
        let other : nat_eq c 123 ≡ false = rw is refl in
        let up = count_yes 125 text a p c le h e₁ in
        let same = count_no 123 text a p c le h other in
        let pos : 0 < d = omega (arith, more) in
        record { inside = ends_later text a p d (h ∙ ap Some is) k pos; depth = omega (arith, up, same, k, m, pos); few = omega (arith, m, few) }
    go false e₁ y e₂ true e₃ =
        let m : d + 1 ≡ e = some _ _ (rw (e₁, e₃) at n) in
        let same = count_no 125 text a p c le h e₁ in
        let up = count_yes 123 text a p c le h e₃ in
        record { inside = no_brace text a p c h e₁; depth = omega (arith, up, same, k, m); few = omega (arith, m, few) }
    go false e₁ y e₂ false e₃ =
        let m : d ≡ e = some _ _ (rw (e₁, e₃) at n) in
        let same = count_no 125 text a p c le h e₁ in
        let same₂ = count_no 123 text a p c le h e₃ in
        record { inside = no_brace text a p c h e₁; depth = omega (arith, same, same₂, k, m); few = omega (arith, m, few) }

pub none_is_end : (xs : List ℕ) (a : ℕ) → slice_get xs a ≡ None → length xs ≤ a
none_is_end [] a h = omega arith
none_is_end (x ∷ xs) zero h = absurd cc
none_is_end (x ∷ xs) (suc a) h = let r : length xs ≤ a = none_is_end xs a h in omega (arith, r)

pub closer : (c d : ℕ) → depth_behind c d ≡ None → c ≡ 125
closer c d n = go (nat_eq c 125) refl (nat_eq c 123) refl
  where
    go : (x : Bool) → nat_eq c 125 ≡ x → (z : Bool) → nat_eq c 123 ≡ z → c ≡ 125
    go true e₁ z e₃ = eqb-true c 125 e₁
    go false e₁ true e₃ = absurd (let m = rw (e₁, e₃) at n in cc)
    go false e₁ false e₃ = absurd (let m = rw (e₁, e₃) at n in cc)
