-- Steps that halve what is left.
use Rattle.std.proofs.Common.{◌≡◌, ℕ, suc, ◌+◌, ◌-◌, ◌*◌, ◌^◌, ◌≤◌, sym, ap, subst, arith}
use Rattle.std.proofs.Math.Nat.{pow-succ', mul-le-mul_left}

-- after so many steps what is left, doubled as often, fits the whole, and each step was taken where something was left
pub record Halved (left whole old new : ℕ) : Type 0 where
  pub taken : ℕ
  pub is : new ≡ old + taken
  pub fits : 2 ^ taken * left ≤ whole
  pub few : 2 ^ taken ≤ 2 * whole + 1

pub halved_none : (n s : ℕ) → Halved n n s s
halved_none n s = record { taken = 0; is = omega arith; fits = omega arith; few = omega arith }

pub halved_more : (left next whole old mid new : ℕ) → Halved left whole old mid → 1 ≤ left → 2 * next ≤ left → new ≡ mid + 1 → Halved next whole old new
halved_more left next whole old mid new h some half e =
    let k = h.taken in
    let p = pow-succ' 2 k in
    let q = ap (λ x. x * next) p in
    let a = mul-le-mul_left (2 ^ k) half in
    let b = mul-le-mul_left (2 ^ k) some in
    let i = h.is in
    let f = h.fits in
    record { taken = suc k; is = omega (arith, i, e); fits = omega (arith, q, a, f); few = omega (arith, p, b, f) }

pub halved_all : (left whole old new : ℕ) → Halved left whole old new → 2 ^ (new - old) ≤ 2 * whole + 1
halved_all left whole old new h =
    let i = h.is in
    let e : new - old ≡ h.taken = omega (arith, i) in
    subst (λ (k : ℕ). 2 ^ k ≤ 2 * whole + 1) (sym e) h.few

pub halved_on : (left whole old new : ℕ) → Halved left whole old new → old ≤ new
halved_on left whole old new h = let i = h.is in omega (arith, i)
