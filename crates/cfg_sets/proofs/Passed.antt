-- Steps that change a table, one after another.
use Rattle.std.proofs.Common.{◌≡◌, ℕ, ◌<◌, Bool, true, false, ◌||◌, refl, ap, ◌∙◌, subst, arith}
use Rattle.vob.specs.Passes.{PassStep, Anything}

module _ {X : Type 0} (room : X → ℕ) where
  pub step_and : (C D : X → Type 0) (a b c : X) (x y : Bool) → PassStep room C a b x → PassStep room D b c y → PassStep room (λ s. C s × D s) a c (x || y)
  step_and C D a b c true y h k = record { still = λ e. cc; closed = λ e. absurd (true_false e); fewer = λ e. less y k }
    where
      true_false : true ≡ false → ⊥
      true_false e = cc

      less : (y : Bool) → PassStep room D b c y → room c < room a
      less true k = let p = h.fewer refl in let q = k.fewer refl in omega (arith, p, q)
      less false k = let p = h.fewer refl in let q = ap room (k.still refl) in omega (arith, p, q)
  step_and C D a b c false y h k = record {
    still = λ e. k.still e ∙ h.still refl;
    closed = λ e. (h.closed refl, subst D (h.still refl) (k.closed e));
    fewer = λ e. let p = k.fewer e in let q = ap room (h.still refl) in omega (arith, p, q);
  }

  -- of steps before a last one that closes the table nothing is asked
  pub step_loose : (C : X → Type 0) (a b c : X) (x y : Bool) → PassStep room Anything a b x → PassStep room C b c y → PassStep room Anything a c (x || y)
  step_loose C a b c x y h k = let r = step_and Anything C a b c x y h k in record { still = r.still; closed = λ _. tt; fewer = r.fewer }
