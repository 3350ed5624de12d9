-- Conflicts that go together.
use Rattle.std.proofs.Common.{◌≡◌, ℕ, Bool, true, false, not, ◌&&◌, eqb, Option, None, Some, sym, ap, ◌∙◌, refl, arith}
use Rattle.std.proofs.lemmas.Bool.{eqb-true}
use Rattle.std.specs.Option.{option_eq}
use Rattle.cfg_base.specs.declared.symbol.PIdx.{PIdx}
use Rattle.refused_tables.specs.Blocks.{go_together}
use Rattle.refused_tables.specs.declared.listed.Listed.{Listed}

same_other : (p q s : Option (PIdx ℕ)) → option_eq (λ a b. eqb a.0 b.0) p q ≡ true → option_eq (λ a b. eqb a.0 b.0) p s ≡ option_eq (λ a b. eqb a.0 b.0) q s
same_other None None s e = refl
same_other None (Some q) s e = absurd cc
same_other (Some p) None s e = absurd cc
same_other (Some p) (Some q) None e = refl
same_other (Some p) (Some q) (Some s) e = ap (λ (n : ℕ). eqb n s.0) (eqb-true p.0 q.0 e)

both : (a b : Bool) → (a && b) ≡ true → (a ≡ true) × (b ≡ true)
both true b e = (refl, e)
both false b e = absurd cc

pub alike : (each : Bool) (x y z : Listed) → go_together each x y ≡ true → go_together each x z ≡ go_together each y z
alike true x y z e = absurd cc
alike false x y z e =
    let (prod, other) = both (eqb x.pidx.0 y.pidx.0) (option_eq (λ a b. eqb a.0 b.0) x.other y.other) e in
    ap (λ (n : ℕ). eqb n z.pidx.0 && option_eq (λ a b. eqb a.0 b.0) x.other z.other) (eqb-true x.pidx.0 y.pidx.0 prod)
    ∙ ap (λ (b : Bool). eqb y.pidx.0 z.pidx.0 && b) (same_other x.other y.other z.other other)
