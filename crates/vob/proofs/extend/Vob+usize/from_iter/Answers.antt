use Rattle.std.proofs.Common.{◌≡◌, Bool, List, ◌++◌, length, sym, ap, ◌∙◌}
use Rattle.std.proofs.lemmas.Result.{err_from_is_err_and}
use Rattle.vob.specs.declared.error.VobError.TheVariants.{TooLong}
use Rattle.vob.proofs.Refused as refused
use Rattle.vob.proofs.extend.Vob+usize.from_iter.Goals as goal

pub returns-in_err-extend-clause-refused : goal.returns-in_err-extend-clause-refused
returns-in_err-extend-clause-refused g c =
    let p = err_from_is_err_and c.from_residual.result c.from_residual.ensures.1 in
    let m = c.in_err-extend.ensures.refused in
    let t = c.in_err-extend.ensures.too_long in
    let made : length c.extend.new.self.bits ≡ length m.1 = ap length (m.6 ∙ ap (λ (xs : List Bool). xs ++ m.1) c.new-made.ensures.bits) in
    let e = c.in_err-extend.field-0.0 in
    rw (p.1, p.2) (m.0, m.1, m.2, m.3, m.4, m.5, (λ h. sym made ∙ t.0 (refused.same_refusal e TooLong (refused.same_fault e TooLong h)), λ h. refused.same_refusal e TooLong (refused.same_fault e TooLong (t.1 (made ∙ h)))))
