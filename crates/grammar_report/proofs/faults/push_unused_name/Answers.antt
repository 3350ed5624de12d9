use Rattle.std.proofs.Common.{◌≡◌, None, ap, refl, slice_get, string_bytes, subst, sym, ◌∙◌}
use Rattle.std.specs.Option.{option_copied}
use Rattle.text_messages.specs.Added.{said_in}
use Rattle.text_messages.specs.declared.source.Severity.TheVariants.{Warning}
use Rattle.text_messages.proofs.AddedMessages.{pushed_if}
use Rattle.cfg_read.specs.WarningModels.{warning_of, warning_text}
use Rattle.grammar_report.specs.Messages.{SaysAt, SaysUnused}
use Rattle.grammar_report.proofs.faults.push_unused_name.Goals as goal

pub returns-in-None : goal.returns-in-None
returns-in-None c =
    let a = c.args.messages.now in
    let w = warning_of c.args.warning.now in
    let words = warning_text w.kind in
    let at : slice_get w.spans 0 ≡ None = ap (λ l. slice_get l 0) (sym c.as_slice.ensures.value) ∙ sym c.first.ensures.value ∙ ap option_copied c.in-None.is in
    pushed_if c.push.result (SaysUnused a.text w) a c.push.new.self c.new.result Warning None words c.push.ensures.added c.new.ensures.severity c.new.ensures.span (ap string_bytes c.new.ensures.words ∙ c.in_ok-what.ensures.ok) (subst (λ o. SaysAt a.text words o (said_in a.text Warning None words)) (sym at) refl)
