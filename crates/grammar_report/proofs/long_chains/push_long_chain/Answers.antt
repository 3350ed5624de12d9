use Rattle.std.proofs.Common.{◌≡◌, List, ℕ, Option, ap, refl, string_bytes, subst, ◌∙◌}
use Rattle.cfg_base.specs.SpanModel.{SpanModel}
use Rattle.text_messages.specs.Added.{Said}
use Rattle.text_messages.specs.Places.{BeginsWith}
use Rattle.text_messages.specs.declared.source.Severity.TheVariants.{Error}
use Rattle.text_messages.proofs.AddedMessages.{pushed_if}
use Rattle.grammar_report.specs.Messages.{IsError, chain_words}
use Rattle.grammar_report.proofs.long_chains.push_long_chain.Goals as goal

pub returns-in-Ok : goal.returns-in-Ok
returns-in-Ok c =
    let a = c.args.messages.now in
    let m = c.explain.new.message in
    let words = string_bytes m.words in
    let begins = subst (λ (l : List ℕ). BeginsWith l words) (ap string_bytes c.new-message.ensures.words ∙ c.in_ok-words.ensures.ok) c.in-Ok.ensures.words in
    pushed_if c.push.result (λ (m : Said). (place : Option SpanModel) × IsError a.text place (chain_words c.args.cap) m) a c.push.new.self m Error m.span words c.push.ensures.added (c.in-Ok.ensures.severity ∙ c.new-message.ensures.severity) refl refl (m.span, (words, begins, refl))
