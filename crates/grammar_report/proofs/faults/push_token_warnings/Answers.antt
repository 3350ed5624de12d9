use Rattle.std.proofs.Common.{◌≡◌, refl, string_bytes}
use Rattle.text_messages.specs.Added.{Said, said_in}
use Rattle.text_messages.specs.declared.source.Severity.TheVariants.{Warning}
use Rattle.text_messages.proofs.AddedMessages.{pushed, warns_more, warns_none, warns_one}
use Rattle.grammar_report.proofs.faults.push_token_warnings.Goals as goal

pub hints-init : goal.hints-init
hints-init c = warns_none c.args.messages.now

pub hints-preserved : goal.hints-preserved
hints-preserved c =
    let b = c.hints.messages in
    let new = c.push.new.self in
    let m = c.new.result in
    let words = string_bytes m.words in
    warns_more c.args.messages.now b new c.hints.invariant (warns_one b new (λ (m : Said). m.severity ≡ Warning) (λ m e. e) (said_in b.text Warning m.span words, refl, pushed b new m Warning m.span words c.in_ok-push.ensures.added c.new.ensures.severity refl refl))
