use Rattle.std.proofs.Common.{◌≡◌, ◌++◌, [], ◌∷◌, refl, string_bytes, arith}
use Rattle.std.proofs.lemmas.List.Elements.{All-cons, All-nil}
use Rattle.std.proofs.lemmas.Result.{on_ok_weaker}
use Rattle.text_messages.specs.Added.{Said, said_in}
use Rattle.text_messages.specs.declared.source.Severity.TheVariants.{Note}
use Rattle.text_messages.proofs.AddedMessages.{adds_more, pushed}
use Rattle.grammar_report.specs.Messages.{at_places}
use Rattle.grammar_report.proofs.faults.push_error.Goals as goal

pub returns-in_ok-push_at_places-in-Some : goal.returns-in_ok-push_at_places-in-Some
returns-in_ok-push_at_places-in-Some c =
    let a = c.args.messages.now in
    let b = c.push_at_places-in-Some.new.messages in
    let new = c.push.new.self in
    let m = c.new.result in
    let words = string_bytes m.words in
    let note = said_in b.text Note m.span words in
    let these = at_places a.text c.args.error.now in
    on_ok_weaker c.push.result (λ e. (these ++ note ∷ [], (note ∷ [], All-cons (λ (m : Said). m.severity ≡ Note) note [] refl (All-nil (λ (m : Said). m.severity ≡ Note)), omega arith, refl), adds_more these (note ∷ []) a b new c.in_ok-push_at_places-in-Some.ensures (pushed b new m Note m.span words e c.new.ensures.severity refl refl))) c.push.ensures.added
