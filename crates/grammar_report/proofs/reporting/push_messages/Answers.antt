use Rattle.std.proofs.Common.{◌≡◌, List, [], ◌∷◌, ◌++◌, ap, map, string_bytes, subst, sym, take, ◌∙◌}
use Rattle.std.proofs.lemmas.List.{map-append, take_all, take_more}
use Rattle.text_messages.specs.Added.{Said, said}
use Rattle.text_messages.specs.declared.source.Message.{Message}
use Rattle.grammar_report.specs.Messages.{Shows, nothing}
use Rattle.grammar_report.proofs.ReportMessages.{shows_one}
use Rattle.grammar_report.proofs.reporting.push_messages.Goals as goal

pub messages-init : goal.messages-init
messages-init c = nothing

pub messages-preserved : goal.messages-preserved
messages-preserved c =
    let ms = c.args.messages.now in
    let i = c.messages.message-index in
    let m = c.message-item.result in
    let more = ap (map said) (take_more ms i m c.messages-test.true ∙ ap (λ (x : Message). take i ms ++ x ∷ []) (sym c.message-item.is)) ∙ map-append said (take i ms) (m ∷ []) in
    subst (λ (l : List Said). Shows c.args.source.now (string_bytes c.args.text.now) l (string_bytes c.push.new.text)) (sym more) (shows_one c.args.source.now (string_bytes c.args.text.now) (string_bytes c.messages.text) (string_bytes c.push.new.text) (map said (take i ms)) (said m) c.messages.invariant c.in_ok-push.ensures.heading)

pub returns : goal.returns
returns c =
    subst (λ (l : List Message). Shows c.args.source.now (string_bytes c.args.text.now) (map said l) (string_bytes c.messages.text)) (take_all c.messages.message-index c.args.messages.now c.messages-test.false) c.messages.invariant
