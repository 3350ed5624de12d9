use Rattle.std.proofs.Common.{◌≡◌, List, [], ◌∷◌, ◌++◌, Some, ap, codes, map, refl, string_bytes, subst, sym, take, ◌∙◌}
use Rattle.std.proofs.lemmas.List.{map_more, take_all}
use Rattle.text_messages.specs.Added.{AddsSaid, Said, said_in}
use Rattle.text_messages.specs.declared.source.Severity.TheVariants.{Note}
use Rattle.text_messages.proofs.AddedMessages.{adds_more, adds_none, pushed}
use Rattle.grammar_report.specs.Messages.{again_at}
use Rattle.grammar_report.proofs.faults.push_again.Goals as goal

pub spans-init : goal.spans-init
spans-init c = adds_none c.args.messages.now

pub spans-preserved : goal.spans-preserved
spans-preserved c =
    let a = c.args.messages.now in
    let b = c.spans.messages in
    let spans = c.args.spans.now in
    let i = c.spans.span-index in
    let s = c.span-item.result in
    let before = map (again_at a.text) (take i spans) in
    let one = pushed b c.push.new.self c.new.result Note (Some s) (codes "and here again") c.in_ok-push.ensures.added c.new.ensures.severity c.new.ensures.span (ap string_bytes c.new.ensures.words ∙ c.in_ok-words.ensures.ok) in
    let more = map_more (again_at a.text) spans i s c.spans-test.true ∙ ap (λ x. before ++ again_at a.text x ∷ []) (sym c.span-item.is) in
    subst (λ (l : List Said). AddsSaid l a c.push.new.self) (sym more) (adds_more before (again_at a.text s ∷ []) a b c.push.new.self c.spans.invariant (subst (λ t. AddsSaid (again_at t s ∷ []) b c.push.new.self) c.spans.invariant.text one))

pub returns : goal.returns
returns c =
    let a = c.args.messages.now in
    subst (λ l. AddsSaid (map (again_at a.text) l) a c.spans.messages) (take_all c.spans.span-index c.args.spans.now c.spans-test.false) c.spans.invariant
