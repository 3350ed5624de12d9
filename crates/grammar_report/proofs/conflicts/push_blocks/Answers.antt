use Rattle.std.proofs.Common.{◌≡◌, ℕ, List, [], ◌∷◌, ◌++◌, Vec, Global, ap, map, subst, sym, take, ◌∙◌}
use Rattle.std.proofs.lemmas.List.{map-append, take_all, take_more}
use Rattle.refused_tables.specs.declared.listed.Listed.{Listed}
use Rattle.text_messages.specs.Added.{AddsSome}
use Rattle.grammar_report.specs.Messages.{AreOfBlock, AreOfEach}
use Rattle.grammar_report.proofs.ReportMessages.{of_none, of_one_more}
use Rattle.grammar_report.proofs.conflicts.push_blocks.Goals as goal

pub each-init : goal.each-init
each-init c = of_none (AreOfBlock c.args.messages.now.text c.args.view.now.kit.now.kept.ast c.args.view.now.severity) c.args.messages.now

abbrev items_of : Vec Listed Global → List Listed
items_of b = b.items

pub each-preserved : goal.each-preserved
each-preserved c =
    let a = c.args.messages.now in
    let bs = c.args.blocks.now in
    let i = c.each.block-index in
    let b = c.block-item.result in
    let F = λ (text : List ℕ). AreOfBlock text c.args.view.now.kit.now.kept.ast c.args.view.now.severity in
    let more = ap (map items_of) (take_more bs i b c.each-test.true ∙ ap (λ x. take i bs ++ x ∷ []) (sym c.block-item.is)) ∙ map-append items_of (take i bs) (b ∷ []) in
    subst (λ (l : List (List Listed)). AddsSome (AreOfEach (F a.text) l) a c.push_block.new.messages) (sym more) (of_one_more F a c.each.messages c.push_block.new.messages (map items_of (take i bs)) b.items c.each.invariant (rw c.as_slice.ensures.value at c.in_ok-push_block.ensures))

pub returns : goal.returns
returns c =
    let a = c.args.messages.now in
    let F = AreOfBlock a.text c.args.view.now.kit.now.kept.ast c.args.view.now.severity in
    subst (λ l. AddsSome (AreOfEach F (map items_of l)) a c.each.messages) (take_all c.each.block-index c.args.blocks.now c.each-test.false) c.each.invariant
