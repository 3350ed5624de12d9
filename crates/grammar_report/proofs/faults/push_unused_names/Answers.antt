use Rattle.std.proofs.Common.{◌≡◌, List, [], ◌∷◌, ◌++◌, ap, map, subst, sym, take, ◌∙◌}
use Rattle.std.proofs.lemmas.List.{map_more, take_all}
use Rattle.std.specs.Bool.{⊤}
use Rattle.cfg_read.specs.Warnings.{WarningText}
use Rattle.cfg_read.specs.WarningModels.{warning_of}
use Rattle.text_messages.specs.Added.{AddsSome, OneForEach}
use Rattle.text_messages.proofs.AddedMessages.{nothing_told, told_more}
use Rattle.grammar_report.specs.Messages.{SaysUnused}
use Rattle.grammar_report.proofs.faults.push_unused_names.Goals as goal

pub warnings-init : goal.warnings-init
warnings-init c = nothing_told (λ (w : WarningText). ⊤) SaysUnused c.args.messages.now

pub warnings-preserved : goal.warnings-preserved
warnings-preserved c =
    let a = c.args.messages.now in
    let b = c.warnings.messages in
    let new = c.push_unused_name.new.messages in
    let ws = c.args.warnings.now in
    let i = c.warnings.warning-index in
    let x = c.warning-item.result in
    let before = map warning_of (take i ws) in
    let more = map_more warning_of ws i x c.warnings-test.true ∙ ap (λ y. before ++ warning_of y ∷ []) (sym c.warning-item.is) in
    subst (λ (l : List WarningText). AddsSome (OneForEach (λ w. ⊤) (SaysUnused a.text) l) a new) (sym more) (told_more (λ (w : WarningText). ⊤) SaysUnused a b new before (warning_of x) c.warnings.invariant tt c.in_ok-push_unused_name.ensures)

pub returns : goal.returns
returns c =
    let a = c.args.messages.now in
    subst (λ l. AddsSome (OneForEach (λ w. ⊤) (SaysUnused a.text) (map warning_of l)) a c.warnings.messages) (take_all c.warnings.warning-index c.args.warnings.now c.warnings-test.false) c.warnings.invariant
