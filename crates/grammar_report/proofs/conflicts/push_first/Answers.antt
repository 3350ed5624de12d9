use Rattle.std.proofs.Common.{◌≡◌, ℕ, List, ◌++◌, Vec, Global, length, map, take, subst, sym, ap, ◌∙◌, refl}
use Rattle.std.proofs.lemmas.List.{length-map, take-map}
use Rattle.std.proofs.lemmas.Result.{on_ok_weaker}
use Rattle.refused_tables.specs.declared.listed.Listed.{Listed}
use Rattle.text_messages.specs.Added.{AddsSaid, Said}
use Rattle.text_messages.proofs.AddedMessages.{adds_more}
use Rattle.grammar_report.specs.Messages.{AreOfBlock, AreOfEach, count_told, most_blocks}
use Rattle.grammar_report.proofs.conflicts.push_first.Goals as goal

abbrev items_of : Vec Listed Global → List Listed
items_of b = b.items

pub returns : goal.returns
returns c =
    let a = c.args.messages.now in
    let b = c.push_of_blocks.new.messages in
    let bs = c.args.blocks.now in
    let F = AreOfBlock a.text c.args.view.now.kit.now.kept.ast c.args.view.now.severity in
    let (shown, are, s) = c.in_ok-push_of_blocks.ensures in
    let first : map items_of c.shown_blocks.result.now ≡ take most_blocks (map items_of bs) = ap (map items_of) c.shown_blocks.ensures ∙ sym (take-map items_of most_blocks bs) in
    let count : count_told b.text (length bs) ≡ count_told a.text (length (map items_of bs)) = ap (λ (t : List ℕ). count_told t (length bs)) s.text ∙ ap (λ (n : ℕ). count_told a.text n) (sym (length-map bs items_of)) in
    let told = count_told a.text (length (map items_of bs)) in
    on_ok_weaker c.push_count.result (λ h. (shown ++ told, (shown, subst (λ (l : List (List Listed)). AreOfEach F l shown) first are, refl), adds_more shown told a b _ s (subst (λ (these : List Said). AddsSaid these b c.push_count.new.messages) count h))) c.push_count.ensures
