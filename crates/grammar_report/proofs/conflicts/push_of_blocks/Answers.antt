use Rattle.std.proofs.Common.{List, Vec, Global, length, map, subst, sym, ◌∙◌}
use Rattle.std.proofs.lemmas.Bool.{eqb-true}
use Rattle.std.proofs.lemmas.List.{nil_from_length}
use Rattle.refused_tables.specs.declared.listed.Listed.{Listed}
use Rattle.text_messages.specs.Added.{AddsSome}
use Rattle.grammar_report.specs.Messages.{AreOfBlock, AreOfEach}
use Rattle.grammar_report.proofs.ReportMessages.{of_none}
use Rattle.grammar_report.proofs.conflicts.push_of_blocks.Goals as goal

abbrev items_of : Vec Listed Global → List Listed
items_of b = b.items

pub returns-then-is_empty : goal.returns-then-is_empty
returns-then-is_empty c =
    let a = c.args.messages.now in
    let F = AreOfBlock a.text c.args.view.now.kit.now.kept.ast c.args.view.now.severity in
    let none = nil_from_length c.args.blocks.now (eqb-true (length c.args.blocks.now) 0 (sym c.is_empty.ensures ∙ c.if-is_empty.true)) in
    subst (λ (l : List (Vec Listed Global)). AddsSome (AreOfEach F (map items_of l)) a a) (sym none) (of_none F a)
