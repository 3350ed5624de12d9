use Rattle.std.proofs.Common.{List, Vec, Global, map, subst}
use Rattle.std.proofs.lemmas.Result.{on_ok_weaker}
use Rattle.refused_tables.specs.declared.listed.Listed.{Listed}
use Rattle.text_messages.specs.Added.{Said}
use Rattle.grammar_report.specs.Messages.{AreOfBlocks}
use Rattle.grammar_report.proofs.conflicts.push_conflicts.Goals as goal

abbrev items_of : Vec Listed Global → List Listed
items_of b = b.items

pub returns : goal.returns
returns c =
    let severity = c.conflict_severity-severity.result in
    let F = AreOfBlocks c.args.messages.now.text c.args.kit.now.kept.ast severity in
    let blocks = c.in_ok-blocks.blocks.items in
    on_ok_weaker c.push_first.result (λ h. (h.0, (severity, map items_of blocks, c.conflict_severity-severity.ensures, c.in_ok-blocks.ensures.blocks, subst (λ (l : List (Vec Listed Global)). F (map items_of l) h.0) c.as_slice.ensures.value h.1), h.2)) c.push_first.ensures
