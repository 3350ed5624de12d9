use Rattle.text_parses.specs.Answers.{Answers}
use Rattle.text_parses.proofs.answering.write_parsed.Goals as goal

pub returns-in_ok-write_tree-in-Tree : goal.returns-in_ok-write_tree-in-Tree
returns-in_ok-write_tree-in-Tree g c = Answers.parsed c.in-Tree.tree (rw c.in-Tree.is at c.requires) (rw c.grm.ensures at c.in_ok-write_tree-in-Tree.ensures)

pub returns-in_ok-write_lex_error-in-Unlexed : goal.returns-in_ok-write_lex_error-in-Unlexed
returns-in_ok-write_lex_error-in-Unlexed g c = Answers.unlexed c.in-Unlexed.error (rw c.in-Unlexed.is at c.requires) c.in_ok-write_lex_error-in-Unlexed.ensures

pub returns-in_ok-write_errors-in-Unparsed : goal.returns-in_ok-write_errors-in-Unparsed
returns-in_ok-write_errors-in-Unparsed g c =
    let has = rw c.in-Unparsed.is at c.requires in
    Answers.unparsed has.0 c.in-Unparsed.errors.items has.1 has.2 (rw c.as_slice.ensures.value at c.in_ok-write_errors-in-Unparsed.ensures)
