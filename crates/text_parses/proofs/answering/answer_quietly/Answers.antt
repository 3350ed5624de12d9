use Rattle.std.proofs.KnownBytes.{Appends-nil}
use Rattle.text_parses.specs.Answers.{Answers}
use Rattle.text_parses.proofs.answering.answer_quietly.Goals as goal

pub returns-then-branch : goal.returns-then-branch
returns-then-branch g c =
    let has = c.in_ok-has_tree.ensures.parsed c.if-branch.true in
    rw c.requires (Answers.parsed has.0 has.1 (Appends-nil _))
