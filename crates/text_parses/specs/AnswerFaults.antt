-- Why a text is not answered.
use Rattle.parse_trees.specs.declared.lexemes.ParseRefusal.{ParseRefusal}
use Rattle.parse_trees.specs.declared.lexemes.ParseRefusal.TheVariants as refusals
use Rattle.text_parses.specs.declared.answer_fault.AnswerFault.{AnswerFault}
use Rattle.text_parses.specs.declared.answer_fault.AnswerFault.TheVariants as answers

-- why a text is not answered whose parse is refused
abbrev pub fault_of_parse : ParseRefusal → AnswerFault
fault_of_parse (refusals.LexemeOutside k) = answers.Lexemes
fault_of_parse (refusals.StartDecreases k) = answers.Lexemes
fault_of_parse (refusals.Memory e) = answers.Memory e
