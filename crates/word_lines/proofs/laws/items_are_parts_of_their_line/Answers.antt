use Rattle.word_lines.proofs.FittedWords.{lexemes_fit, error_fits}
use Rattle.word_lines.proofs.laws.items_are_parts_of_their_line.Goals as goal

pub returns-clause-lexemes : goal.returns-clause-lexemes
returns-clause-lexemes g c = λ v line lexemes utf8 items. lexemes_fit g.S.IndexStorage.of_number v line lexemes utf8 items

pub returns-clause-errors : goal.returns-clause-errors
returns-clause-errors g c = λ v line e utf8 is. error_fits g.S.IndexStorage.of_number v line e utf8 is
