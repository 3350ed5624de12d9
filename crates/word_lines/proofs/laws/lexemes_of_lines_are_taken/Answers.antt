use Rattle.word_lines.proofs.TakenLexemes.{are_lexemes, not_refused}
use Rattle.word_lines.proofs.laws.lexemes_of_lines_are_taken.Goals as goal

pub returns-clause-taken : goal.returns-clause-taken
returns-clause-taken g c = λ v line lexemes is items. are_lexemes g.S.IndexStorage.number g.S.IndexStorage.of_number g.S.IndexStorage.MAX c.each_number_is_of_one_value.ensures.named v is line lexemes items

pub returns-clause-not_refused : goal.returns-clause-not_refused
returns-clause-not_refused g c = λ v line m is h. not_refused g.S.IndexStorage.number g.S.IndexStorage.of_number g.S.IndexStorage.MAX c.each_number_is_of_one_value.ensures.named v is line m h
