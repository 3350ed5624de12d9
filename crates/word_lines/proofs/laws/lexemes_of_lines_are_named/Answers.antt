use Rattle.word_lines.proofs.NamedWords.{are_named}
use Rattle.word_lines.proofs.laws.lexemes_of_lines_are_named.Goals as goal

pub returns : goal.returns
returns g c = λ v line of_is. are_named g.S.IndexStorage.number g.S.IndexStorage.of_number of_is v line
