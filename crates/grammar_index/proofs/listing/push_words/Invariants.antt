use Rattle.std.proofs.Common.{◌≡◌, ◌++◌, map, take}
use Rattle.cfg_read.specs.SyntaxModels.{words_of}
use Rattle.grammar_index.specs.Occurrences.{at_word}
use Rattle.grammar_index.proofs.listing.push_words.Given as goal

abbrev pub invariant-words : goal.invariant-words
invariant-words l = l.found.items ≡ l.fn.found.items ++ map (at_word l.role) (words_of (take l.word-index l.words))
