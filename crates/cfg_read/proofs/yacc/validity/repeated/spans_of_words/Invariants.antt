use Rattle.std.proofs.Common.{◌≡◌, take}
use Rattle.cfg_read.specs.SyntaxModels.{words_of}
use Rattle.cfg_read.specs.Validity.{word_spans}
use Rattle.cfg_read.proofs.yacc.validity.repeated.spans_of_words.Given as goal

abbrev pub invariant-words : goal.invariant-words
invariant-words l = l.spans.items ≡ word_spans (words_of (take l.word-index l.words))
