use Rattle.std.proofs.Common.{◌≡◌, ◌++◌, take}
use Rattle.cfg_read.specs.Names.{is_among}
use Rattle.cfg_read.specs.NameModels.{words_at}
use Rattle.cfg_read.specs.AstModels.{named_spans}
use Rattle.cfg_read.specs.ErrorModels.{failures_in, unknown_failure}
use Rattle.cfg_read.specs.Validity.{unknown_by}
use Rattle.cfg_read.proofs.yacc.validity.unknown.push_unknown.Given as goal

abbrev pub invariant-words : goal.invariant-words
invariant-words l = failures_in l.errors.items ≡ failures_in l.fn.errors.items ++ unknown_by (unknown_failure l.what) (is_among (named_spans l.tokens)) (words_at (take l.word-index l.words))
