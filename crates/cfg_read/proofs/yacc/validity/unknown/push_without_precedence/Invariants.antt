use Rattle.std.proofs.Common.{◌≡◌, ◌++◌, take}
use Rattle.cfg_read.specs.Asts.{has_precedence}
use Rattle.cfg_read.specs.AstModels.{named_precedences}
use Rattle.cfg_read.specs.NameModels.{words_at}
use Rattle.cfg_read.specs.ErrorModels.{failures_in}
use Rattle.cfg_read.specs.Validity.{unknown_by, NoPrecForToken}
use Rattle.cfg_read.proofs.yacc.validity.unknown.push_without_precedence.Given as goal

abbrev pub invariant-words : goal.invariant-words
invariant-words l = failures_in l.errors.items ≡ failures_in l.fn.errors.items ++ unknown_by NoPrecForToken (has_precedence (named_precedences l.precs)) (words_at (take l.word-index l.words))
