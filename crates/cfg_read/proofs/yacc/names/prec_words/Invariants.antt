use Rattle.std.proofs.Common.{◌≡◌, map, take}
use Rattle.std.specs.List.{flat_map}
use Rattle.cfg_read.specs.Validity.{precs_in}
use Rattle.cfg_read.specs.SyntaxModels.{rule_of}
use Rattle.cfg_read.specs.NameModels.{words_at}
use Rattle.cfg_read.proofs.yacc.names.prec_words.Given as goal

abbrev pub invariant-rules : goal.invariant-rules
invariant-rules l = words_at l.found.items ≡ flat_map precs_in (map rule_of (take l.rule-index l.rules))
