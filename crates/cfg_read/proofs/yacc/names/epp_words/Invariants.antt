use Rattle.std.proofs.Common.{◌≡◌, map, take}
use Rattle.cfg_read.specs.SyntaxTexts.{EppText}
use Rattle.cfg_read.specs.SyntaxModels.{epp_of}
use Rattle.cfg_read.specs.NameModels.{words_at}
use Rattle.cfg_read.proofs.yacc.names.epp_words.Given as goal

abbrev pub invariant-epp : goal.invariant-epp
invariant-epp l = words_at l.found.items ≡ map (λ (e : EppText). e.token) (map epp_of (take l.one-index l.epp))
