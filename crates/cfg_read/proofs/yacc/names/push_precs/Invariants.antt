use Rattle.std.proofs.Common.{◌≡◌, ◌++◌, map, take, option_to_list}
use Rattle.std.specs.List.{flat_map}
use Rattle.cfg_read.specs.SyntaxTexts.{AlternativeText}
use Rattle.cfg_read.specs.SyntaxModels.{alternative_of}
use Rattle.cfg_read.specs.NameModels.{words_at}
use Rattle.cfg_read.proofs.yacc.names.push_precs.Given as goal

abbrev pub invariant-alternatives : goal.invariant-alternatives
invariant-alternatives l = words_at l.found.items ≡ words_at l.fn.found.items ++ flat_map (λ (a : AlternativeText). option_to_list a.precedence) (map alternative_of (take l.alternative-index l.alternatives))
