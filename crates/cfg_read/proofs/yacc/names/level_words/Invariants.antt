use Rattle.std.proofs.Common.{◌≡◌, map, take}
use Rattle.std.specs.List.{flat_map}
use Rattle.cfg_read.specs.SyntaxTexts.{LevelText}
use Rattle.cfg_read.specs.Names.{words_in}
use Rattle.cfg_read.specs.SyntaxModels.{level_of}
use Rattle.cfg_read.specs.NameModels.{words_at}
use Rattle.cfg_read.proofs.yacc.names.level_words.Given as goal

abbrev pub invariant-levels : goal.invariant-levels
invariant-levels l = words_at l.found.items ≡ flat_map (λ (p : LevelText). words_in p.tokens) (map level_of (take l.level-index l.levels))
