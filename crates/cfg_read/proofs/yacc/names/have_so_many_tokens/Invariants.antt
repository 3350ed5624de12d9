use Rattle.std.proofs.Common.{◌≡◌, ◌+◌, map, take, length}
use Rattle.std.specs.List.{flat_map}
use Rattle.cfg_read.specs.SyntaxTexts.{LevelText}
use Rattle.cfg_read.specs.Names.{words_in}
use Rattle.cfg_read.specs.SyntaxModels.{level_of}
use Rattle.cfg_read.proofs.yacc.names.have_so_many_tokens.Given as goal

abbrev pub invariant-levels : goal.invariant-levels
invariant-levels l = l.left + length (flat_map (λ (p : LevelText). words_in p.tokens) (map level_of (take l.level-index l.levels))) ≡ l.count
