use Rattle.std.proofs.Common.{sym, ◌∙◌}
use Rattle.parse_trees.proofs.LexemeLists.{not_past}
use Rattle.parse_trees.proofs.lexeme_list.LexemeList.at.Goals as goal

pub unreachable-requires : goal.unreachable-requires
unreachable-requires g c = not_past c.args.self.now c.args.index (sym c.get.ensures ∙ c.in-None.is) c.requires
