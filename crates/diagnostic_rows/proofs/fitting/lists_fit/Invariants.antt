use Rattle.std.proofs.Common.{take}
use Rattle.std.specs.List.{AllByRecursion}
use Rattle.parse_trees.specs.Shown.{shown_lists}
use Rattle.parse_trees.specs.ErrorTexts.{EditFits}
use Rattle.diagnostic_rows.proofs.fitting.lists_fit.Given as goal

abbrev pub invariant-lists : goal.invariant-lists
invariant-lists g l = AllByRecursion (AllByRecursion (EditFits l.text g.L.Lexeme.lex)) (shown_lists g.S.IndexStorage.number (take l.i l.lists))
