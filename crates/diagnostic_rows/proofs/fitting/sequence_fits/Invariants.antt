use Rattle.std.proofs.Common.{map, take}
use Rattle.std.specs.List.{AllByRecursion}
use Rattle.parse_trees.specs.Shown.{shown_of}
use Rattle.parse_trees.specs.ErrorTexts.{EditFits}
use Rattle.diagnostic_rows.proofs.fitting.sequence_fits.Given as goal

abbrev pub invariant-repairs : goal.invariant-repairs
invariant-repairs g l = AllByRecursion (EditFits l.text g.L.Lexeme.lex) (map (shown_of g.S.IndexStorage.number) (take l.i l.repairs))
