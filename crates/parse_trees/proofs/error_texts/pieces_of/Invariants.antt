use Rattle.std.proofs.Common.{◌≡◌, ◌-◌, drop, map, reverse, length}
use Rattle.parse_trees.specs.Shown.{shown_of}
use Rattle.parse_trees.specs.ErrorTexts.{seen_as, shown_parts}
use Rattle.parse_trees.proofs.error_texts.pieces_of.Given as goal

abbrev pub invariant-repairs : goal.invariant-repairs
invariant-repairs g l = reverse (map (seen_as g.S.IndexStorage.number) l.pieces.items) ≡ shown_parts g.L.Lexeme.lex (map (shown_of g.S.IndexStorage.number) (drop (length l.repairs - l.done) l.repairs))
