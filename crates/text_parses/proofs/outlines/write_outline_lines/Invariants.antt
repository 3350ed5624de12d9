-- The text of the nodes so far is out, but for what waits; that of the others is left.
use Rattle.std.proofs.Common.{List, ◌++◌, None}
use Rattle.std.specs.List.{flat_map}
use Rattle.parse_trees.specs.OutlineLines.{symbol_visit_line}
use Rattle.cfg_theory.specs.Tree.{Tree, yield}
use Rattle.parse_trees.specs.Outlines.{SymbolVisit, symbols}
use Rattle.text_parses.specs.OutlineTexts.{IsShown}
use Rattle.text_parses.specs.Parses.{TextLexeme, lexeme_lex}
use Rattle.text_parses.proofs.OutlineTexts.{CanShowVisit, IsOutTo, WalksOn}
use Rattle.text_parses.proofs.outlines.write_outline_lines.Given as goal

abbrev pub invariant-nodes : goal.invariant-nodes
invariant-nodes g l =
    ((rest : List SymbolVisit) × WalksOn l.walk.nodes.now l.walk.waiting.items l.walk.seen l._number-end l._number rest)
    × ((t : Tree TextLexeme) → IsShown l.outlined.grm.now l.outlined.input.now l.outlined.items.now l.outlined.outline.now t →
    (rest : List SymbolVisit) × WalksOn l.walk.nodes.now l.walk.waiting.items l.walk.seen l._number-end l._number rest
    × IsOutTo (CanShowVisit l.outlined.grm.now l.outlined.input.now (yield t)) (flat_map (symbol_visit_line l.outlined.grm.now lexeme_lex l.outlined.input.now (yield t))) (g.W.Sink.known l.initial.out) (g.W.Sink.known l.out) (l.initial.text.items ++ flat_map (symbol_visit_line l.outlined.grm.now lexeme_lex l.outlined.input.now (yield t)) (symbols 0 0 t)) l.text.items rest)
