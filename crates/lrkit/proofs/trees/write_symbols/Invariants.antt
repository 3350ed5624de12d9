-- The lines of the nodes so far are out, but for what waits, and the walk has the others left.
use Rattle.std.proofs.Common.{◌≡◌, ◌++◌, List, take, drop}
use Rattle.std.specs.List.{flat_map}
use Rattle.byte_streams.specs.Sink.{IsOutBut}
use Rattle.parse_trees.specs.Lexemes.{AreItems}
use Rattle.parse_trees.specs.OutlineLines.{symbol_visit_line}
use Rattle.parse_trees.specs.Outlines.{IsLeft, SymbolVisit}
use Rattle.word_lines.specs.Lexing.{lex_of}
use Rattle.lrkit.specs.Output.{Word, id}
use Rattle.lrkit.proofs.trees.write_symbols.Given as goal

abbrev pub invariant-nodes : goal.invariant-nodes
invariant-nodes g l =
    ((lexemes : List Word) (rest : List SymbolVisit) → AreItems l.items lexemes → IsLeft Word id l.initial.walk.nodes.now l.initial.walk.waiting.items l.initial.walk.seen rest →
    IsLeft Word id l.walk.nodes.now l.walk.waiting.items l.walk.seen (drop l.counter rest) × IsOutBut (g.W.Sink.known l.initial.out) (g.W.Sink.known l.out) (l.initial.text.items ++ flat_map (symbol_visit_line l.shown (lex_of id) l.line lexemes) (take l.counter rest)) l.text.items) × (g.W.Sink.faults l.out ≡ g.W.Sink.faults l.initial.out)
