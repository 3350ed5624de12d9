-- The outline so far is bounded.
use Rattle.text_server.specs.Outlines.{IsBounded}
use Rattle.text_server.proofs.outline.push_symbols.Given as goal

abbrev pub invariant-nodes : goal.invariant-nodes
invariant-nodes l = IsBounded l.symbols.items
