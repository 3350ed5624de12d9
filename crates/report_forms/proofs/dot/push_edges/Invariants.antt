use Rattle.std.proofs.Common.{◌≡◌, ◌++◌, take}
use Rattle.std.specs.List.{flat_map}
use Rattle.std.specs.String.{string_bytes}
use Rattle.report_forms.specs.DotTexts.{edge_line}
use Rattle.report_forms.proofs.dot.push_edges.Given as goal

abbrev pub invariant-edges : goal.invariant-edges
invariant-edges l = string_bytes l.text ≡ string_bytes l.fn.text ++ flat_map (edge_line l.from) (take l.edge-index l.edges)
