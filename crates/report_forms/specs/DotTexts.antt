-- The states for Graphviz: a box for each with the items of its core, and an edge for each symbol.
use Rattle.std.specs.Prelude.{ℕ, List, ◌∷◌, ◌++◌, ◌==◌, ◌||◌, if◌then◌else◌, length, codes, encode_utf8, String}
use Rattle.std.specs.Fmt.{decimal}
use Rattle.std.specs.List.{flat_map}
use Rattle.std.specs.Str.{chars}
use Rattle.std.specs.String.{string_bytes}
use Rattle.std.specs.declared.alloc.Global.{Global}
use Rattle.report_forms.specs.declared.values.Edge.{Edge}
use Rattle.report_forms.specs.declared.values.Findings.{Findings}
use Rattle.report_forms.specs.declared.values.State.{State}

-- a quote and a backslash are behind a backslash
abbrev pub label_char : ℕ → List ℕ
label_char c = if c == 34 || c == 92 then 92 ∷ encode_utf8 c else encode_utf8 c

abbrev pub label : List ℕ → List ℕ
label text = flat_map label_char (chars text)

-- a line of a box, to the left
abbrev pub label_line : List ℕ → List ℕ
label_line text = label text ++ codes "\\l"

abbrev pub contest : List (String Global) → List ℕ
contest tokens = codes "conflict before" ++ flat_map (λ (token : String Global). 32 ∷ string_bytes token) tokens

-- the end of a box with conflicts, which is red
abbrev pub contest_end : List (String Global) → List ℕ
contest_end tokens = label (contest tokens) ++ codes "\\l\", color=red, fontcolor=red]\n"

-- the end of a box: the tokens of its conflicts, if it has some
abbrev pub box_end : List (String Global) → List ℕ
box_end tokens = if length tokens == 0 then codes "\"]\n" else contest_end tokens

abbrev pub edge_line : ℕ → Edge → List ℕ
edge_line from e = (codes "  " ++ decimal from ++ codes " -> " ++ decimal e.target ++ codes " [label=\"") ++ label (string_bytes e.symbol) ++ codes "\"]\n"

abbrev pub box_lines : List (String Global) → List ℕ
box_lines items = flat_map (λ (item : String Global). label_line (string_bytes item)) items

abbrev pub box_head : ℕ → List ℕ
box_head number = codes "  " ++ (decimal number ++ (codes " [label=\"state " ++ (decimal number ++ codes "\\l")))

abbrev pub box : State → List ℕ
box s = box_head s.number ++ box_lines s.items.items ++ box_end s.contested.items

unfoldable pub state_lines : State → List ℕ
state_lines s = box s ++ flat_map (edge_line s.number) s.edges.items

abbrev pub graph_text : Findings → List ℕ
graph_text f = codes "digraph states {\n  node [shape=box]\n" ++ flat_map state_lines f.states.items ++ codes "}\n"
