-- State graphs as texts: for each state its items, then its edges by target.
use Rattle.std.specs.Prelude.{ℕ, ◌+◌, ◌-◌, ◌<◌, ◌≤◌, ◌==◌, ◌⊎◌, All, Bool, true, false, List, [], ◌∷◌, ◌++◌, length, map, get_or, take, drop, replicate, codes}
use Rattle.std.specs.List.{filter, flat_map, join_by, range_with_len}
use Rattle.std.specs.Fmt.{decimal}
use Rattle.vob.specs.Walk.{indices_of}
use Rattle.cfg_theory.specs.Grammar.{Sym, rule, token, head_of, body_of}
use Rattle.cfg_numbered.specs.PrettyPrint.{name_of}
use Rattle.cfg_numbered.specs.Value.{GrammarValue}
use Rattle.lr_theory.specs.Itemset.{Entry, ItemSet}
use Rattle.state_table.specs.ConflictTexts.{shown_token}
use Rattle.state_table.specs.Graphs.{GraphValue}

-- a token between single quotation marks
abbrev pub token_text : GrammarValue → ℕ → List ℕ
token_text v t = codes "'" ++ shown_token v t ++ codes "'"

-- a rule by its name
abbrev pub symbol_text : GrammarValue → Sym → List ℕ
symbol_text v (rule A) = name_of v (rule A)
symbol_text v (token t) = token_text v t

-- a space, and the symbol
abbrev pub spaced : GrammarValue → Sym → List ℕ
spaced v X = codes " " ++ symbol_text v X

-- the symbols of a body, with a dot before the d-th
abbrev pub dotted : GrammarValue → List Sym → ℕ → List ℕ
dotted v body d = flat_map (spaced v) (take d body) ++ codes " ." ++ flat_map (spaced v) (drop d body)

-- the tokens of a set, ascending
abbrev pub tokens_of : List Bool → List ℕ
tokens_of bits = indices_of true bits 0 (length bits)

-- `{'a', '$'}`
abbrev pub looks_text : GrammarValue → List Bool → List ℕ
looks_text v bits = codes "{" ++ join_by (token_text v) (codes ", ") (tokens_of bits) ++ codes "}"

-- `[R ->`
abbrev pub head_text : GrammarValue → ℕ → List ℕ
head_text v p = codes "[" ++ name_of v (rule (head_of v.grammar p)) ++ codes " ->"

-- `[R -> X . Y, {'a', '$'}]`
abbrev pub item_text : GrammarValue → Entry → List ℕ
item_text v e = head_text v e.production ++ dotted v (body_of v.grammar e.production) e.dot ++ codes ", " ++ looks_text v e.lookaheads ++ codes "]"

-- `X -> m`
abbrev pub edge_text : GrammarValue → Sym × ℕ → List ℕ
edge_text v e = symbol_text v e.0 ++ codes " -> " ++ decimal e.1

-- the edges that lead to a state
abbrev pub edges_to : List (Sym × ℕ) → ℕ → List (Sym × ℕ)
edges_to es target = filter (λ e. e.1 == target) es

-- the edges to the states before a number, by their targets
abbrev pub by_target : ℕ → List (Sym × ℕ) → List (Sym × ℕ)
by_target count es = flat_map (edges_to es) (range_with_len 0 count)

-- none of them leads to a state from the one number up to the other
abbrev pub NoneLead : List (Sym × ℕ) → ℕ → ℕ → Type 0
NoneLead es from to = All (λ e. (e.1 < from) ⊎ (to ≤ e.1)) es

-- what stands in the lines of a state
abbrev pub state_lines : GrammarValue → ℕ → ItemSet → List (Sym × ℕ) → List (List ℕ)
state_lines v count set es = map (item_text v) set ++ map (edge_text v) (by_target count es)

-- a line behind its front
abbrev pub line : List ℕ → List ℕ → List ℕ
line front shown = front ++ shown ++ codes "\n"

-- lines, of which the first has a front of its own
abbrev pub lines_text : List ℕ → List ℕ → List (List ℕ) → List ℕ
lines_text front gap [] = []
lines_text front gap (l ∷ ls) = line front l ++ flat_map (line gap) ls

-- the columns of a front: the digits of the greatest of so many states, and two more
abbrev pub front_width : ℕ → ℕ
front_width count = length (decimal (count - 1)) + 2

-- `n:`, filled by spaces
abbrev pub number_front : ℕ → ℕ → List ℕ
number_front width s = (decimal s ++ codes ":") ++ replicate (width - length (decimal s ++ codes ":")) 32

-- the lines of a state, behind its number
abbrev pub state_text : GrammarValue → GraphValue → List ItemSet → ℕ → List ℕ
state_text v g sets s =
    let width = front_width (length g.cores) in
    lines_text (number_front width s) (replicate width 32) (state_lines v (length g.cores) (get_or sets s []) (get_or g.edges s []))

-- all states, with these sets
abbrev pub graph_text : GrammarValue → GraphValue → List ItemSet → List ℕ
graph_text v g sets = flat_map (state_text v g sets) (range_with_len 0 (length g.cores))

-- the cores or the closures
abbrev pub sets_of : Bool → GraphValue → List ItemSet
sets_of true g = g.cores
sets_of false g = g.closed
