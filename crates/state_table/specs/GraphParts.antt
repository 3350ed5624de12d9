-- What a state of a graph has for its row of cells, and its gotos.
use Rattle.std.specs.Prelude.{ℕ, Bool, cond, not, ◌&&◌, nat_eq, List, [], ◌∷◌, length, get_or}
use Rattle.cfg_theory.specs.Grammar.{Sym, rule, token, Grammar, body_of}
use Rattle.lr_theory.specs.Itemset.{Entry, ItemSet}
use Rattle.table_theory.specs.Cells.{accepts_in}
use Rattle.state_table.specs.CellRows.{ReductionValue, PartsValue}
use Rattle.state_table.specs.Graphs.{GraphValue}

-- a complete item of another production than the start's
abbrev pub is_complete : Grammar → Entry → Bool
is_complete G e = not (nat_eq e.production G.start) && nat_eq e.dot (length (body_of G e.production))

-- the complete items of a closed state, in order, the start production's apart
abbrev pub complete_items : Grammar → ItemSet → List ReductionValue
complete_items G [] = []
complete_items G (e ∷ es) = cond (is_complete G e) (record { production = e.production; looks = e.lookaheads } ∷ complete_items G es) (complete_items G es)

-- the edges on tokens by number, and those on rules
abbrev pub with_token : Sym → ℕ → List (ℕ × ℕ) → List (ℕ × ℕ)
with_token (token t) target es = (t, target) ∷ es
with_token (rule A) target es = es

abbrev pub with_rule : Sym → ℕ → List (ℕ × ℕ) → List (ℕ × ℕ)
with_rule (token t) target es = es
with_rule (rule A) target es = (A, target) ∷ es

abbrev pub token_edges : List (Sym × ℕ) → List (ℕ × ℕ)
token_edges [] = []
token_edges (e ∷ es) = with_token e.0 e.1 (token_edges es)

abbrev pub rule_edges : List (Sym × ℕ) → List (ℕ × ℕ)
rule_edges [] = []
rule_edges (e ∷ es) = with_rule e.0 e.1 (rule_edges es)

-- what the state s has for its row, and its gotos
abbrev pub parts_in : Grammar → GraphValue → ℕ → PartsValue
parts_in G g s = record { reductions = complete_items G (get_or g.closed s []); shifts = token_edges (get_or g.edges s []); accepts = accepts_in G (get_or g.closed s []) }

abbrev pub targets_in : GraphValue → ℕ → List (ℕ × ℕ)
targets_in g s = rule_edges (get_or g.edges s [])
