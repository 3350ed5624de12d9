-- State graphs as callers see them.
use Rattle.std.specs.Prelude.{◌≡◌, ℕ, ◌<◌, ◌≤◌, cond, List, [], ◌∷◌, length, get_or, Option, Some, None, All, AllPairs}
use Rattle.std.specs.List.{sum_by}
use Rattle.cfg_theory.specs.Grammar.{Sym, Grammar, rule, token}
use Rattle.lr_theory.specs.Graph.{Graph, StateItem, StateLook}
use Rattle.lr_theory.specs.Building.{same_symbol, IsGraph}
use Rattle.lr_theory.specs.Itemset.{ItemSet, Is, FitsGrammar}

-- the order of symbols: rules before tokens, each by their indices
abbrev pub SymBefore : Sym → Sym → Type 0
SymBefore (rule A) (rule B) = A < B
SymBefore (rule A) (token t) = Unit {0}
SymBefore (token t) (rule A) = ⊥
SymBefore (token t) (token u) = t < u

-- the cores and closures of the states, the start state, and each state's edges in the order of their symbols
pub record GraphValue : Type 0 where
  pub cores : List ItemSet
  pub closed : List ItemSet
  pub start : ℕ
  pub edges : List (List (Sym × ℕ))

-- where the edge on a symbol leads
abbrev pub target_in : List (Sym × ℕ) → Sym → Option ℕ
target_in [] X = None
target_in (e ∷ es) X = cond (same_symbol X e.0) (Some e.1) (target_in es X)

abbrev pub graph_of : GraphValue → Graph
graph_of g = record { cores = g.cores; start = g.start; edge = λ s X. target_in (get_or g.edges s []) X }

-- edges in the order of their symbols, one on each
abbrev pub AreInOrder : List (Sym × ℕ) → Type 0
AreInOrder es = AllPairs (λ e f. SymBefore e.0 f.0) es

-- what is so of each graph whose states have numbers up to `top`
pub record IsGraphValue (top : ℕ) (g : GraphValue) : Type 0 where
  pub closed : length g.closed ≡ length g.cores
  pub edges : length g.edges ≡ length g.cores
  pub few : length g.cores ≤ top
  pub start : g.start < length g.cores
  pub targets : (s : ℕ) → All (λ e. e.1 < length g.cores) (get_or g.edges s [])
  pub ascend : (s : ℕ) → AreInOrder (get_or g.edges s [])

-- the graph of the grammar, with closed states that are lists of its items
pub record IsGraphOf (G : Grammar) (g : GraphValue) : Type 0 where
  pub graph : IsGraph G (graph_of g)
  pub closes : length g.closed ≡ length g.cores
  pub closed : (s : ℕ) → s < length g.cores → Is (get_or g.closed s []) (StateItem G (graph_of g) s) (StateLook G (graph_of g) s)
  pub fits : All (FitsGrammar G) g.cores × All (FitsGrammar G) g.closed
  pub lists : length g.edges ≡ length g.cores
  pub ascend : (s : ℕ) → AreInOrder (get_or g.edges s [])
  pub start : g.start ≡ 0

-- how many edges there are
abbrev pub edge_count : GraphValue → ℕ
edge_count g = sum_by length g.edges
