-- Trees as one list of small nodes: productions, and leaves that only count.
use Rattle.std.specs.Prelude.{◌≡◌, ◌<◌, ◌≤◌, ◌^◌, ℕ, zero, suc, ◌+◌, Bool, false, List, [], ◌∷◌, ◌++◌, map, length, reverse, Option, None, Some}
use Rattle.cfg_theory.specs.Fold.{Span, no_span}
use Rattle.cfg_theory.specs.Tree.{Tree, leaf, node, Forest, none, before}
use Rattle.parse_trees.specs.FlatTrees.{Piece, term, nonterm, size, IsFlat, IsFlatStack, StandsAt}
use Rattle.parse_trees.specs.declared.flat.Visit.{Visit}
use Rattle.parse_trees.specs.declared.outline.OutlineNode.{OutlineNode}
use Rattle.parse_trees.specs.declared.outline.OutlineSymbol.{OutlineSymbol}
use Rattle.parse_trees.specs.declared.outline.OutlineSymbol.TheVariants.{Leaf, Prod}
use Rattle.parse_trees.specs.declared.outline.OutlineVisit.{OutlineVisit}

-- a leaf, or a production and the number of nodes below it
pub data Mark : Type 0 where
  leaf_mark : Mark
  prod_mark : ℕ → ℕ → Mark

-- by a production, and one more than the number of nodes below, or zero
abbrev pub mark_by : ℕ → ℕ → Mark
mark_by p zero = leaf_mark
mark_by p (suc n) = prod_mark p n

abbrev pub mark_of : {S : Type 0} → (S → ℕ) → OutlineNode S → Mark
mark_of number x = mark_by (number x.pidx.0) x.reach

abbrev pub marks_of : {S : Type 0} → (S → ℕ) → List (OutlineNode S) → List Mark
marks_of number nodes = map (mark_of number) nodes

-- a node without lexeme and span
abbrev pub erased : {L : Type 0} → Piece L → Mark
erased (term x) = leaf_mark
erased (nonterm p span n) = prod_mark p n

abbrev pub mark_below : Mark → ℕ
mark_below leaf_mark = 0
mark_below (prod_mark p n) = n

-- spans don't matter here
abbrev pub unplaced : {L : Type 0} → L → Span
unplaced x = no_span

-- what contracts see of an outline
pub record OutlineValue : Type 0 where
  pub marks : List Mark

-- the nodes are those of a tree
pub record IsOutline {L : Type 0} (t : Tree L) (v : OutlineValue) : Type 0 where
  pub pieces : List (Piece L)
  pub flat : IsFlat unplaced t pieces
  pub are : v.marks ≡ map erased pieces

-- the nodes are those of some tree
abbrev pub IsSomeOutline : Type 0 → OutlineValue → Type 0
IsSomeOutline L v = (t : Tree L) × IsOutline t v

-- nodes and ends are those of a stack of trees, whose top comes first; if some number was too large, only the counts are
pub record IsOutlineStack {L : Type 0} (ts : List (Tree L)) (marks : List Mark) (ends : List ℕ) (large : Bool) : Type 0 where
  pub pieces : List (Piece L)
  pub flat : IsFlatStack unplaced ts pieces ends
  pub count : length marks ≡ length pieces
  pub are : large ≡ false → marks ≡ map erased pieces

-- a node on a walk as numbers
pub data Symbol : Type 0 where
  at_leaf : ℕ → Symbol
  at_prod : ℕ → Symbol

-- what a node behind k leaves is, and how many leaves it is itself
abbrev pub symbol_by : Mark → ℕ → Symbol
symbol_by leaf_mark k = at_leaf k
symbol_by (prod_mark p n) k = at_prod p

abbrev pub leaf_count : Mark → ℕ
leaf_count leaf_mark = 1
leaf_count (prod_mark p n) = 0

pub record SymbolVisit : Type 0 where
  pub symbol : Symbol
  pub depth : ℕ

abbrev mutual
  pub leaves : {L : Type 0} → Tree L → ℕ
  leaves (leaf x) = 1
  leaves (node p f) = leaves_in f

  pub leaves_in : {L : Type 0} → Forest L → ℕ
  leaves_in none = 0
  leaves_in (before t f) = leaves t + leaves_in f

abbrev mutual
  -- the nodes of a tree, each before its children, whose first leaf has the number k
  pub symbols : {L : Type 0} → ℕ → ℕ → Tree L → List SymbolVisit
  symbols k d (leaf x) = record { symbol = at_leaf k; depth = d } ∷ []
  symbols k d (node p f) = record { symbol = at_prod p; depth = d } ∷ symbols_in k (d + 1) f

  pub symbols_in : {L : Type 0} → ℕ → ℕ → Forest L → List SymbolVisit
  symbols_in k d none = []
  symbols_in k d (before t f) = symbols k d t ++ symbols_in (k + leaves t) d f

abbrev pub symbol_of : {S : Type 0} → (S → ℕ) → OutlineSymbol S → Symbol
symbol_of number (Leaf k) = at_leaf k
symbol_of number (Prod p) = at_prod (number p.0)

abbrev pub visit_of : {S : Type 0} → (S → ℕ) → OutlineVisit S → SymbolVisit
visit_of number v = record { symbol = symbol_of number v.symbol; depth = v.depth }

-- the nodes that wait, the next one first, are roots of what is left, whose first leaf has the number k
abbrev pub OutlineWaits : {L : Type 0} → List (Piece L) → List Visit → ℕ → List SymbolVisit → Type 0
OutlineWaits pieces [] k rest = rest ≡ []
OutlineWaits {L} pieces (v ∷ vs) k rest =
    (j : ℕ) × (t : Tree L) × (others : List SymbolVisit) × StandsAt unplaced pieces j t × (v.index + 1 ≡ j + size t) × (v.depth + size t ≤ length pieces) × (rest ≡ symbols k v.depth t ++ others) × OutlineWaits pieces vs (k + leaves t) others

-- what is left of a walk over these nodes, `seen` leaves of which were visited
pub record IsLeft {S : Type 0} (L : Type 0) (number : S → ℕ) (nodes : List (OutlineNode S)) (waiting : List Visit) (seen : ℕ) (rest : List SymbolVisit) : Type 0 where
  pub pieces : List (Piece L)
  pub are : marks_of number nodes ≡ map erased pieces
  pub waits : OutlineWaits pieces (reverse waiting) seen rest
  pub within : seen + length rest ≤ length nodes
  pub few : length nodes < 2 ^ 64

-- a step returns the first of what is left, and leaves the others
abbrev pub StepsTo : {S : Type 0} → (S → ℕ) → Option (OutlineVisit S) → List SymbolVisit → (List SymbolVisit → Type 0) → Type 0
StepsTo number None rest Leaves = rest ≡ []
StepsTo number (Some v) rest Leaves = (others : List SymbolVisit) × (rest ≡ visit_of number v ∷ others) × Leaves others
