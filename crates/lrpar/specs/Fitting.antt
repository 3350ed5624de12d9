-- The parts of what fits, and the least numbers at which one doesn't.
use Rattle.std.specs.Prelude.{◌≡◌, ◌≢◌, ◌<◌, ◌≤◌, ◌⊎◌, ℕ, suc, Bool, true, false, List, [], length, Option, Some, None, slice_get, nat_lt, cond, get_or}
use Rattle.std.specs.declared.alloc.Global.{Global}
use Rattle.std.specs.declared.vec.Vec.{Vec}
use Rattle.cfg_base.specs.declared.symbol.PIdx.{PIdx}
use Rattle.cfg_theory.specs.Grammar.{Sym, rule, Grammar, head_of, body_of, end_token, IsNext, IsEnd}
use Rattle.lr_theory.specs.Automaton.{Action, shift, reduce, accept, error, Automaton, Safe}
use Rattle.lr_theory.specs.Itemset.{ItemSet, HasItem}
use Rattle.state_table.specs.Graphs.{GraphValue, graph_of, target_in, SymBefore}
use Rattle.state_table.specs.TableValues.{TableValue, goto_at}
use Rattle.state_table.specs.Tables.{CountsAgree, automaton_of}
use Rattle.lrpar.specs.Safety.{PairCell, counts, items, on_token, on_rule, ItemsFit, TokenFits, RuleFits, CellFits, CellBefore, IsLeastMisfit}
use Rattle.lrpar.specs.declared.parserdata.fitting.PastItem.{PastItem}
use Rattle.lrpar.specs.declared.parserdata.fitting.Cell.{Cell}
use Rattle.lrpar.specs.declared.parserdata.fitting.Cell.TheVariants as cells
use Rattle.lrpar.specs.declared.parserdata.fitting.Misfit.{Misfit}

-- the least number of which P doesn't hold, or that it holds of all
abbrev pub LeastNot : (ℕ → Type 0) → Option ℕ → Type 0
LeastNot P None = (n : ℕ) → P n
LeastNot P (Some n) = (P n → ⊥) × ((m : ℕ) → m < n → P m)

-- the lesser of two numbers, or the one that there is
abbrev pub least_of : Option ℕ → Option ℕ → Option ℕ
least_of None o = o
least_of (Some m) None = Some m
least_of (Some m) (Some n) = cond (nat_lt n m) (Some n) (Some m)

-- each item is of a production of the grammar
abbrev pub OfGrammar : Grammar → ItemSet → Type 0
OfGrammar G s = (p d : ℕ) → HasItem s p d → p < length G.productions

-- each item past dot nought of `to` is one of `from` whose dot moved over X
abbrev pub Carries : Grammar → ItemSet → Sym → ItemSet → Type 0
Carries G from X to = (p d : ℕ) → HasItem to p (suc d) → HasItem from p d × IsNext G p d X

-- an action on t of a state with these items and this edge on t
abbrev pub JustifiesAction : Grammar → ItemSet → Option ℕ → ℕ → Action → Type 0
JustifiesAction G s edge t (shift q) = (edge ≡ Some q) × (t ≢ end_token G)
JustifiesAction G s edge t (reduce p) = HasItem s p (length (body_of G p)) × (p ≢ G.start)
JustifiesAction G s edge t accept = HasItem s G.start (length (body_of G G.start)) × IsEnd G t
JustifiesAction G s edge t error = Unit {0}

-- a reduction by the production, if there is one, fits a state with these items
abbrev pub ReducesWell : {S : Type 0} → (S → ℕ) → Grammar → ItemSet → Option (PIdx S) → Type 0
ReducesWell number G s None = Unit {0}
ReducesWell number G s (Some i) = HasItem s (number i.0) (length (body_of G (number i.0))) × (number i.0 ≢ G.start)

-- the items past dot nought, each by its production and the dot one less
pub record ArePast {S : Type 0} (number : S → ℕ) (s : ItemSet) (xs : List (PastItem S)) : Type 0 where
  pub each : (k : ℕ) (x : PastItem S) → slice_get xs k ≡ Some x → HasItem s (number x.pidx.0) (suc (number x.before.0))
  pub all : (p d : ℕ) → HasItem s p (suc d) → (k : ℕ) × (x : PastItem S) × (slice_get xs k ≡ Some x) × (number x.pidx.0 ≡ p) × (number x.before.0 ≡ d)

-- those of each state
pub record AreAllPast {S : Type 0} (number : S → ℕ) (g : GraphValue) (xs : List (Vec (PastItem S) Global)) : Type 0 where
  pub count : length xs ≡ length g.cores
  pub each : (k : ℕ) (x : Vec (PastItem S) Global) → slice_get xs k ≡ Some x → ArePast number (get_or g.closed k []) x.items

-- the items of a closed state of the graph
abbrev pub closed_at : GraphValue → ℕ → ItemSet
closed_at g s = get_or g.closed s []

-- some edge into q doesn't carry
pub record Uncarried (G : Grammar) (g : GraphValue) (q : ℕ) : Type 0 where
  pub from : ℕ
  pub on : Sym
  pub edge : (graph_of g).edge from on ≡ Some q
  pub fails : Carries G (closed_at g from) on (closed_at g q) → ⊥

-- a flag for each state, whether some edge into it from a state below n doesn't carry
pub record AreFlags (G : Grammar) (g : GraphValue) (n : ℕ) (flags : List Bool) : Type 0 where
  pub count : length flags ≡ length g.cores
  pub told : (q : ℕ) → slice_get flags q ≡ Some true → Uncarried G g q
  pub clear : (r : ℕ) (X : Sym) (q : ℕ) → r < n → (graph_of g).edge r X ≡ Some q → slice_get flags q ≡ Some false → Carries G (closed_at g r) X (closed_at g q)

-- the edges before this place are on symbols before X
pub record Passed (es : List (Sym × ℕ)) (place : ℕ) (X : Sym) : Type 0 where
  pub within : place ≤ length es
  pub before : (k : ℕ) (e : Sym × ℕ) → k < place → slice_get es k ≡ Some e → SymBefore e.0 X

-- and the one at this place isn't
pub record StopsBefore (es : List (Sym × ℕ)) (place : ℕ) (X : Sym) : Type 0 where
  pub stops : (e : Sym × ℕ) → slice_get es place ≡ Some e → SymBefore e.0 X → ⊥

-- gotos of a row are, one by one, the first edges, and no edge on a rule below the count stands behind these
pub record AreEdges (row : List (ℕ × ℕ)) (es : List (Sym × ℕ)) (rules : ℕ) : Type 0 where
  pub same : (k A q : ℕ) → slice_get row k ≡ Some (A, q) → slice_get es k ≡ Some (rule A, q)
  pub ends : (A q : ℕ) → slice_get es (length row) ≡ Some (rule A, q) → A < rules → ⊥

-- an edge on a token that leads into the start state, and one on a rule that does, or that is past the rules
abbrev pub BadToken : ℕ → ℕ → ℕ → Type 0
BadToken start t q = q ≡ start

abbrev pub BadRule : ℕ → ℕ → ℕ → ℕ → Type 0
BadRule start rules A q = (q ≡ start) ⊎ (rules ≤ A)

-- no edge on n is such a one
abbrev pub NoneBad : List (Sym × ℕ) → (ℕ → Sym) → (ℕ → ℕ → Type 0) → ℕ → Type 0
NoneBad es kind Bad n = (q : ℕ) → target_in es (kind n) ≡ Some q → Bad n q → ⊥

-- the number of an edge on such a symbol that is such a one, or that it is none
abbrev pub TellsBad : Sym × ℕ → (ℕ → Sym) → (ℕ → ℕ → Type 0) → Option ℕ → Type 0
TellsBad e kind Bad None = (n q : ℕ) → e ≡ (kind n, q) → Bad n q → ⊥
TellsBad e kind Bad (Some n) = (q : ℕ) × (e ≡ (kind n, q)) × Bad n q

-- what is asked of the goto of s on A where (p, d) is one of its items, and where these are
abbrev pub GoesFrom : Grammar → TableValue → ℕ → ℕ → ℕ → ℕ → Type 0
GoesFrom G v s A p d = d ≡ 0 → p ≢ G.start → head_of G p ≡ A → (q : ℕ) × (goto_at v s A ≡ Some q)

abbrev pub HasGotos : Grammar → ItemSet → TableValue → ℕ → ℕ → Type 0
HasGotos G i v s A = (p d : ℕ) → HasItem i p d → GoesFrom G v s A p d

abbrev pub cell_of : {S : Type 0} → (S → ℕ) → Cell S → PairCell
cell_of number cells.Counts = counts
cell_of number cells.Items = items
cell_of number (cells.Token t) = on_token (number t.0)
cell_of number (cells.Rule r) = on_rule (number r.0)

-- the first cell of a state behind the counts that doesn't fit, or that all fit
abbrev pub TellsCell : {S : Type 0} → (S → ℕ) → Type 0 → Grammar → Automaton → ℕ → Option (Cell S) → Type 0
TellsCell number agree G a s None = ItemsFit G a s × ((t : ℕ) → TokenFits G a s t) × ((A : ℕ) → RuleFits G a s A)
TellsCell number agree G a s (Some c) = (CellFits agree G a s (cell_of number c) → ⊥) × ((k : PairCell) → CellBefore k (cell_of number c) → CellFits agree G a s k)

-- the least place that doesn't fit, or that the pair is safe
abbrev pub TellsMisfit : {S : Type 0} → (S → ℕ) → Grammar → GraphValue → TableValue → Option (Misfit S) → Type 0
TellsMisfit number G g v None = CountsAgree G g v × Safe G (automaton_of g v)
TellsMisfit number G g v (Some m) = IsLeastMisfit (CountsAgree G g v) G (automaton_of g v) (number m.state.0) (cell_of number m.cell)
