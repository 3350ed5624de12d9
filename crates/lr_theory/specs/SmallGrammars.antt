-- Small grammars on which the definitions are met: a contest, graphs with their automata, sets of one core that stay
-- apart, a state that grows, and a repair.
use Rattle.std.specs.Prelude.{◌≡◌, ℕ, zero, suc, Bool, true, false, List, [], ◌∷◌, length, Some, None}
use Rattle.cfg_theory.specs.Grammar.{Sym, rule, token, Grammar, WellFormed}
use Rattle.cfg_theory.specs.Derivation.{AllProductive}
use Rattle.cfg_theory.specs.Tree.{Tree, leaf, node, none, before}
use Rattle.cfg_theory.specs.Fold.{Span, by_functions}
use Rattle.cfg_theory.specs.SmallGrammar.{production, as_is}
use Rattle.lr_theory.specs.Canonical.{Look, Contested}
use Rattle.lr_theory.specs.Itemset.{Entry, ItemSet, HasItem, HasLook, SameItems, HasCore, WeaklyCompatible}
use Rattle.lr_theory.specs.Graph.{Graph, CoreItem, CoreLook}
use Rattle.lr_theory.specs.Building.{Building, Reached, Step, IsTodo, with_edge, IsGraph, StaysOut}
use Rattle.lr_theory.specs.Automaton.{Action, shift, reduce, accept, error, Automaton}
use Rattle.lr_theory.specs.Machine.{Config, accepted, run, start_config}
use Rattle.lr_theory.specs.Chains.{ChainsWithin}
use Rattle.lr_theory.specs.Table.{IsAutomatonOf, FillsCells}
use Rattle.lr_theory.specs.TableLaws.{IsUncontested}
use Rattle.lr_theory.specs.ViablePrefix.{HasPresent}
use Rattle.lr_theory.specs.ErrorPlaces.{IsReady}
use Rattle.lr_theory.specs.Repair.{Edit, insert, Takes, Parses, Advances}
use Rattle.lr_theory.specs.StackValues.{StackFolds}

-- `S: A x y | B x z; A: a; B: a;`: after a, x leaves two reductions.
-- x, y, z, a and the end are the tokens 0 to 4; ^, S, A, B the rules 0 to 3.
abbrev pub clash : Grammar
clash = record {
  rules = 4;
  tokens = 5;
  productions = production 1 (rule 2 ∷ token 0 ∷ token 1 ∷ []) ∷ production 1 (rule 3 ∷ token 0 ∷ token 2 ∷ []) ∷ production 2 (token 3 ∷ []) ∷ production 3 (token 3 ∷ []) ∷ production 0 (rule 1 ∷ []) ∷ [];
  start = 4;
}

pub record ClashIsContested : Type 0 where
  pub contested : Contested clash (token 3 ∷ []) 0

-- `^: S; S: ;`, which derives the empty text alone
abbrev pub tiny : Grammar
tiny = record { rules = 2; tokens = 1; productions = production 0 (rule 1 ∷ []) ∷ production 1 [] ∷ []; start = 0 }

-- an automaton and its grammar meet what the laws of the machine ask, and no more than cap reductions come one after another
pub record MeetsLaws (G : Grammar) (a : Automaton) (x : Sym) (cap : ℕ) : Type 0 where
  pub well_formed : WellFormed G
  pub graph : IsGraph G a.graph
  pub is_automaton : IsAutomatonOf G a
  pub fills : FillsCells G a
  pub uncontested : IsUncontested G
  pub productive : AllProductive G
  pub ready : IsReady G a x
  pub present : HasPresent G a
  pub chains : ChainsWithin G a cap

-- its automaton meets them, and accepts the empty text
pub record TinyIsReady : Type 0 where
  pub automaton : Automaton
  pub meets : MeetsLaws tiny automaton (rule 1) 1
  pub accepts : run tiny automaton as_is 2 (start_config automaton []) ≡ accepted (node 1 none)

-- `S: a A d | b B d | a B e | b A e; A: c; B: c;`: after a c and after b c stand the same items, whose lookaheads d and
-- e are the other way round.
-- a to e and the end are the tokens 0 to 5; ^, S, A, B the rules 0 to 3.
abbrev pub crossing : Grammar
crossing = record {
  rules = 4;
  tokens = 6;
  productions = production 1 (token 0 ∷ rule 2 ∷ token 3 ∷ []) ∷ production 1 (token 1 ∷ rule 3 ∷ token 3 ∷ []) ∷ production 1 (token 0 ∷ rule 3 ∷ token 4 ∷ []) ∷ production 1 (token 1 ∷ rule 2 ∷ token 4 ∷ []) ∷ production 2 (token 2 ∷ []) ∷ production 3 (token 2 ∷ []) ∷ production 0 (rule 1 ∷ []) ∷ [];
  start = 6;
}

abbrev pub d_alone : List Bool
d_alone = false ∷ false ∷ false ∷ true ∷ false ∷ false ∷ []

abbrev pub e_alone : List Bool
e_alone = false ∷ false ∷ false ∷ false ∷ true ∷ false ∷ []

-- `A: c .` and `B: c .` with these lookaheads
abbrev pub completed : List Bool → List Bool → ItemSet
completed a b = record { production = 4; dot = 1; lookaheads = a } ∷ record { production = 5; dot = 1; lookaheads = b } ∷ []

abbrev pub after_a : ItemSet
after_a = completed d_alone e_alone

abbrev pub after_b : ItemSet
after_b = completed e_alone d_alone

abbrev pub Looks : ItemSet → List Sym → Type 0
Looks s w = (p d t : ℕ) → HasLook s p d t → Look crossing w p d t

-- a graph with the first set for a state
abbrev pub graph_after_a : Graph
graph_after_a = record { cores = after_a ∷ []; start = 0; edge = λ s X. None }

-- the second set has the state's core, and doesn't join it
pub record CrossingStaysApart : Type 0 where
  pub core_after_a : HasCore crossing (HasItem after_a) (token 2 ∷ token 0 ∷ [])
  pub looks_after_a : Looks after_a (token 2 ∷ token 0 ∷ [])
  pub core_after_b : HasCore crossing (HasItem after_b) (token 2 ∷ token 1 ∷ [])
  pub looks_after_b : Looks after_b (token 2 ∷ token 1 ∷ [])
  pub same : SameItems (HasItem after_a) (HasItem after_b)
  pub apart : WeaklyCompatible (HasItem after_a) (HasLook after_a) (HasLook after_b) → ⊥
  pub stays_out : StaysOut graph_after_a 0 (HasItem after_b) (HasLook after_b)

-- `S: a S b | ;`: the state behind a leads to itself, with b for a lookahead more.
-- a, b and the end are the tokens 0 to 2; ^ and S the rules 0 and 1.
abbrev pub nested : Grammar
nested = record { rules = 2; tokens = 3; productions = production 1 (token 0 ∷ rule 1 ∷ token 1 ∷ []) ∷ production 1 [] ∷ production 0 (rule 1 ∷ []) ∷ []; start = 2 }

-- the step that handles it lets it grow, and it is to be taken again
pub record StateGrows : Type 0 where
  pub well_formed : WellFormed nested
  pub before : Building
  pub after : Building
  pub reached : Reached nested before
  pub step : Step nested before after
  pub item : CoreItem before.graph step.state 0 1
  pub without : CoreLook before.graph step.state 0 1 1 → ⊥
  pub grown : CoreLook after.graph step.state 0 1 1
  pub again : IsTodo after step.state
  -- the whole graph has five states
  pub graph : Graph
  pub is_graph : IsGraph nested graph
  pub states : length graph.cores ≡ 5

-- `^: S; S: x;`. x and the end are the tokens 0 and 1.
abbrev pub single : Grammar
single = record { rules = 2; tokens = 2; productions = production 1 (token 0 ∷ []) ∷ production 0 (rule 1 ∷ []) ∷ []; start = 1 }

abbrev pub before_end : ℕ → ℕ → Entry
before_end p d = record { production = p; dot = d; lookaheads = false ∷ true ∷ [] }

-- its states are those after nothing, after S and after x
abbrev pub single_graph : Graph
single_graph = record {
  cores = (before_end 1 0 ∷ []) ∷ (before_end 1 1 ∷ []) ∷ (before_end 0 1 ∷ []) ∷ [];
  start = 0;
  edge = with_edge (with_edge (λ s X. None) 0 (rule 1) 1) 0 (token 0) 2;
}

abbrev pub single_action : ℕ → ℕ → Action
single_action zero zero = shift 2
single_action (suc zero) (suc zero) = accept
single_action (suc (suc zero)) (suc zero) = reduce 0
single_action _ _ = error

abbrev pub single_machine : Automaton
single_machine = record {
  graph = single_graph;
  closed = (before_end 0 0 ∷ before_end 1 0 ∷ []) ∷ (before_end 1 1 ∷ []) ∷ (before_end 0 1 ∷ []) ∷ [];
  action = single_action;
  goto = λ s A. single_graph.edge s (rule A);
}

-- an inserted lexeme is its token
abbrev pub made : ℕ → List ℕ → ℕ
made t xs = t

-- at each error x is offered
abbrev pub offered : Config ℕ → List (List Edit)
offered c = (insert 0 ∷ []) ∷ []

abbrev pub single_tree : Tree ℕ
single_tree = node 0 (before (leaf 0) none)

abbrev pub place : ℕ → Span
place t = record { from = 0; to = 0 }

-- its machine meets the laws, and gives the empty text the missing x, with one error
pub record MissingLexemeIsInserted : Type 0 where
  pub meets : MeetsLaws single single_machine (rule 1) 1
  pub takes : Takes single single_machine as_is made (start_config single_machine []) (insert 0 ∷ [])
  pub parses : Parses ℕ single single_machine as_is made offered (start_config single_machine []) (Some single_tree) (start_config single_machine [] ∷ []) (0 ∷ [])
  pub advances : Advances (start_config {L = ℕ} single_machine [] ∷ [])
  pub folds : StackFolds single (by_functions as_is (λ p r s args. p)) place (single_tree ∷ []) (0 ∷ [])
