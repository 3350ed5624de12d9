-- Small cases in which a rule could have chosen otherwise: what edits do, the order of symbols and of states, which state
-- a set joins, and which of the long chains is the least.
use Rattle.std.specs.Prelude.{◌≡◌, ℕ, zero, suc, ◌+◌, ◌*◌, Bool, true, false, List, [], ◌∷◌, Option, Some, None}
use Rattle.cfg_theory.specs.Grammar.{Sym, rule, token, Grammar, WellFormed}
use Rattle.cfg_theory.specs.SmallGrammar.{production, example}
use Rattle.lr_theory.specs.Itemset.{ItemSet, HasItem, HasLook, WeaklyCompatible, Meet, Cross}
use Rattle.lr_theory.specs.Graph.{Graph}
use Rattle.lr_theory.specs.Building.{symbols, with_edge, Joins, StaysOut, IsGraph}
use Rattle.lr_theory.specs.Automaton.{Action, reduce, error, Automaton}
use Rattle.lr_theory.specs.LongChains.{Chain, Passes, IsLeastChain}
use Rattle.lr_theory.specs.Repair.{insert, delete, keep, apply}
use Rattle.lr_theory.specs.SmallGrammars.{d_alone, e_alone, completed, after_a, after_b, graph_after_a}

-- an inserted lexeme tells the one that it stands before
abbrev pub told_place : ℕ → List ℕ → ℕ
told_place t [] = t
told_place t (x ∷ xs) = t * 10 + x

pub record EditsAreApplied : Type 0 where
  -- what is inserted stands before the next lexeme, a deleted one is gone, and a kept one stays
  pub all_kinds : apply told_place (insert 5 ∷ delete ∷ keep ∷ []) (7 ∷ 8 ∷ 9 ∷ []) ≡ Some (57 ∷ 8 ∷ [], 9 ∷ [])
  pub behind_delete : apply told_place (delete ∷ insert 5 ∷ []) (7 ∷ 8 ∷ []) ≡ Some (58 ∷ [], 8 ∷ [])
  pub at_end : apply told_place (keep ∷ insert 5 ∷ []) (7 ∷ []) ≡ Some (7 ∷ 5 ∷ [], [])
  -- past the last lexeme there is none to keep or to delete
  pub keep_past : apply told_place (keep ∷ keep ∷ []) (7 ∷ []) ≡ None
  pub delete_past : apply told_place (delete ∷ delete ∷ []) (7 ∷ []) ≡ None

-- rules before tokens, each kind ascending
pub record SymbolsAreInOrder : Type 0 where
  pub in_order : symbols example ≡ rule 0 ∷ rule 1 ∷ rule 2 ∷ token 0 ∷ token 1 ∷ token 2 ∷ []

-- `^: S; S: a c | b d;`. a to d and the end are the tokens 0 to 4; ^ and S the rules 0 and 1.
abbrev pub paired : Grammar
paired = record { rules = 2; tokens = 5; productions = production 1 (token 0 ∷ token 2 ∷ []) ∷ production 1 (token 1 ∷ token 3 ∷ []) ∷ production 0 (rule 1 ∷ []) ∷ []; start = 2 }

-- an item with the end token
abbrev pub at_dot : ℕ → ℕ → ItemSet
at_dot p d = record { production = p; dot = d; lookaheads = false ∷ false ∷ false ∷ false ∷ true ∷ [] } ∷ []

abbrev pub paired_graph : Graph
paired_graph = record {
  cores = at_dot 2 0 ∷ at_dot 2 1 ∷ at_dot 0 1 ∷ at_dot 1 1 ∷ at_dot 0 2 ∷ at_dot 1 2 ∷ [];
  start = 0;
  edge = with_edge (with_edge (with_edge (with_edge (with_edge (λ s X. None) 0 (rule 1) 1) 0 (token 0) 2) 0 (token 1) 3) 2 (token 2) 4) 3 (token 3) 5;
}

-- its states are numbered as they are made, the least that is to be taken first: after S is 1, after a 2, after b 3, after a c 4, after b d 5
pub record StatesAreInOrder : Type 0 where
  pub well_formed : WellFormed paired
  pub is_graph : IsGraph paired paired_graph
  pub after_a : paired_graph.edge 0 (token 0) ≡ Some 2
  pub after_b : paired_graph.edge 0 (token 1) ≡ Some 3
  pub after_a_c : paired_graph.edge 2 (token 2) ≡ Some 4
  pub after_b_d : paired_graph.edge 3 (token 3) ≡ Some 5

abbrev pub d_and_e : List Bool
d_and_e = false ∷ false ∷ false ∷ true ∷ true ∷ false ∷ []

-- `A: c .` with e and `B: c .` with d and e
abbrev pub sharing : ItemSet
sharing = completed e_alone d_and_e

abbrev pub graph_of_sharing : Graph
graph_of_sharing = record { cores = sharing ∷ []; start = 0; edge = λ s X. None }

-- this set and that after a have one core, their items cross on d, and share a token in this one alone: they join, in either order
pub record SharedTokensJoin : Type 0 where
  pub crosses : Cross (HasLook after_a) (HasLook sharing) 4 1 5 1
  pub apart : Meet (HasLook after_a) 4 1 5 1 → ⊥
  pub shares : Meet (HasLook sharing) 4 1 5 1
  pub newer : Joins graph_after_a 0 (HasItem sharing) (HasLook sharing)
  pub newer_fits : StaysOut graph_after_a 0 (HasItem sharing) (HasLook sharing) → ⊥
  pub older : Joins graph_of_sharing 0 (HasItem after_a) (HasLook after_a)
  pub older_fits : StaysOut graph_of_sharing 0 (HasItem after_a) (HasLook after_a) → ⊥

-- three states of one core, of which the second and the third fit the set after b
abbrev pub three_alike : Graph
three_alike = record { cores = after_a ∷ after_b ∷ after_b ∷ []; start = 0; edge = λ s X. None }

-- it joins the second
pub record FirstFitIsJoined : Type 0 where
  pub joins : Joins three_alike 1 (HasItem after_b) (HasLook after_b)
  pub no_other : (k : ℕ) → Joins three_alike k (HasItem after_b) (HasLook after_b) → k ≡ 1

-- A table of four states over a grammar whose production 3, of the rule 2, is empty. From 0 comes one reduction, from 2
-- they go on without end; what 1 does on each token is given.
abbrev pub chain_action : Action → ℕ → ℕ → Action
chain_action given zero t = reduce 3
chain_action given (suc zero) t = given
chain_action given (suc (suc zero)) t = reduce 3
chain_action given (suc (suc (suc s))) t = error

abbrev pub chain_goto : ℕ → ℕ → Option ℕ
chain_goto zero (suc (suc zero)) = Some 3
chain_goto (suc zero) (suc zero) = Some 2
chain_goto (suc zero) (suc (suc zero)) = Some 2
chain_goto (suc (suc zero)) (suc (suc zero)) = Some 2
chain_goto _ _ = None

abbrev pub chain_table : Action → Automaton
chain_table given = record { graph = record { cores = []; start = 0; edge = λ s X. None }; closed = []; action = chain_action given; goto = chain_goto }

abbrev pub chain : ℕ → Option ℕ → ℕ → Chain
chain s r t = record { state = s; rule = r; token = t }

-- of the chains that pass a cap the least state's is told, without a rule before rules, the least rule's, and the least token's
pub record LeastChainIsTold : Type 0 where
  -- one reduction doesn't pass a cap of one
  pub within : Passes example (chain_table (reduce 3)) 1 (chain 0 None 0) → ⊥
  pub past : Passes example (chain_table (reduce 3)) 0 (chain 0 None 0)
  -- 1 reduces
  pub from_state : IsLeastChain example (chain_table (reduce 3)) 1 (chain 1 None 0)
  pub other_token : Passes example (chain_table (reduce 3)) 1 (chain 1 None 1)
  pub other_rule : Passes example (chain_table (reduce 3)) 1 (chain 1 (Some 1) 0)
  pub other_state : Passes example (chain_table (reduce 3)) 1 (chain 2 None 0)
  -- 1 does nothing by itself
  pub from_goto : IsLeastChain example (chain_table error) 1 (chain 1 (Some 1) 0)
  pub goto_other_token : Passes example (chain_table error) 1 (chain 1 (Some 1) 1)
  pub goto_other_rule : Passes example (chain_table error) 1 (chain 1 (Some 2) 0)
  pub goto_other_state : Passes example (chain_table error) 1 (chain 2 None 0)
