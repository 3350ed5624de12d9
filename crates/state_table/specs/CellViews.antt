-- Cells, precedences and the parts of a state as the theory has them.
use Rattle.std.specs.Prelude.{ℕ, Bool, List, [], map, get_or, Option, Some, None, option_map, slice_get}
use Rattle.lr_theory.specs.Automaton.{Action}
use Rattle.table_theory.specs.Cells.{AssocKind as KindOfTheory, Left, Right, Nonassoc, Precedence as PrecedenceOfTheory, Precedences, ReduceReduce, ShiftReduce}
use Rattle.cfg_base.specs.declared.precedence.AssocKind.{AssocKind}
use Rattle.cfg_base.specs.declared.precedence.AssocKind.TheVariants as kinds
use Rattle.cfg_base.specs.declared.precedence.Precedence.{Precedence}
use Rattle.cfg_base.specs.declared.symbol.PIdx.{PIdx}
use Rattle.cfg_base.specs.declared.symbol.TIdx.{TIdx}
use Rattle.cfg_numbered.specs.Value.{GrammarValue, TokenFacts, ProductionFacts}
use Rattle.state_table.specs.declared.stidx.StIdx.{StIdx}
use Rattle.state_table.specs.declared.cells.Action.{Action as TableAction}
use Rattle.state_table.specs.declared.cells.Action.TheVariants as actions
use Rattle.state_table.specs.declared.state_rows.Reduction.{Reduction}
use Rattle.state_table.specs.declared.state_rows.StateParts.{StateParts}
use Rattle.state_table.specs.CellRows.{ReductionValue, PartsValue}

-- an action, where `number` reads an index
abbrev pub action_of : {S : Type 0} → (S → ℕ) → TableAction S → Action
action_of number (actions.Shift k) = Action.shift (number k.0)
action_of number (actions.Reduce p) = Action.reduce (number p.0)
action_of number actions.Accept = Action.accept
action_of number actions.Error = Action.error

abbrev pub kind_of : AssocKind → KindOfTheory
kind_of kinds.Left = Left
kind_of kinds.Right = Right
kind_of kinds.Nonassoc = Nonassoc

abbrev pub precedence_of : Precedence → PrecedenceOfTheory
precedence_of b = record { level = b.level; kind = kind_of b.kind }

abbrev pub of_token_facts : Option TokenFacts → Option PrecedenceOfTheory
of_token_facts None = None
of_token_facts (Some k) = option_map precedence_of k.precedence

abbrev pub of_production_facts : Option ProductionFacts → Option PrecedenceOfTheory
of_production_facts None = None
of_production_facts (Some q) = option_map precedence_of q.precedence

-- the precedences that a grammar keeps
abbrev pub precedences_of : GrammarValue → Precedences
precedences_of v = record { of_token = λ t. of_token_facts (slice_get v.tokens t); of_production = λ p. of_production_facts (slice_get v.productions p) }

abbrev pub production_of : {S : Type 0} → (S → ℕ) → Option (PIdx S) → Option ℕ
production_of number p = option_map (λ q. number q.0) p

abbrev pub state_of : {S : Type 0} → (S → ℕ) → Option (StIdx S) → Option ℕ
state_of number s = option_map (λ q. number q.0) s

-- a row of targets
abbrev pub targets_of : {S : Type 0} → (S → ℕ) → List (ℕ × StIdx S) → List (ℕ × ℕ)
targets_of number row = map (λ e. (e.0, number e.1.0)) row

-- a row of cells
abbrev pub cells_of : {S : Type 0} → (S → ℕ) → List (ℕ × TableAction S) → List (ℕ × Action)
cells_of number row = map (λ e. (e.0, action_of number e.1)) row

-- an entry of a pair of reductions, and of a shift/reduce
abbrev pub pair_of : {S : Type 0} → (S → ℕ) → TIdx S × PIdx S × PIdx S × StIdx S → ReduceReduce
pair_of number e = (number e.0.0, number e.1.0, number e.2.0, number e.3.0)

abbrev pub shift_of : {S : Type 0} → (S → ℕ) → TIdx S × PIdx S × StIdx S → ShiftReduce
shift_of number e = (number e.0.0, number e.1.0, number e.2.0)

abbrev pub pairs_of : {S : Type 0} → (S → ℕ) → List (TIdx S × PIdx S × PIdx S × StIdx S) → List ReduceReduce
pairs_of number es = map (pair_of number) es

abbrev pub shifts_of : {S : Type 0} → (S → ℕ) → List (TIdx S × PIdx S × StIdx S) → List ShiftReduce
shifts_of number es = map (shift_of number) es

-- a reduction, whose lookaheads stand in a list of sets
abbrev pub reduction_of : {S : Type 0} → (S → ℕ) → List (List Bool) → Reduction S → ReductionValue
reduction_of number sets r = record { production = number r.pidx.0; looks = get_or sets r.set [] }

abbrev pub reductions_of : {S : Type 0} → (S → ℕ) → List (List Bool) → List (Reduction S) → List ReductionValue
reductions_of number sets rs = map (reduction_of number sets) rs

abbrev pub parts_of : {S : Type 0} → (S → ℕ) → List (List Bool) → StateParts S → PartsValue
parts_of number sets x = record { reductions = reductions_of number sets x.reductions.items; shifts = targets_of number x.shifts.items; accepts = x.accepts }
