-- Lists of conflicts as texts.
use Rattle.std.specs.Prelude.{ℕ, ◌<◌, List, [], ◌∷◌, ◌++◌, None, map, get_or, codes, length, All}
use Rattle.std.specs.List.{flat_map}
use Rattle.std.specs.Fmt.{decimal}
use Rattle.std.specs.Option.{unwrap_or}
use Rattle.cfg_numbered.specs.PrettyPrint.{production_text}
use Rattle.cfg_numbered.specs.Value.{GrammarValue, TokenFacts}
use Rattle.table_theory.specs.Cells.{ReduceReduce, ShiftReduce, Conflicts}

-- the name of a token; `$` for the end token, which has none
abbrev pub shown_token : GrammarValue → ℕ → List ℕ
shown_token v t = unwrap_or (get_or (map (λ (k : TokenFacts). k.name) v.tokens) t None) (36 ∷ [])

-- `   State n: `
abbrev pub state_front : ℕ → List ℕ
state_front s = codes "   State " ++ decimal s ++ codes ": "

-- `Reduce(P)`
abbrev pub reduce_text : GrammarValue → ℕ → List ℕ
reduce_text v p = codes "Reduce(" ++ production_text v p ++ codes ")"

-- `   State n: Shift("t") / Reduce(P)`
abbrev pub shift_line : GrammarValue → ShiftReduce → List ℕ
shift_line v e = state_front e.2 ++ codes "Shift(\"" ++ shown_token v e.0 ++ codes "\") / " ++ reduce_text v e.1 ++ codes "\n"

-- `   State n: Reduce(P) / Reduce(Q)`
abbrev pub pair_line : GrammarValue → ReduceReduce → List ℕ
pair_line v e = state_front e.3 ++ reduce_text v e.1 ++ codes " / " ++ reduce_text v e.2 ++ codes "\n"

-- a heading and a line for each entry, or nothing where there is none
abbrev pub under_heading : {E : Type 0} → List ℕ → (E → List ℕ) → List E → List ℕ
under_heading heading line [] = []
under_heading heading line (e ∷ es) = heading ++ flat_map line (e ∷ es)

abbrev pub shifts_text : GrammarValue → List ShiftReduce → List ℕ
shifts_text v es = under_heading (codes "Shift/Reduce conflicts:\n") (shift_line v) es

abbrev pub pairs_text : GrammarValue → List ReduceReduce → List ℕ
pairs_text v es = under_heading (codes "Reduce/Reduce conflicts:\n") (pair_line v) es

abbrev pub conflicts_text : GrammarValue → Conflicts → List ℕ
conflicts_text v c = shifts_text v c.shift_reduce ++ pairs_text v c.reduce_reduce

-- tokens and productions are those of the grammar
abbrev pub ShiftsInRange : GrammarValue → List ShiftReduce → Type 0
ShiftsInRange v es = All (λ e. (e.0 < v.grammar.tokens) × (e.1 < length v.grammar.productions)) es

abbrev pub PairsInRange : GrammarValue → List ReduceReduce → Type 0
PairsInRange v es = All (λ e. (e.1 < length v.grammar.productions) × (e.2 < length v.grammar.productions)) es

-- so in both lists
pub record ConflictsInRange (v : GrammarValue) (c : Conflicts) : Type 0 where
  pub shifts : ShiftsInRange v c.shift_reduce
  pub pairs : PairsInRange v c.reduce_reduce
