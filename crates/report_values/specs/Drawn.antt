-- The states that findings hold.
use Rattle.std.specs.Prelude.{◌≡◌, ◌≤◌, ◌<◌, ℕ, Option, None, Some, ⊤, length, IfSome}
use Rattle.parser_kit.specs.Kit.{KitValue}
use Rattle.report_forms.specs.declared.values.Findings.{Findings}
use Rattle.report_values.specs.declared.findings_error.FindingsError.{FindingsError}
use Rattle.report_values.specs.declared.findings_error.FindingsError.TheVariants.{Memory, TooManyStates}

abbrev pub state_count : KitValue → ℕ
state_count k = length k.parser.graph.cores

-- if states are wanted, there are at most as many as are wanted
abbrev pub Fits : Option ℕ → ℕ → Type 0
Fits None count = ⊤
Fits (Some most) count = count ≤ most

-- states are wanted, and there are more
abbrev pub Exceeds : Option ℕ → ℕ → Type 0
Exceeds None count = ⊥
Exceeds (Some most) count = most < count

-- a refusal of states is one of too many
abbrev pub IsTooMany : Option ℕ → FindingsError → Type 0
IsTooMany most (TooManyStates count) = Exceeds most count
IsTooMany most (Memory e) = ⊤

-- all states if they are wanted, else none
abbrev pub drawn_len : Option ℕ → ℕ → ℕ
drawn_len None count = 0
drawn_len (Some most) count = count

-- the states are all that are counted, if they are wanted
abbrev pub Draws : Option ℕ → Findings → Type 0
Draws most f = IfSome f.object.counts (λ counts. (length f.states.items ≡ drawn_len most counts.states) × Fits most counts.states)
