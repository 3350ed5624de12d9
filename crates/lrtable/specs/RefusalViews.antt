-- What contracts see of a refusal, and what it prints.
use Rattle.std.specs.Prelude.{ℕ, List, codes}
use Rattle.state_table.specs.Tables.{Refusal}
use Rattle.lrtable.specs.declared.grammar_table.FromYaccError.{FromYaccError}
use Rattle.lrtable.specs.declared.grammar_table.FromYaccError.TheVariants as refusals

abbrev pub refusal_of : {S : Type 0} → (S → ℕ) → FromYaccError S → Refusal
refusal_of number (refusals.TooManyStates count) = Refusal.states count
refusal_of number (refusals.StateTable e) = Refusal.told (number e.pidx.0)
refusal_of number refusals.TooLarge = Refusal.cells
refusal_of number (refusals.Memory e) = Refusal.memory

-- what has no text of its own prints its name
abbrev pub from_yacc_text : {S : Type 0} → FromYaccError S → List ℕ
from_yacc_text (refusals.TooManyStates count) = codes "TooManyStates"
from_yacc_text (refusals.StateTable e) = codes "Accept/reduce conflict"
from_yacc_text refusals.TooLarge = codes "TooLarge"
from_yacc_text (refusals.Memory e) = codes "Memory"
