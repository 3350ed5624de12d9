-- Why a graph has no table, as callers see it, and what is printed of it.
use Rattle.std.specs.Prelude.{ℕ, List, codes}
use Rattle.state_table.specs.declared.statetable.StateTableNewError.{StateTableNewError}
use Rattle.state_table.specs.declared.statetable.StateTableNewError.TheVariants as faults
use Rattle.state_table.specs.Tables.{Refusal}

abbrev pub table_refusal_of : {S : Type 0} → (S → ℕ) → StateTableNewError S → Refusal
table_refusal_of number (faults.StateTable e) = Refusal.told (number e.pidx.0)
table_refusal_of number faults.TooLarge = Refusal.cells
table_refusal_of number (faults.Memory e) = Refusal.memory

-- the inner error's text, or the variant's name
abbrev pub new_error_text : {S : Type 0} → StateTableNewError S → List ℕ
new_error_text (faults.StateTable e) = codes "Accept/reduce conflict"
new_error_text faults.TooLarge = codes "TooLarge"
new_error_text (faults.Memory e) = codes "Memory"
