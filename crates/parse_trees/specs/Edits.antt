-- Steps of repairs as edits.
use Rattle.std.specs.Prelude.{ℕ, List, map, Vec}
use Rattle.std.specs.declared.alloc.Global.{Global}
use Rattle.lr_theory.specs.Repair.{Edit, insert, delete, keep}
use Rattle.parse_trees.specs.declared.parse_repair.RepairStep.{RepairStep}
use Rattle.parse_trees.specs.declared.parse_repair.RepairStep.TheVariants as steps

-- a step of a repair as an edit
abbrev pub edit_of : {S : Type 0} → (S → ℕ) → RepairStep S → Edit
edit_of number (steps.Insert t) = insert (number t.0)
edit_of number steps.Delete = delete
edit_of number steps.Shift = keep

abbrev pub edits_of : {S : Type 0} → (S → ℕ) → List (RepairStep S) → List Edit
edits_of number es = map (edit_of number) es

abbrev pub sequences_of : {S : Type 0} → (S → ℕ) → List (Vec (RepairStep S) Global) → List (List Edit)
sequences_of number xs = map (λ es. edits_of number es.items) xs
