-- Equality of repairs.
use Rattle.std.specs.Prelude.{Bool, false}
use Rattle.parse_trees.specs.declared.parse_repair.ParseRepair.{ParseRepair}
use Rattle.parse_trees.specs.declared.parse_repair.ParseRepair.TheVariants.{Delete, Insert, Shift}

-- of one kind, and of equal tokens or lexemes
abbrev pub repair_eq : {L S : Type 0} → (L → L → Bool) → (S → S → Bool) → ParseRepair L S → ParseRepair L S → Bool
repair_eq same_lexemes same_numbers (Insert s) (Insert t) = same_numbers s.0 t.0
repair_eq same_lexemes same_numbers (Insert s) (Delete y) = false
repair_eq same_lexemes same_numbers (Insert s) (Shift y) = false
repair_eq same_lexemes same_numbers (Delete x) (Insert t) = false
repair_eq same_lexemes same_numbers (Delete x) (Delete y) = same_lexemes x y
repair_eq same_lexemes same_numbers (Delete x) (Shift y) = false
repair_eq same_lexemes same_numbers (Shift x) (Insert t) = false
repair_eq same_lexemes same_numbers (Shift x) (Delete y) = false
repair_eq same_lexemes same_numbers (Shift x) (Shift y) = same_lexemes x y
