-- Which parser a grammar's file has.
use Rattle.std.specs.Prelude.{ℕ, List}
use Rattle.checked_import.specs.SameRules.{HasRulesOf}
use Rattle.grammar_report.specs.Outcomes.{IsKitIn}
use Rattle.parser_kit.specs.Kit.{KitValue}

-- that of the text, or of the import of a Bison file, which has the file's rules
pub data IsKitOfFile (text : List ℕ) (k : KitValue) : Type 0 where
  plain : IsKitIn text k → IsKitOfFile text k
  imported : (import : List ℕ) → HasRulesOf text import → IsKitIn import k → IsKitOfFile text k
