-- Rules of lexer files.
use Rattle.std.specs.Prelude.{◌≡◌, ℕ, List, [], ◌∷◌, map, Ok}
use Rattle.lex_files.specs.LexFiles.{FileValue, RuleValue, ReadsAs}
use Rattle.maximal_munch.specs.RuleValues.{RuleSetValue}
use Rattle.lrlex.specs.Lexing.{AddsRule, rules_of, names_of}
use Rattle.lrlex.specs.declared.rules.LexRules.{LexRules}

-- the rule of a line comes behind the others, with its expression compiled
abbrev pub AddsLine : RuleValue → RuleSetValue → RuleSetValue → Type 0
AddsLine r old new = AddsRule r.expression r.conditions r.target old new

-- those of lines, one after another
abbrev pub AddsLines : List RuleValue → RuleSetValue → RuleSetValue → Type 0
AddsLines [] old new = old ≡ new
AddsLines (r ∷ rs) old new = (mid : RuleSetValue) × AddsLine r old mid × AddsLines rs mid new

-- the start conditions and the rules of a file
pub record AreRulesOf (file : FileValue) (rules : LexRules) : Type 0 where
  pub set : AddsLines file.rules (record { exclusive = map (λ c. c.exclusive) file.conditions; rules = [] }) (rules_of rules)
  pub names : names_of rules ≡ map (λ r. r.name) file.rules

-- those of the file that a text reads as
pub record ReadsRules (text : List ℕ) (rules : LexRules) : Type 0 where
  pub file : FileValue
  pub reads : ReadsAs text (Ok file)
  pub are : AreRulesOf file rules
