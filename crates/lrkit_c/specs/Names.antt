-- Counts and names of a grammar.
use Rattle.std.specs.Prelude.{◌≡◌, ℕ, List, length, Option, None, Some, nat_eq, nat_lt, if◌then◌else◌}
use Rattle.std.specs.Str.{IsUtf8}
use Rattle.cfg_theory.specs.Grammar.{head_of}
use Rattle.cfg_numbered.specs.Value.{GrammarValue, IsTokenNamed}
use Rattle.table_theory.specs.Cells.{Conflicts}
use Rattle.lrpar.specs.Checked.{ParserValue}
use Rattle.parse_trees.specs.Shapes.{rule_text, token_text}
use Rattle.lrkit_c.specs.Answers.{Puts, PutsNothing, answer_of}
use Rattle.lrkit_c.specs.declared.answers.LrkitAnswer.{LrkitAnswer}
use Rattle.lrkit_c.specs.declared.names.LrkitCounts.{LrkitCounts}
use Rattle.lrkit_c.specs.declared.status.Status.TheVariants as statuses

abbrev pub pairs_of : Option Conflicts → ℕ
pairs_of None = 0
pairs_of (Some c) = length c.reduce_reduce

abbrev pub shifts_of : Option Conflicts → ℕ
shifts_of None = 0
shifts_of (Some c) = length c.shift_reduce

-- what a grammar and its table have
abbrev pub counts_of : ParserValue → LrkitCounts
counts_of d = record {
  tokens = d.grammar.grammar.tokens;
  rules = d.grammar.grammar.rules;
  productions = length d.grammar.grammar.productions;
  shift_reduce = shifts_of d.table.conflicts;
  reduce_reduce = pairs_of d.table.conflicts;
}

-- a name is put where there is one
abbrev pub PutsName : Option (List ℕ) → (old new : List ℕ) → LrkitAnswer → Type 0
PutsName None old new a = PutsNothing statuses.Unknown old new a
PutsName (Some name) old new a = Puts statuses.Done name old new a

-- the name of a token that the grammar has; an empty one of the end token
abbrev pub token_name : GrammarValue → ℕ → Option (List ℕ)
token_name g t = if nat_lt t g.grammar.tokens then Some (token_text g t) else None

-- the name of the rule of a production that the grammar has
abbrev pub rule_name : GrammarValue → ℕ → Option (List ℕ)
rule_name g p = if nat_lt p (length g.grammar.productions) then Some (rule_text g (head_of g.grammar p)) else None

-- that of a token for kind 0, that of a production's rule for kind 1
abbrev pub name_of : GrammarValue → (kind number : ℕ) → Option (List ℕ)
name_of g kind number = if nat_eq kind 0 then token_name g number else (if nat_eq kind 1 then rule_name g number else None)

-- the number of the name's token is put, or there is none
pub data TellsToken (g : GrammarValue) (name : List ℕ) (old new : ℕ) (a : LrkitAnswer) : Type 0 where
  found : IsTokenNamed g new name → a ≡ answer_of statuses.Done 0 → TellsToken g name old new a
  none : ((t : ℕ) → IsTokenNamed g t name → ⊥) → new ≡ old → a ≡ answer_of statuses.Unknown 0 → TellsToken g name old new a
  not_utf8 : (IsUtf8 name → ⊥) → new ≡ old → a ≡ answer_of statuses.NotUtf8 0 → TellsToken g name old new a
