-- What a changed syntax tree says, and what one has under a name.
use Rattle.std.specs.Prelude.{ℕ, List, [], ◌∷◌, ◌++◌, map, length, Option, None, Some, if◌then◌else◌}
use Rattle.std.specs.Str.{bytes_eq}
use Rattle.cfg_read.specs.SyntaxTexts.{WordText}
use Rattle.cfg_read.specs.Asts.{Ast, RuleAst, ProductionAst}

-- with another start rule
abbrev pub with_start : Ast → WordText → Ast
with_start ast w = record ast { start = Some w }

-- with another text behind the second `%%`
abbrev pub with_programs : Ast → List ℕ → Ast
with_programs ast text = record ast { programs = Some text }

-- without a part that was taken out
abbrev pub without_rules : Ast → Ast
without_rules ast = record ast { rules = [] }

abbrev pub without_productions : Ast → Ast
without_productions ast = record ast { productions = [] }

abbrev pub without_tokens : Ast → Ast
without_tokens ast = record ast { tokens = [] }

abbrev pub without_epp : Ast → Ast
without_epp ast = record ast { epp = [] }

-- a rule instead of that of its name, else behind the others
abbrev pub put_rule : List RuleAst → RuleAst → List RuleAst
put_rule [] r = r ∷ []
put_rule (s ∷ rs) r = if bytes_eq r.name.text s.name.text then r ∷ rs else s ∷ put_rule rs r

abbrev pub with_rule : Ast → RuleAst → Ast
with_rule ast r = record ast { rules = put_rule ast.rules r }

-- with one more production, if the rule has this name
abbrev pub with_number : List ℕ → ℕ → RuleAst → RuleAst
with_number name n r = record { name = r.name; productions = r.productions ++ (if bytes_eq name r.name.text then n ∷ [] else []); action_type = r.action_type }

-- with one more production, which is that of the rule of this name
abbrev pub with_production : Ast → List ℕ → ProductionAst → Ast
with_production ast name p = record ast { rules = map (with_number name (length ast.productions)) ast.rules; productions = ast.productions ++ p ∷ [] }

-- the rule of this name
abbrev pub rule_named : List RuleAst → List ℕ → Option RuleAst
rule_named [] name = None
rule_named (r ∷ rs) name = if bytes_eq name r.name.text then Some r else rule_named rs name
