-- Rules as they are put together: first their headings, then the numbers of their productions.
use Rattle.std.specs.Prelude.{ℕ, Bool, List, [], ◌∷◌, ◌++◌, map, fold, Option, None, if◌then◌else◌}
use Rattle.std.specs.Borrow.{Bor}
use Rattle.std.specs.List.{list_any}
use Rattle.std.specs.Option.{option_or}
use Rattle.std.specs.Str.{bytes_eq}
use Rattle.std.specs.String.{string_bytes}
use Rattle.std.specs.declared.alloc.Global.{Global}
use Rattle.std.specs.declared.string.String.{String}
use Rattle.cfg_read.specs.SyntaxTexts.{WordText, RuleText, SyntaxText}
use Rattle.cfg_read.specs.Asts.{Ast, no_ast, RuleAst, text_of, last_text, numbers_from}

-- what these point to
abbrev pub names_at : List (Bor (String Global)) → List (List ℕ)
names_at ns = map (λ (n : Bor (String Global)). string_bytes n.now) ns

-- the rule of a heading, where `shared` is the type of rules without one
abbrev pub headed : Option (List ℕ) → RuleText → RuleAst
headed shared r = record { name = r.name; productions = []; action_type = option_or (text_of r.action_type) shared }

-- a fresh rule
abbrev pub fresh_rule : WordText → RuleAst
fresh_rule w = record { name = w; productions = []; action_type = None }

abbrev pub has_rule : List RuleAst → List ℕ → Bool
has_rule rs name = list_any (λ (r : RuleAst). bytes_eq name r.name.text) rs

abbrev pub with_first : List RuleAst → RuleAst → List RuleAst
with_first rs r = if has_rule rs r.name.text then rs else rs ++ r ∷ []

-- the rules of the headings of a text, without their productions
abbrev pub blank_headings : SyntaxText → List RuleAst
blank_headings x = fold with_first [] (map (headed (last_text x.action_types)) x.rules)

-- with those of these productions that are the rule's
abbrev pub with_numbers : List (List ℕ) → RuleAst → RuleAst
with_numbers heads r = record { name = r.name; productions = r.productions ++ numbers_from r.name.text 0 heads; action_type = r.action_type }

-- an empty tree
abbrev pub empty_ast : Bool → Ast
empty_ast valid = record no_ast { is_valid = valid }

-- a tree with parts of another
abbrev pub with_rules_of : Ast → Ast → Ast
with_rules_of from ast = record ast { start = from.start; rules = from.rules; productions = from.productions }

abbrev pub with_heads_of : Ast → Ast → Ast
with_heads_of from ast = record ast { start = from.start; rules = from.rules }

-- those that are filled in from what was read, and those whose words are taken over from it
abbrev pub with_spans_of : Ast → Ast → Ast
with_spans_of from ast = record ast { tokens = from.tokens }

abbrev pub with_parts_of : Ast → Ast → Ast
with_parts_of from ast = record ast { parse_param = from.parse_param; parse_generics = from.parse_generics; programs = from.programs }

abbrev pub with_words_of : Ast → Ast → Ast
with_words_of from ast = record ast { productions = from.productions; precedences = from.precedences; avoid_insert = from.avoid_insert; implicit_tokens = from.implicit_tokens; epp = from.epp }

abbrev pub with_tokens_of : Ast → Ast → Ast
with_tokens_of from ast = record ast { tokens = from.tokens; precedences = from.precedences; avoid_insert = from.avoid_insert; implicit_tokens = from.implicit_tokens }

abbrev pub with_texts_of : Ast → Ast → Ast
with_texts_of from ast = record ast { epp = from.epp; parse_param = from.parse_param; parse_generics = from.parse_generics; programs = from.programs }

abbrev pub with_expected_of : Ast → Ast → Ast
with_expected_of from ast = record ast { expect = from.expect; expect_rr = from.expect_rr; expect_unused = from.expect_unused }
