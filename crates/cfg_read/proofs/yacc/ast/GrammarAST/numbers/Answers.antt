use Rattle.std.proofs.Common.{option_map, sym, ap, ◌∙◌, subst}
use Rattle.std.specs.List.{IsDistinct}
use Rattle.std.specs.Map.{keys_of}
use Rattle.std.specs.Str.{bytes_eq}
use Rattle.std.specs.String.{string_bytes}
use Rattle.cfg_read.specs.declared.yacc.ast.Rule.{Rule}
use Rattle.cfg_read.specs.Asts.{Ast, RuleAst}
use Rattle.cfg_read.specs.AstChanges.{rule_named}
use Rattle.cfg_read.specs.WarningModels.{rule_names}
use Rattle.cfg_read.proofs.WarningLemmas.{found_named, found_none, distinct_map, rule_names_of}
use Rattle.cfg_read.proofs.yacc.ast.GrammarAST.numbers.Goals as goal

pub returns-in-Some-clause-numbers : goal.returns-in-Some-clause-numbers
returns-in-Some-clause-numbers c =
    ap (option_map (λ (r : Rule). r.pidxs.items)) (sym c.index.ensures ∙ c.in-Some.ensures.value)
    ∙ found_named c.self.inside.rules.entries c.args.name.now
    ∙ ap (λ (a : Ast). option_map (λ (r : RuleAst). r.productions) (rule_named a.rules c.args.name.now)) c.self.view_is

pub returns-in-Some-clause-unique : goal.returns-in-Some-clause-unique
returns-in-Some-clause-unique c =
    subst (IsDistinct bytes_eq) (sym (rule_names_of c.self.inside.rules.entries) ∙ ap rule_names c.self.view_is)
    (distinct_map string_bytes bytes_eq (keys_of c.self.inside.rules.entries) c.in-Some.ensures.unique)

pub returns-in-None-clause-numbers : goal.returns-in-None-clause-numbers
returns-in-None-clause-numbers c =
    found_none _ (sym c.in-None.ensures.found)
    ∙ found_named c.self.inside.rules.entries c.args.name.now
    ∙ ap (λ (a : Ast). option_map (λ (r : RuleAst). r.productions) (rule_named a.rules c.args.name.now)) c.self.view_is

pub returns-in-None-clause-unique : goal.returns-in-None-clause-unique
returns-in-None-clause-unique c =
    subst (IsDistinct bytes_eq) (sym (rule_names_of c.self.inside.rules.entries) ∙ ap rule_names c.self.view_is)
    (distinct_map string_bytes bytes_eq (keys_of c.self.inside.rules.entries) c.in-None.ensures.unique)
