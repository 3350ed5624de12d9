-- What is left of a tree whose productions and then its rules were taken out.
use Rattle.std.proofs.Common.{◌≡◌, Bool, List, Option, map, sym, ap, ◌∙◌, subst}
use Rattle.cfg_base.specs.declared.precedence.Precedence.{Precedence}
use Rattle.cfg_read.specs.Asts.{Ast}
use Rattle.cfg_read.specs.AstChanges.{without_productions, without_rules}
use Rattle.cfg_read.specs.WellFormedAst.{AreDistinct, names_of_tokens}
use Rattle.cfg_numbered.specs.Value.{RuleFacts}
use Rattle.cfgrammar.specs.FromAst.{precedence_of, rules_of, file_token_facts}

module _ (ast rest : Ast) (no_prods : rest ≡ without_productions ast) where
  pub rules_stay : (implicit : Bool) → rules_of implicit rest ≡ rules_of implicit ast
  rules_stay implicit = ap (rules_of implicit) no_prods

  pub rules_stay_apart : (implicit : Bool) → AreDistinct (map (λ (r : RuleFacts). r.name) (rules_of implicit ast)) → AreDistinct (map (λ (r : RuleFacts). r.name) (rules_of implicit rest))
  rules_stay_apart implicit h = subst (λ rs. AreDistinct (map (λ (r : RuleFacts). r.name) rs)) (sym (rules_stay implicit)) h

  module _ (left : Ast) (no_rules : left ≡ without_rules rest) where
    names_stay : names_of_tokens left ≡ names_of_tokens ast
    names_stay = ap names_of_tokens no_rules ∙ ap names_of_tokens no_prods

    pub tokens_stay_apart : AreDistinct (names_of_tokens ast) → AreDistinct (names_of_tokens left)
    tokens_stay_apart h = subst AreDistinct (sym names_stay) h

    pub levels_stay : (ls : List (Option Precedence)) → ls ≡ map (precedence_of ast) (names_of_tokens ast) → ls ≡ map (precedence_of left) (names_of_tokens left)
    levels_stay ls h = h ∙ sym (ap (λ (a : Ast). map (precedence_of a) (names_of_tokens a)) no_rules ∙ ap (λ (a : Ast). map (precedence_of a) (names_of_tokens a)) no_prods)

    pub tokens_stay : map (file_token_facts left) left.tokens ≡ map (file_token_facts ast) ast.tokens
    tokens_stay = ap (λ (a : Ast). map (file_token_facts a) a.tokens) no_rules ∙ ap (λ (a : Ast). map (file_token_facts a) a.tokens) no_prods
