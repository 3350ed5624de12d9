use Rattle.std.proofs.Common.{List, ℕ, ap, sym, ◌∙◌}
use Rattle.std.specs.String.{string_bytes}
use Rattle.std.specs.declared.alloc.Global.{Global}
use Rattle.std.specs.declared.string.String.{String}
use Rattle.cfg_read.specs.declared.yacc.ast.Rule.{Rule}
use Rattle.cfg_read.specs.Asts.{RuleAst}
use Rattle.cfg_read.specs.AstModels.{named_rule}
use Rattle.cfg_read.proofs.Clones.{clones_map}
use Rattle.cfg_read.proofs.RuleLemmas.{with_text}
use Rattle.cfg_read.proofs.yacc.ast.copy.copy_rules.Goals as goal

pub returns-clause-rules : goal.returns-clause-rules
returns-clause-rules c = clones_map _ named_rule (λ x y h. λ i. with_text (h.0 i) (h.1 i)) c.args.rules.now.entries c.in_ok-copy.copy.entries c.in_ok-copy.ensures.cases

pub returns-clause-names : goal.returns-clause-names
returns-clause-names c =
    let own : String Global × Rule → List ℕ = λ e. string_bytes e.1.name.0 in
    let key : String Global × Rule → List ℕ = λ e. string_bytes e.0 in
    clones_map _ own (λ x y h. ap (λ (r : RuleAst). r.name.text) h.1) c.args.rules.now.entries c.in_ok-copy.copy.entries c.in_ok-copy.ensures.cases
    ∙ c.requires
    ∙ sym (clones_map _ key (λ x y h. h.0) c.args.rules.now.entries c.in_ok-copy.copy.entries c.in_ok-copy.ensures.cases)
