use Rattle.std.proofs.Common.{◌≡◌, ℕ, List, [], map, option_map, sym, ap, ◌∙◌}
use Rattle.std.specs.String.{string_bytes}
use Rattle.cfg_read.specs.Asts.{Ast, RuleAst}
use Rattle.cfg_read.specs.AstChanges.{put_rule, with_rule}
use Rattle.cfg_read.specs.AstModels.{named_rule}
use Rattle.cfg_read.specs.declared.yacc.ast.Rule.{Rule}
use Rattle.cfg_read.specs.contracts.yacc.ast.GrammarAST.{the_view}
use Rattle.cfg_read.proofs.ChangeLemmas.{own, key, put_entry, names_put}
use Rattle.cfg_read.proofs.RuleLemmas.{with_text}
use Rattle.cfg_read.proofs.yacc.ast.GrammarAST.add_rule.Goals as goal

pub invariant_of-self-2 : goal.invariant_of-self-2
invariant_of-self-2 c =
    let es = c.self.inside.rules.entries in
    let new : Rule = record { name = c.args.name; pidxs = c.new.result; actiont = c.args.actiont } in
    let entries = c.in_ok-insert.ensures.entries in
    ap (map own) entries
    ∙ names_put es c.in_ok-key.key new (sym c.in_ok-key.ensures.cases) c.self.invariant
    ∙ sym (ap (map key) entries)

pub returns-clause-added : goal.returns-clause-added
returns-clause-added c =
    let es = c.self.inside.rules.entries in
    let k = c.in_ok-key.key in
    let new : Rule = record { name = c.args.name; pidxs = c.new.result; actiont = c.args.actiont } in
    let made : List ℕ → RuleAst = λ t. with_text t (named_rule (k, new)) in
    let rule : RuleAst = record { name = record { text = string_bytes c.args.name.0; span = c.args.name.1 }; productions = []; action_type = option_map string_bytes c.args.actiont } in
    let empty : made (string_bytes c.args.name.0) ≡ rule = ap (λ ps. (let r : RuleAst = record { name = rule.name; productions = ps; action_type = rule.action_type } in r)) c.new.ensures.items in
    let rules = ap (map named_rule) c.in_ok-insert.ensures.entries ∙ put_entry es k new ∙ ap (λ (t : List ℕ). put_rule (map named_rule es) (made t)) c.in_ok-key.ensures.cases ∙ ap (put_rule (map named_rule es)) empty in
    ap (λ rs. record (the_view c.self.inside) { rules = rs }) rules
    ∙ ap (λ (a : Ast). with_rule a rule) c.self.view_is
