use Rattle.std.proofs.Common.{◌≡◌, ◌∷◌, [], ◌++◌, arith}
use Rattle.std.specs.Prelude.{map}
use Rattle.std.proofs.lemmas.List.{map_push}
use Rattle.cfg_read.specs.SyntaxModels.{rule_of}
use Rattle.cfg_read.specs.SyntaxErrors.{no_rule_name}
use Rattle.cfg_read.proofs.Chains.{join, join_fails, fails_at}
use Rattle.std.proofs.lemmas.Result.{err_from_is_err_and}
use Rattle.cfg_read.proofs.yacc.parser.scan.Scanner.parse_rules_by.Goals as goal

pub returns-in_err-end-clause-err : goal.returns-in_err-end-clause-err
returns-in_err-end-clause-err c =
    let p = err_from_is_err_and c.from_residual.result c.from_residual.ensures.1 in
    rw (p.1, p.2) (c.in_err-end.ensures.err _ _)

pub returns-in_err-begins_rule-clause-err : goal.returns-in_err-begins_rule-clause-err
returns-in_err-begins_rule-clause-err c =
    let p = err_from_is_err_and c.from_residual-in_err-begins_rule.result c.from_residual-in_err-begins_rule.ensures.1 in
    rw (p.1, p.2) (fails_at _ _ _ c.rules.invariant.steps (λ k e. no_rule_name e) c.in_err-begins_rule.ensures.err)

pub returns-in_err-rule-clause-err : goal.returns-in_err-rule-clause-err
returns-in_err-rule-clause-err c =
    let p = err_from_is_err_and c.from_residual-in_err-rule.result c.from_residual-in_err-rule.ensures.1 in
    rw (p.1, p.2) (join_fails _ c.rules.invariant.steps (c.in_err-rule.ensures.err _))

pub returns-in_err-end-2-clause-err : goal.returns-in_err-end-2-clause-err
returns-in_err-end-2-clause-err c =
    let p = err_from_is_err_and c.from_residual-in_err-end-2.result c.from_residual-in_err-end-2.ensures.1 in
    rw (p.1, p.2) (join_fails _ (join c.rules.invariant.steps (c.in_ok-rule.ensures.ok _)) (c.in_err-end-2.ensures.err _ _))

pub rules-preserved : goal.rules-preserved
rules-preserved c =
    let within = c.in_ok-rule.ensures.within in
    let after = c.in_ok-end-2.ensures.from in
    let pushed : map rule_of c.push.new.self.items ≡ map rule_of c.rules.syntax.rules.items ++ rule_of c.in_ok-rule.rule ∷ [] =
    rw c.in_ok-push.ensures.items (map_push _ c.rules.syntax.rules.items c.in_ok-rule.rule) in
    record {
      from = omega arith;
      blank = c.in_ok-rule.ensures.anew;
      steps = rw pushed (join (join c.rules.invariant.steps (c.in_ok-rule.ensures.ok _)) (c.in_ok-end-2.ensures.ok _ _));
    }
