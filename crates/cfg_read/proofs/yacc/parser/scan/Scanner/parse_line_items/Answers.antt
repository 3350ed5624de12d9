use Rattle.std.proofs.Common.{◌≡◌, ◌∷◌, [], ◌++◌, sym, ap, ◌∙◌, arith}
use Rattle.std.proofs.lemmas.List.{map_push}
use Rattle.cfg_read.specs.SyntaxModels.{symbol_of, symbols_of}
use Rattle.cfg_read.specs.Reading.{ends_line, line_item, list_end}
use Rattle.cfg_read.specs.SyntaxErrors.{no_line_item}
use Rattle.cfg_read.proofs.Chains.{join, and_then, join_fails, fails_at}
use Rattle.std.proofs.lemmas.Result.{err_from_is_err_and}
use Rattle.cfg_read.proofs.yacc.parser.scan.Scanner.parse_line_items.Goals as goal

pub returns-in_err-end-clause-err : goal.returns-in_err-end-clause-err
returns-in_err-end-clause-err c =
    let p = err_from_is_err_and c.from_residual.result c.from_residual.ensures.1 in
    rw (p.1, p.2) (λ l x. c.in_err-end.ensures.err _ _)

pub returns-in_err-item-clause-err : goal.returns-in_err-item-clause-err
returns-in_err-item-clause-err c =
    let p = err_from_is_err_and c.from_residual-in_err-item.result c.from_residual-in_err-item.ensures.1 in
    rw (p.1, p.2) (λ l x. fails_at _ _ _ (c.items.invariant.steps l x) (λ k e. no_line_item (ap ends_line (sym c.token_kind_at-kind.ensures.value) ∙ sym c.ends_line.ensures ∙ c.if-ends_line.false) e) c.in_err-item.ensures.err)

pub returns-in_err-end-2-clause-err : goal.returns-in_err-end-2-clause-err
returns-in_err-end-2-clause-err c =
    let p = err_from_is_err_and c.from_residual-in_err-end-2.result c.from_residual-in_err-end-2.ensures.1 in
    rw (p.1, p.2) (λ l x. join_fails _ (and_then (c.items.invariant.steps l x) (line_item c.in_ok-item.ensures.ok)) (c.in_err-end-2.ensures.err _ _))

pub items-preserved : goal.items-preserved
items-preserved c =
    let within = c.in_ok-item.ensures.within in
    let after = c.in_ok-end-2.ensures.from in
    let pushed : symbols_of c.push.new.self.items ≡ symbols_of c.items.items.items ++ symbol_of c.in_ok-item.item ∷ [] = rw c.in_ok-push.ensures.items (map_push _ c.items.items.items c.in_ok-item.item) in
    record {
      from = omega arith;
      steps = rw pushed (λ l x. join (and_then (c.items.invariant.steps l x) (line_item c.in_ok-item.ensures.ok)) (c.in_ok-end-2.ensures.ok _ _));
    }

pub returns-then-ends_line-clause-ok : goal.returns-then-ends_line-clause-ok
returns-then-ends_line-clause-ok c = λ l x. and_then (c.items.invariant.steps l x) (list_end (ap ends_line (sym c.token_kind_at-kind.ensures.value) ∙ sym c.ends_line.ensures ∙ c.if-ends_line.true))
