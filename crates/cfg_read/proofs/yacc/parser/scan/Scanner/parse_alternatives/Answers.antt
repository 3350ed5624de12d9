use Rattle.std.proofs.Common.{◌≡◌, ◌∷◌, [], ◌++◌, ap, ◌∙◌, arith}
use Rattle.std.specs.Prelude.{map}
use Rattle.std.proofs.lemmas.List.{map_push}
use Rattle.cfg_read.specs.SyntaxTexts.{AlternativeText}
use Rattle.cfg_read.specs.SyntaxUpdates.{alternative}
use Rattle.cfg_read.specs.SyntaxModels.{alternative_of}
use Rattle.cfg_read.specs.Scanning.{bar_or_semicolon}
use Rattle.cfg_read.specs.Reading.{here, bar, semicolon}
use Rattle.cfg_read.proofs.Chains.{join, and_then, join_fails}
use Rattle.std.proofs.lemmas.Result.{err_from_is_err_and}
use Rattle.cfg_read.proofs.yacc.parser.scan.Scanner.parse_alternatives.Goals as goal

pub alternatives-init : goal.alternatives-init
alternatives-init c = record { from = omega arith; blank = c.requires.blank; steps = rw c.new-alternatives.ensures.items (λ n t x. here) }

pub returns-in_err-alternative-clause-err : goal.returns-in_err-alternative-clause-err
returns-in_err-alternative-clause-err c =
    let p = err_from_is_err_and c.from_residual.result c.from_residual.ensures.1 in
    rw (p.1, p.2) (λ n t x. join_fails _ (c.alternatives.invariant.steps n t x) (c.in_err-alternative.ensures.err _ _))

pub returns-then-is_last-clause-ok : goal.returns-then-is_last-clause-ok
returns-then-is_last-clause-ok c =
    let found = c.in_ok-alternative.ensures.ok in
    let pushed : map alternative_of c.push_alternative.new.alternatives.items ≡ map alternative_of c.alternatives.alternatives.items ++ alternative found.0 c.in_ok-alternative.end ∷ [] =
    rw c.in_ok-push_alternative.ensures (map_push _ c.alternatives.alternatives.items _ ∙ ap (λ (a : AlternativeText). map alternative_of c.alternatives.alternatives.items ++ a ∷ []) found.1) in
    rw pushed (λ n t x. and_then (join (c.alternatives.invariant.steps n t x) (found.2 _ _)) (semicolon (c.is_last-is_last.ensures ∙ ap bar_or_semicolon c.if-is_last.true)))

pub alternatives-preserved : goal.alternatives-preserved
alternatives-preserved c =
    let within = c.in_ok-alternative.ensures.within in
    let found = c.in_ok-alternative.ensures.ok in
    let pushed : map alternative_of c.push_alternative.new.alternatives.items ≡ map alternative_of c.alternatives.alternatives.items ++ alternative found.0 c.in_ok-alternative.end ∷ [] =
    rw c.in_ok-push_alternative.ensures (map_push _ c.alternatives.alternatives.items _ ∙ ap (λ (a : AlternativeText). map alternative_of c.alternatives.alternatives.items ++ a ∷ []) found.1) in
    record {
      from = omega arith;
      blank = c.in_ok-alternative.ensures.anew;
      steps = rw pushed (λ n t x. and_then (join (c.alternatives.invariant.steps n t x) (found.2 _ _)) (bar (c.is_last-is_last.ensures ∙ ap bar_or_semicolon c.if-is_last.false)));
    }
