use Rattle.std.proofs.Common.{◌≡◌, ◌∷◌, [], ◌++◌, sym, ap, ◌∙◌, arith}
use Rattle.std.specs.Prelude.{map}
use Rattle.std.proofs.lemmas.Result.{err_from_is_err_and}
use Rattle.std.proofs.lemmas.List.{map_push}
use Rattle.cfg_sections.specs.Sections.{next_pair, close_brace}
use Rattle.cfg_sections.specs.SectionResults.{pair_text}
use Rattle.cfg_sections.proofs.SectionChains.{join, and_then, join_fails}
use Rattle.cfg_sections.proofs.header.scan.Scanner.parse_pairs.Goals as goal

pub returns-in_err-pair-clause-err : goal.returns-in_err-pair-clause-err
returns-in_err-pair-clause-err c =
    let p = err_from_is_err_and c.from_residual.result c.from_residual.ensures.1 in
    rw (p.1, p.2) (join_fails _ _ _ _ (and_then c.pairs.invariant.steps (next_pair (sym c.closes_brace.ensures.value ∙ c.pairs-test.true))) (c.in_err-pair.ensures.err _))

pub returns-in_err-end-clause-err : goal.returns-in_err-end-clause-err
returns-in_err-end-clause-err c =
    let p = err_from_is_err_and c.from_residual-in_err-end.result c.from_residual-in_err-end.ensures.1 in
    rw (p.1, p.2) (join_fails _ _ _ _ (join (and_then c.pairs.invariant.steps (next_pair (sym c.closes_brace.ensures.value ∙ c.pairs-test.true))) (c.in_ok-pair.ensures.ok _)) (c.in_err-end.ensures.err _ _))

pub pairs-preserved : goal.pairs-preserved
pairs-preserved c =
    let after = c.in_ok-pair.ensures.within in
    let within = c.in_ok-end.ensures.within in
    let pushed : map pair_text c.push.new.self.items ≡ map pair_text c.pairs.pairs.items ++ pair_text c.in_ok-pair.pair ∷ [] = ap (map pair_text) c.in_ok-push.ensures.items ∙ map_push pair_text c.pairs.pairs.items c.in_ok-pair.pair in
    record {
      from = omega arith;
      within = omega arith;
      steps = rw pushed (join (join (and_then c.pairs.invariant.steps (next_pair (sym c.closes_brace.ensures.value ∙ c.pairs-test.true))) (c.in_ok-pair.ensures.ok _)) (c.in_ok-end.ensures.ok _ _));
    }

pub returns-clause-ok : goal.returns-clause-ok
returns-clause-ok c = and_then c.pairs.invariant.steps (close_brace (sym c.closes_brace.ensures.value ∙ c.pairs-test.false))
