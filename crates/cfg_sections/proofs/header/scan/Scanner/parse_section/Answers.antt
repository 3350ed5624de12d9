use Rattle.std.proofs.Common.{sym, ◌∙◌}
use Rattle.std.proofs.lemmas.Result.{err_from_is_err_and}
use Rattle.cfg_sections.specs.Sections.{missing, no_section, section, open_brace}
use Rattle.cfg_sections.proofs.SectionChains.{join, and_then, and_stops, join_fails}
use Rattle.cfg_sections.proofs.header.scan.Scanner.parse_section.Goals as goal

pub returns-then-required-clause-err : goal.returns-then-required-clause-err
returns-then-required-clause-err c = rw c.if-required.true (and_stops (c.parse_ws-start.ensures.steps _ _) (missing (sym c.is_section.ensures.value ∙ c.if-not-is_section.true)))

pub returns-then-not-is_section-clause-ok : goal.returns-then-not-is_section-clause-ok
returns-then-not-is_section-clause-ok c = rw (c.new.ensures.items, c.if-required.false) (and_then (c.parse_ws-start.ensures.steps _ _) (no_section (sym c.is_section.ensures.value ∙ c.if-not-is_section.true)))

pub returns-in_err-pairs-clause-err : goal.returns-in_err-pairs-clause-err
returns-in_err-pairs-clause-err c =
    let p = err_from_is_err_and c.from_residual.result c.from_residual.ensures.1 in
    rw (p.1, p.2) (join_fails _ _ _ _ (join (and_then (c.parse_ws-start.ensures.steps _ _) (section (sym c.is_section.ensures.value ∙ c.if-not-is_section.false))) (c.parse_ws-brace.ensures.steps _ _)) (c.in_err-pairs.ensures.err _))

pub returns-in_err-pairs-2-clause-err : goal.returns-in_err-pairs-2-clause-err
returns-in_err-pairs-2-clause-err c =
    let p = err_from_is_err_and c.from_residual-in_err-pairs-2.result c.from_residual-in_err-pairs-2.ensures.1 in
    let fails = rw c.in_ok-pairs.ensures.ok.1 at c.in_err-pairs-2.ensures.err in
    rw (p.1, p.2)
    (join_fails _ _ _ _ (and_then (join (and_then (c.parse_ws-start.ensures.steps _ _) (section (sym c.is_section.ensures.value ∙ c.if-not-is_section.false))) (c.parse_ws-brace.ensures.steps _ _)) (open_brace c.in_ok-pairs.ensures.ok.0)) fails)

pub returns-clause-ok : goal.returns-clause-ok
returns-clause-ok c =
    let rest = rw c.in_ok-pairs.ensures.ok.1 at c.in_ok-pairs-2.ensures.ok in
    join (and_then (join (and_then (c.parse_ws-start.ensures.steps _ _) (section (sym c.is_section.ensures.value ∙ c.if-not-is_section.false))) (c.parse_ws-brace.ensures.steps _ _)) (open_brace c.in_ok-pairs.ensures.ok.0)) rest
