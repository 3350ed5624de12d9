use Rattle.std.proofs.Common.{◌≡◌, IfOk, OnErr, subst, sym}
use Rattle.grammar_report.specs.Outcomes.{IsKitIn, TellsOutcome}
use Rattle.grammar_report.specs.declared.outcome.Outcome.TheVariants.{Invalid}
use Rattle.grammar_report.proofs.Outcomes.{told_is_outcome}
use Rattle.grammar_report.proofs.reading.read_grammar.Goals as goal

pub returns-in_ok-reading-in-Ok-clause-outcome : goal.returns-in_ok-reading-in-Ok-clause-outcome
returns-in_ok-reading-in-Ok-clause-outcome c =
    let (kind, is_kind, is_kit) = c.in-Ok.ensures.kit in
    told_is_outcome c.args.text.now c.in-Ok.kit c.in_ok-reading-in-Ok.reading.outcome (record { kind = kind; is_kind = is_kind; is_kit = is_kit }) c.in_ok-reading-in-Ok.ensures.outcome

pub returns-in_ok-reading-in-Ok-clause-kit : goal.returns-in_ok-reading-in-Ok-clause-kit
returns-in_ok-reading-in-Ok-clause-kit c =
    let (kind, is_kind, is_kit) = c.in-Ok.ensures.kit in
    let r = c.in_ok-reading-in-Ok.reading in
    subst (λ x. IfOk x (λ k. IsKitIn c.args.text.now k × TellsOutcome k r.outcome)) (sym c.in_ok-reading-in-Ok.ensures.kit) (record { kind = kind; is_kind = is_kind; is_kit = is_kit }, c.in_ok-reading-in-Ok.ensures.outcome)

pub returns-in_ok-reading-in-Ok-clause-refusal : goal.returns-in_ok-reading-in-Ok-clause-refusal
returns-in_ok-reading-in-Ok-clause-refusal c =
    let r = c.in_ok-reading-in-Ok.reading in
    subst (λ x. OnErr x (r.outcome ≡ Invalid)) (sym c.in_ok-reading-in-Ok.ensures.kit) tt
