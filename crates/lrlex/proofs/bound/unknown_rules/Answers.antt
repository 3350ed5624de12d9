use Rattle.std.proofs.Common.{ap, ◌∙◌}
use Rattle.lrlex.specs.Lexing.{is_unknown, meaning_at}
use Rattle.lrlex.proofs.Items.{next_number}
use Rattle.lrlex.proofs.bound.unknown_rules.Goals as goal

pub rules-preserved : goal.rules-preserved
rules-preserved g c =
    next_number (λ k. is_unknown (meaning_at c.args.meanings.now k)) c.rules.rule _ _ c.is_unknown-unknown.result c.rules.invariant
    (c.is_unknown-unknown.ensures ∙ ap is_unknown c.meaning_at-meaning.ensures) c.in_ok-push_if.ensures
