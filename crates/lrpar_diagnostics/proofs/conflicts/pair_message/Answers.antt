use Rattle.std.proofs.Common.{refl}
use Rattle.lrpar_diagnostics.proofs.TextLines.{put_behind}
use Rattle.lrpar_diagnostics.proofs.conflicts.pair_message.Goals as goal

pub returns : goal.returns
returns g c =
    put_behind _ _ _ _ _ (put_behind _ _ _ _ _ (put_behind _ _ _ _ _ (put_behind _ _ _ _ _ (put_behind _ _ _ _ _ (put_behind _ _ _ _ _ c.in_ok-text.ensures.ok c.rule_name.ensures c.in_ok-push_str.ensures.bytes) refl c.in_ok-push_str-2.ensures.bytes) c.rule_name-2.ensures c.in_ok-push_str-3.ensures.bytes) refl c.in_ok-push_str-4.ensures.bytes) c.shown_token.ensures c.in_ok-push_str-5.ensures.bytes) refl c.in_ok-push_str-6.ensures.bytes
