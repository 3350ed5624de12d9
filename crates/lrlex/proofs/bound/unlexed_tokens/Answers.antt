use Rattle.std.proofs.Common.{not, ap}
use Rattle.std.specs.List.{list_any}
use Rattle.lrlex.specs.Lexing.{is_token}
use Rattle.lrlex.proofs.Items.{next_number}
use Rattle.lrlex.proofs.bound.unlexed_tokens.Goals as goal

pub tokens-preserved : goal.tokens-preserved
tokens-preserved g c =
    next_number (λ t. not (list_any (is_token g.S.IndexStorage.number t) c.args.meanings.now)) c.tokens.token _ _ (not c.has_token-known.result) c.tokens.invariant
    (ap not c.has_token-known.ensures) c.in_ok-push_if.ensures
