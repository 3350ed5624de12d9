use Rattle.std.proofs.lemmas.Result.{on_ok_weaker}
use Rattle.lrkit_c.proofs.Shown.{begins_at}
use Rattle.lrkit_c.proofs.lexer_faults.push_expression.Goals as goal

pub returns : goal.returns
returns c = on_ok_weaker c.push_message.result (λ h. begins_at c.args.source.now c.args.span _ _ _ c.requires h) c.push_message.ensures.heading
