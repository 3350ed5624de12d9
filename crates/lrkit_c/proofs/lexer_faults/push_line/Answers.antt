use Rattle.std.proofs.lemmas.Result.{on_ok_weaker}
use Rattle.lrkit_c.proofs.Shown.{begins_at_offset}
use Rattle.lrkit_c.proofs.lexer_faults.push_line.Goals as goal

pub returns : goal.returns
returns c =
    on_ok_weaker c.push_message.result (λ h. begins_at_offset c.args.source.now c.new-span.result c.args.offset _ _ _ c.new-span.ensures.start c.requires h) c.push_message.ensures.heading
