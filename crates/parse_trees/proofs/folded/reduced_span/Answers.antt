use Rattle.std.proofs.Common.{arith, ◌∙◌}
use Rattle.parse_trees.proofs.SpanStacks.{reduced}
use Rattle.parse_trees.proofs.folded.reduced_span.Goals as goal

pub returns : goal.returns
returns c = reduced c.args.spans.now c.args.count c.index-spans-spans-2.result c.index-spans-spans.result c.new-2.result (omega arith) c.requires.enough c.index-spans-spans-2.is c.index-spans-spans.is (c.new-2.ensures.start ∙ c.start.ensures.value) (c.new-2.ensures.end ∙ c.end.ensures.value)
