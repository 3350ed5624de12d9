use Rattle.std.proofs.Common.{◌≡◌, ◌≤◌, length, sym, arith}
use Rattle.std.proofs.lemmas.List.{length-take, take_all}
use Rattle.grammar_report.specs.Messages.{most_blocks}
use Rattle.grammar_report.proofs.conflicts.shown_blocks.Goals as goal

pub returns-then-blocks-le-MOST_BLOCKS : goal.returns-then-blocks-le-MOST_BLOCKS
returns-then-blocks-le-MOST_BLOCKS c = sym (take_all most_blocks c.args.blocks.now c.if-blocks-le-MOST_BLOCKS.true)

pub slice_bounds-result-end : goal.slice_bounds-result-end
slice_bounds-result-end c = omega (arith, length-take most_blocks c.args.blocks.now, c.if-blocks-le-MOST_BLOCKS.false)
