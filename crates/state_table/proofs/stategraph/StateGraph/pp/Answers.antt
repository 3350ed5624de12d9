use Rattle.std.proofs.Common.{replicate, ap, ◌∙◌}
use Rattle.state_table.specs.GraphTexts.{front_width}
use Rattle.state_table.proofs.stategraph.StateGraph.pp.Goals as goal

pub push_states-requires-clause-gap : goal.push_states-requires-clause-gap
push_states-requires-clause-gap g c = c.as_str.ensures.value ∙ c.in_ok-gap.ensures ∙ ap (λ k. replicate (front_width k) 32) (c.to_usize-count.ensures.value ∙ c.all_states_len-last.ensures.value)
