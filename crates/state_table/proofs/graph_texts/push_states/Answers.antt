use Rattle.std.proofs.Common.{◌≡◌, ◌++◌, length, ap, ◌∙◌, subst, arith}
use Rattle.std.specs.List.{flat_map, range_with_len}
use Rattle.std.specs.String.{string_bytes}
use Rattle.state_table.specs.GraphTexts.{state_text, sets_of}
use Rattle.state_table.proofs.GraphTexts.{number_put}
use Rattle.state_table.proofs.graph_texts.push_states.Goals as goal

pub states-preserved : goal.states-preserved
states-preserved g c =
    let one = state_text c.args.shown.now.grm.now c.args.shown.now.graph.now (sets_of c.args.shown.now.core_states c.args.shown.now.graph.now) in
    number_put one c.states.number (string_bytes c.args.text.now) (string_bytes c.states.text) (string_bytes c.push_state.new.text) c.states.invariant
    (c.in_ok-push_state.ensures ∙ ap (λ k. string_bytes c.states.text ++ one k) c.state_at-stidx.ensures)

pub returns : goal.returns
returns g c =
    let one = state_text c.args.shown.now.grm.now c.args.shown.now.graph.now (sets_of c.args.shown.now.core_states c.args.shown.now.graph.now) in
    let count = c.to_usize-count.ensures.value ∙ c.all_states_len-last.ensures.value in
    let e : c.states.number ≡ length c.args.shown.now.graph.now.cores = omega (arith, count) in
    subst (λ n. string_bytes c.states.text ≡ string_bytes c.args.text.now ++ flat_map one (range_with_len 0 n)) e c.states.invariant
