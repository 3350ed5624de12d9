use Rattle.std.proofs.Common.{◌<◌, ◌∙◌, List, length, map, sym, ap, subst, arith, rules}
use Rattle.std.specs.Prelude.{IsTrue}
use Rattle.std.specs.List.{Contains}
use Rattle.std.proofs.lemmas.List.{get_or-map, length-map}
use Rattle.vob.specs.Sets.{is_set}
use Rattle.lrtable.specs.Pruning.{Flagged, IsTargetOf}
use Rattle.lrtable.specs.States.{Edge, StateValue, no_state}
use Rattle.lrtable.specs.StateViews.{EdgeTo, edges_of, value_of}
use Rattle.lrtable.proofs.Marking.{target_within}
use Rattle.lrtable.proofs.Whole.{led_begins, led_on}
use Rattle.lrtable.proofs.pruning.are_led.Goals as goal

pub states-init : goal.states-init
states-init g c =
    let number = g.S.IndexStorage.number in
    let m = length-map c.args.states.now (value_of number) in
    led_begins (map (value_of number) c.args.states.now) (length c.args.states.now) c.in_ok-led.led.items c.flag.new.flags.items (sym m) c.requires.some (c.in_ok-led.ensures.items_if_clones_equal (λ y e. cc)) c.flag.ensures

pub flag_targets-requires : goal.flag_targets-requires
flag_targets-requires g c = λ e x.
    let number = g.S.IndexStorage.number in
    let xs = c.args.states.now in
    let states = map (value_of number) xs in
    let m = length-map xs (value_of number) in
    let lt : c.states.number < length xs = search rules in
    let at = get_or-map (value_of number) xs c.states.number c.index-states-number.result no_state lt in
    let es = ap (λ (l : List (EdgeTo g.row.S.Denot)). edges_of number l) c.as_slice-in-states.ensures.value ∙ sym (ap (λ (s : StateValue). s.edges) at) in
    let size = c.states.invariant.size in
    let low = target_within states c.states.number e c.requires.linked (omega (arith, lt, m)) (subst (λ (l : List Edge). Contains l e) es x) in
    omega (arith, low, size)

pub states-preserved : goal.states-preserved
states-preserved g c =
    let number = g.S.IndexStorage.number in
    let xs = c.args.states.now in
    let states = map (value_of number) xs in
    let m = length-map xs (value_of number) in
    let lt : c.states.number < length xs = search rules in
    let at = get_or-map (value_of number) xs c.states.number c.index-states-number.result no_state lt in
    let es = ap (λ (l : List (EdgeTo g.row.S.Denot)). edges_of number l) c.as_slice-in-states.ensures.value ∙ sym (ap (λ (s : StateValue). s.edges) at) in
    let here : IsTrue (is_set c.states.led.items c.states.number) = search rules in
    led_on states c.states.number c.states.led.items c.flag_targets.new.flags.items c.requires.linked (omega (arith, lt, m)) here
    (subst (λ (l : List Edge). Flagged (IsTargetOf l) c.states.led.items c.flag_targets.new.flags.items) es c.flag_targets.ensures) c.states.invariant

pub returns : goal.returns
returns g c = λ e s lt. c.states.invariant.below s (search rules)
