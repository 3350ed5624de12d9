use Rattle.std.proofs.Common.{◌≡◌, ◌<◌, ℕ, List, [], false, length, map, replicate, sym, ap, ◌∙◌, subst, arith, rules}
use Rattle.std.specs.List.{Contains}
use Rattle.std.proofs.lemmas.List.{get_or-map, length-map, length-replicate}
use Rattle.std.proofs.lemmas.List.Elements.{Contains-push}
use Rattle.lrtable.specs.Pruning.{AreMarking, Marks, IsTargetOf}
use Rattle.lrtable.specs.States.{Edge, StateValue, no_state}
use Rattle.lrtable.specs.StateViews.{EdgeTo, edges_of, value_of}
use Rattle.lrtable.proofs.Marking.{flag_within, marking_begins, target_within, marking_goes_on, marking_ends}
use Rattle.lrtable.proofs.pruning.marks.Goals as goal

pub mark-requires : goal.mark-requires
mark-requires g c =
    let bits = c.in_ok-marked.ensures.bits in
    let xs = c.args.states.now in
    let n : length (replicate (length xs) false) ≡ length xs = length-replicate (length xs) false in
    let e = ap length bits in
    let some = c.requires.some in
    omega (arith, n, e, some)

pub waiting-init : goal.waiting-init
waiting-init g c =
    let number = g.S.IndexStorage.number in
    let m = length-map c.args.states.now (value_of number) in
    marking_begins (map (value_of number) c.args.states.now) c.in_ok-marked.marked.bits c.mark.new.marked.bits (length c.args.states.now) c.new-waiting.result.items c.mark.new.waiting.items (sym m) c.in_ok-marked.ensures.bits c.new-waiting.ensures.items c.in_ok-mark.ensures

pub bounds-states-number : goal.bounds-states-number
bounds-states-number g c =
    let number = g.S.IndexStorage.number in
    let states = map (value_of number) c.args.states.now in
    let m = length-map c.args.states.now (value_of number) in
    let h = subst (λ (l : List ℕ). AreMarking states c.waiting.marked.bits l) c.in-Some.ensures.items c.waiting.invariant in
    let low = flag_within c.waiting.marked.bits c.in-Some.number (h.waits c.in-Some.number (Contains-push c.pop.new.self.items c.in-Some.number)) in
    let size = h.size in
    omega (arith, low, size, m)

pub offset_bounds-states-number : goal.offset_bounds-states-number
offset_bounds-states-number g c =
    let number = g.S.IndexStorage.number in
    let states = map (value_of number) c.args.states.now in
    let m = length-map c.args.states.now (value_of number) in
    let h = subst (λ (l : List ℕ). AreMarking states c.waiting.marked.bits l) c.in-Some.ensures.items c.waiting.invariant in
    let low = flag_within c.waiting.marked.bits c.in-Some.number (h.waits c.in-Some.number (Contains-push c.pop.new.self.items c.in-Some.number)) in
    let size = h.size in
    let lt : c.in-Some.number < length c.args.states.now = omega (arith, low, size, m) in
    search rules

pub mark_targets-requires : goal.mark_targets-requires
mark_targets-requires g c =
    let number = g.S.IndexStorage.number in
    let xs = c.args.states.now in
    let states = map (value_of number) xs in
    let m = length-map xs (value_of number) in
    let h = subst (λ (l : List ℕ). AreMarking states c.waiting.marked.bits l) c.in-Some.ensures.items c.waiting.invariant in
    let low = flag_within c.waiting.marked.bits c.in-Some.number (h.waits c.in-Some.number (Contains-push c.pop.new.self.items c.in-Some.number)) in
    let size = h.size in
    let lt : c.in-Some.number < length xs = omega (arith, low, size, m) in
    let at = get_or-map (value_of number) xs c.in-Some.number c.index-states-number.result no_state lt in
    λ e x. (let t = target_within states c.in-Some.number e c.requires.linked (omega (arith, lt, m)) (subst (λ (es : List Edge). Contains es e) (ap (λ (l : List (EdgeTo g.row.S.Denot)). edges_of number l) c.as_slice.ensures.value ∙ sym (ap (λ (s : StateValue). s.edges) at)) x) in omega (arith, t, size))

pub waiting-preserved : goal.waiting-preserved
waiting-preserved g c =
    let number = g.S.IndexStorage.number in
    let xs = c.args.states.now in
    let states = map (value_of number) xs in
    let m = length-map xs (value_of number) in
    let h = subst (λ (l : List ℕ). AreMarking states c.waiting.marked.bits l) c.in-Some.ensures.items c.waiting.invariant in
    let low = flag_within c.waiting.marked.bits c.in-Some.number (h.waits c.in-Some.number (Contains-push c.pop.new.self.items c.in-Some.number)) in
    let size = h.size in
    let lt : c.in-Some.number < length xs = omega (arith, low, size, m) in
    let at = get_or-map (value_of number) xs c.in-Some.number c.index-states-number.result no_state lt in
    let es = ap (λ (l : List (EdgeTo g.row.S.Denot)). edges_of number l) c.as_slice.ensures.value ∙ sym (ap (λ (s : StateValue). s.edges) at) in
    marking_goes_on states c.waiting.marked.bits c.mark_targets.new.marked.bits c.in-Some.number c.pop.new.self.items c.mark_targets.new.waiting.items c.requires.linked h
    (subst (λ (l : List Edge). Marks (IsTargetOf l) c.waiting.marked.bits c.mark_targets.new.marked.bits c.pop.new.self.items c.mark_targets.new.waiting.items) es c.in_ok-mark_targets.ensures)

pub returns-clause-width : goal.returns-clause-width
returns-clause-width g c = c.waiting.invariant.size ∙ length-map c.args.states.now (value_of g.S.IndexStorage.number)

pub returns-clause-marks : goal.returns-clause-marks
returns-clause-marks g c =
    let states = map (value_of g.S.IndexStorage.number) c.args.states.now in
    let e : c.waiting.waiting.items ≡ [] = search rules in
    marking_ends states c.waiting.marked.bits (subst (λ (l : List ℕ). AreMarking states c.waiting.marked.bits l) e c.waiting.invariant)
