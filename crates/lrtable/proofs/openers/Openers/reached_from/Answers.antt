use Rattle.std.proofs.Common.{◌≡◌, ◌<◌, List, [], length, get_or, map, sym, subst, subst₂, arith}
use Rattle.std.proofs.lemmas.Bool.Decides.{nat_tests}
use Rattle.std.proofs.lemmas.List.{length-map}
use Rattle.std.specs.declared.alloc.Global.{Global}
use Rattle.std.specs.declared.vec.Vec.{Vec}
use Rattle.lrtable.specs.Fronts.{front_of}
use Rattle.lrtable.specs.Opening.{Front}
use Rattle.lrtable.specs.Reaching.{IsReachedBy, MayBeReachedBy}
use Rattle.lrtable.specs.declared.openers.Opener.{Opener}
use Rattle.state_table.proofs.CoreSteps.{map_at}
use Rattle.lrtable.proofs.Reaching.{is_kept}
use Rattle.lrtable.proofs.openers.Openers.reached_from.Goals as goal

pub returns : goal.returns
returns c =
    let xs = c.self.inside.reached.items in
    let ok = c.self.inside.reached.ok.0 in
    let len = c.len.ensures in
    let v = c.index-list.result.now in
    let kept = v.ok.0 in
    let empty = c.is_empty.ensures in
    let lt : c.args.rule < length xs = omega (arith, len, ok) in
    let same : c.self.inside.tokens ≡ c.args.tokens = omega arith in
    let some : 0 < length v.items = grind (arith, nat_tests) in
    let n = length-map xs (λ (w : Vec Opener Global). map front_of w.items) in
    let long = length-map v.items front_of in
    let h = subst (λ (f : List (List Front)). MayBeReachedBy f c.self.inside.tokens c.args.rule (get_or (map (λ (w : Vec Opener Global). map front_of w.items) xs) c.args.rule [])) c.self.view_is (c.self.invariant c.args.rule (omega (arith, n, lt))) in
    subst (λ (l : List Opener). IsReachedBy c.args.self.now c.args.tokens c.args.rule (map front_of l)) (sym c.as_slice.ensures.value)
    (is_kept c.args.self.now c.args.tokens c.args.rule (map front_of v.items) (omega (arith, some, long))
    (subst₂ (λ k l. MayBeReachedBy c.args.self.now k c.args.rule l) same (map_at (λ (w : Vec Opener Global). map front_of w.items) xs c.args.rule v [] lt c.index-list.ensures) h))
