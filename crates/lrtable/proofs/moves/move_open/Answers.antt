use Rattle.std.proofs.Common.{◌≡◌, ◌+◌, List, Bool, true, map, subst, arith}
use Rattle.std.specs.declared.ops.Bound.TheVariants.{Unbounded}
use Rattle.vob.specs.Walk.{walk}
use Rattle.lrtable.specs.MovedItems.{set_of_moved}
use Rattle.lrtable.proofs.FreshSets.{none_of_open}
use Rattle.state_table.proofs.Marks.{IsNextMark, all_marked, marked_from, next_mark, no_mark}
use Rattle.lrtable.proofs.MarkedSets.{keeps_same, keeps_next, open_skip, symbol_sets_on}
use Rattle.lrtable.proofs.Moving.{open_begin, open_next}
use Rattle.lrtable.proofs.moves.move_open.Goals as goal

pub rules-init : goal.rules-init
rules-init g c =
    let number = g.S.IndexStorage.number in
    let sets = map (set_of_moved number c.args.rows.now) c.args.sets.now.items in
    let bits = c.open_flags.result.now.bits in
    let e : c.into_iter-number-iterator.result ≡ walk true bits Unbounded Unbounded = cc in (
      tt,
      tt,
      (
        0,
        record {
          within = omega arith;
          left = subst (λ (l : List Bool). c.into_iter-number-iterator.result ≡ marked_from l 0) c.open_flags.ensures (all_marked bits c.into_iter-number-iterator.result e);
          gains = open_begin c.args.grm.now.grammar c.args.rows.now.opening sets c.requires.sets.good;
          marks = keeps_same c.args.marks.now.bits sets;
        },
      ),
    )

pub move_if_open-requires : goal.move_if_open-requires
move_if_open-requires g c =
    let number = g.S.IndexStorage.number in
    let v = c.rules.invariant.2 in
    let m : IsNextMark c.args.rows.now.opening.opened v.0 c.in-Some.number c.next.new.self = next_mark c.args.rows.now.opening.opened v.0 c.in-Some.number c.rules.number-iterator c.next.new.self v.1.within v.1.left c.in-Some.ensures.steps in
    let below = m.below in
    let width = c.requires.sizes.opened in
    record {
      rule = omega (arith, below, width);
      sizes = c.requires.sizes;
      sets = symbol_sets_on c.requires.sets v.1.gains v.1.marks;
      fresh = none_of_open c.args.grm.now.grammar c.args.rows.now.opening v.0 c.in-Some.number (map (set_of_moved number c.args.rows.now) c.args.sets.now.items) (map (set_of_moved number c.args.rows.now) c.rules.sets.items) m.low (omega (arith, below, width)) c.requires.fresh v.1.gains;
    }

pub rules-preserved : goal.rules-preserved
rules-preserved g c =
    let number = g.S.IndexStorage.number in
    let G = c.args.grm.now.grammar in
    let s = c.args.rows.now.opening in
    let n = c.rules.invariant.2.0 in
    let v = c.rules.invariant.2.1 in
    let t = c.in-Some.number in
    let first = map (set_of_moved number c.args.rows.now) c.args.sets.now.items in
    let old = map (set_of_moved number c.args.rows.now) c.rules.sets.items in
    let new = map (set_of_moved number c.args.rows.now) c.move_if_open.new.sets.items in
    let m : IsNextMark s.opened n t c.next.new.self = next_mark s.opened n t c.rules.number-iterator c.next.new.self v.within v.left c.in-Some.ensures.steps in
    let below = m.below in (
      tt,
      tt,
      (
        t + 1,
        record {
          within = omega (arith, below);
          left = m.left;
          gains = open_next G s t first old new (open_skip G s n t first old m.low m.none v.gains) c.in_ok-move_if_open.ensures.gains;
          marks = keeps_next c.args.marks.now.bits first c.rules.marks.bits old c.move_if_open.new.marks.bits new v.marks c.in_ok-move_if_open.ensures.marks;
        },
      ),
    )

pub returns-clause-gains : goal.returns-clause-gains
returns-clause-gains g c =
    let number = g.S.IndexStorage.number in
    let G = c.args.grm.now.grammar in
    let s = c.args.rows.now.opening in
    let n = c.rules.invariant.2.0 in
    let v = c.rules.invariant.2.1 in
    let width = c.requires.sizes.opened in
    let within = v.within in
    open_skip G s n G.rules (map (set_of_moved number c.args.rows.now) c.args.sets.now.items) (map (set_of_moved number c.args.rows.now) c.rules.sets.items) (omega (arith, within, width))
    (λ k a b. no_mark s.opened n c.rules.number-iterator v.within v.left c.in-None.ensures.steps.0 k a (omega (arith, b, width))) v.gains
