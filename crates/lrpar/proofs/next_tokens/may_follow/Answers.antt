use Rattle.std.proofs.Common.{◌≡◌, length, refl, subst, arith}
use Rattle.cfg_theory.specs.Grammar.{end_token}
use Rattle.state_table.specs.Tables.{automaton_of}
use Rattle.lrpar.specs.Replay.{overlaid, TellsAccept, TellsShift}
use Rattle.lrpar.specs.declared.overlay.Overlay.{Overlay}
use Rattle.lrpar.proofs.Tested.{whole_base}
use Rattle.lrpar.proofs.next_tokens.may_follow.Goals as goal

pub returns-then-to_usize : goal.returns-then-to_usize
returns-then-to_usize g c = λ x.
    let number = g.S.IndexStorage.number in
    let G = c.args.machine.now.grm.now.grammar in
    let o : Overlay g.row.S.Denot = record { kept = length c.args.base.now; over = c.clear.new.self } in
    let whole = whole_base number c.args.base.now o refl c.clear.ensures.items in
    let same = c.if-to_usize.true in
    let value = c.to_usize.ensures.value in
    let other = c.to_usize-2.ensures.value in
    let end = c.eof_token_idx.ensures.value in
    let is : number c.args.tidx.0 ≡ end_token G = omega (arith, same, value, other, end) in
    record {
      shifts = λ ne. absurd (ne is);
      ends = λ _. subst (λ l. TellsAccept G (automaton_of x c.args.machine.now.stable.now) (end_token G) l c.in_ok-accepts.accepts) whole (c.in_ok-accepts.ensures x);
    }

pub returns : goal.returns
returns g c = λ x.
    let number = g.S.IndexStorage.number in
    let G = c.args.machine.now.grm.now.grammar in
    let t = number c.args.tidx.0 in
    let after = overlaid number c.args.base.now c.shift_on.new.overlay in
    let o : Overlay g.row.S.Denot = record { kept = length c.args.base.now; over = c.clear.new.self } in
    let whole = whole_base number c.args.base.now o refl c.clear.ensures.items in
    let differ = c.if-to_usize.false in
    let value = c.to_usize.ensures.value in
    let other = c.to_usize-2.ensures.value in
    let end = c.eof_token_idx.ensures.value in
    record {
      shifts = λ _. (after, subst (λ l. TellsShift G (automaton_of x c.args.machine.now.stable.now) t l after c.in_ok-shifts.shifts) whole (c.in_ok-shifts.ensures.shifts x));
      ends = λ e. absurd (omega (arith, e, differ, value, other, end));
    }
