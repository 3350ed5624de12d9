use Rattle.std.proofs.Common.{◌≡◌, length, sym, subst, arith}
use Rattle.state_table.specs.Tables.{automaton_of}
use Rattle.lrpar.specs.Reducing.{stack_of}
use Rattle.lrpar.specs.Replay.{overlaid, ShiftsNot, ShiftsTo}
use Rattle.lrpar.specs.declared.overlay.Overlay.{Overlay}
use Rattle.lrpar.proofs.Tested.{whole_base}
use Rattle.lrpar.proofs.prefix.shift_whole.Goals as goal

pub returns-then-not-branch-clause-shifts : goal.returns-then-not-branch-clause-shifts
returns-then-not-branch-clause-shifts g c = λ x.
    let number = g.S.IndexStorage.number in
    let items = c.args.states.now.items in
    let o : Overlay g.row.S.Denot = record { kept = c.len-overlay.result; over = c.clear.new.self } in
    let all : c.len-overlay.result ≡ length items = omega arith in
    let said : ShiftsNot c.args.machine.now.grm.now.grammar (automaton_of x c.args.machine.now.stable.now) (number c.args.tidx.0) (overlaid number items o) = rw (c.if-not-branch.true, c.as_slice.ensures.value) at (c.in_ok-shift_on.ensures.shifts x) in
    subst (ShiftsNot c.args.machine.now.grm.now.grammar (automaton_of x c.args.machine.now.stable.now) (number c.args.tidx.0)) (whole_base number items o all c.clear.ensures.items) said

pub returns-clause-shifts : goal.returns-clause-shifts
returns-clause-shifts g c = λ x.
    let number = g.S.IndexStorage.number in
    let items = c.args.states.now.items in
    let G = c.args.machine.now.grm.now.grammar in
    let a = automaton_of x c.args.machine.now.stable.now in
    let t = number c.args.tidx.0 in
    let o : Overlay g.row.S.Denot = record { kept = c.len-overlay.result; over = c.clear.new.self } in
    let all : c.len-overlay.result ≡ length items = omega arith in
    let said : ShiftsTo G a t (overlaid number items o) (overlaid number items c.shift_on.new.overlay) = rw (c.if-not-branch.false, c.as_slice.ensures.value) at (c.in_ok-shift_on.ensures.shifts x) in
    let put : ShiftsTo G a t (overlaid number items o) (stack_of number c.settle.new.states.items) = subst (ShiftsTo G a t (overlaid number items o)) (sym c.in_ok-settle.ensures.stack) said in
    subst (λ l. ShiftsTo G a t l (stack_of number c.settle.new.states.items)) (whole_base number items o all c.clear.ensures.items) put
