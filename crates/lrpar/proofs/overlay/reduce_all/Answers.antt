use Rattle.std.proofs.Common.{◌≡◌, ◌+◌, ◌*◌, [], length, None, refl, sym, subst}
use Rattle.lr_theory.specs.Chains.{reduction}
use Rattle.state_table.specs.Graphs.{GraphValue}
use Rattle.state_table.specs.Tables.{automaton_of}
use Rattle.lrpar.specs.Replay.{overlaid, Leads, none}
use Rattle.lrpar.proofs.Room.{room_less, still_short, bounded}
use Rattle.lrpar.proofs.Replays.{leads_more}
use Rattle.lrpar.proofs.overlay.reduce_all.Goals as goal

pub reductions-init : goal.reductions-init
reductions-init g c =
    let number = g.S.IndexStorage.number in
    let ss = overlaid number c.args.base.now c.args.overlay.now in
    record {
      over = c.requires.over;
      short = λ x. bounded c.args.machine.now.grm.now.grammar (automaton_of x c.args.machine.now.stable.now) c.args.machine.now.limit (number c.args.tidx.0) (length ss) ss (c.args.machine.now.chains x) c.requires.over.some refl;
      leads = λ x. none;
    }

pub reductions-smaller : goal.reductions-smaller
reductions-smaller g c =
    let number = g.S.IndexStorage.number in
    let x : GraphValue = record { start = 0; cores = []; closed = []; edges = [] } in
    room_less c.args.machine.now.grm.now.grammar (automaton_of x c.args.machine.now.stable.now) (number c.args.tidx.0) (length (overlaid number c.args.base.now c.args.overlay.now) * (c.args.machine.now.limit + 1)) _ _ (c.reductions.invariant.short x) (rw c.if-not-branch.false at (c.in_ok-reduce_on.ensures.made x))

pub reductions-preserved : goal.reductions-preserved
reductions-preserved g c =
    let number = g.S.IndexStorage.number in
    let G = c.args.machine.now.grm.now.grammar in
    let v = c.args.machine.now.stable.now in
    record {
      over = c.in_ok-reduce_on.ensures.over;
      short = λ x. still_short G (automaton_of x v) (number c.args.tidx.0) (length (overlaid number c.args.base.now c.args.overlay.now) * (c.args.machine.now.limit + 1)) _ _ (c.reductions.invariant.short x) (rw c.if-not-branch.false at (c.in_ok-reduce_on.ensures.made x));
      leads = λ x. leads_more G (automaton_of x v) (number c.args.tidx.0) (c.reductions.invariant.leads x) (rw c.if-not-branch.false at (c.in_ok-reduce_on.ensures.made x));
    }

pub returns-then-not-branch-clause-rests : goal.returns-then-not-branch-clause-rests
returns-then-not-branch-clause-rests g c = λ x.
    let number = g.S.IndexStorage.number in
    let G = c.args.machine.now.grm.now.grammar in
    let v = c.args.machine.now.stable.now in
    let same = c.in_ok-reduce_on.ensures.same c.if-not-branch.true in
    record {
      leads = subst (Leads G (automaton_of x v) (number c.args.tidx.0) (overlaid number c.args.base.now c.args.overlay.now)) (sym same) (c.reductions.invariant.leads x);
      last = subst (λ l. reduction G (automaton_of x v) (number c.args.tidx.0) l ≡ None) (sym same) (rw c.if-not-branch.true at (c.in_ok-reduce_on.ensures.made x));
    }
