use Rattle.std.proofs.Common.{◌+◌, None, refl}
use Rattle.state_table.specs.Tables.{automaton_of}
use Rattle.lrpar.proofs.EndingSteps.{last_found, link_ends, link_goes}
use Rattle.lrpar.proofs.endings.advance.Goals as goal

pub returns-in-None : goal.returns-in-None
returns-in-None g c = λ from l.
    let number = g.S.IndexStorage.number in
    let G = c.args.chains.now.grm.now.grammar in
    let v = c.args.chains.now.stable.now in
    let t = number c.args.ending.tidx.0 in
    last_found number G v t (number c.args.link.state.0) from (record { tidx = c.args.ending.tidx; count = c.args.link.count + c.args.ending.count; last = None }) c.last_of.result c.last_of.ensures refl refl
    (λ x. link_ends G (automaton_of x v) t from c.args.link.count c.args.ending.count (number c.args.link.state.0) (number c.args.link.above.0) (l.leads x) (rw c.in-None.is at (c.requires.ending.ends x)))

pub returns-in-Some : goal.returns-in-Some
returns-in-Some g c = λ from l.
    let number = g.S.IndexStorage.number in
    let G = c.args.chains.now.grm.now.grammar in
    let v = c.args.chains.now.stable.now in
    c.turn.ensures from (λ x. link_goes G (automaton_of x v) (number c.args.ending.tidx.0) from c.args.link.count c.args.ending.count (number c.args.link.state.0) (number c.args.link.above.0) (number c.in-Some.last.pidx.0) c.in-Some.last.below (l.leads x) (rw c.in-Some.is at (c.requires.ending.ends x)))
