use Rattle.std.proofs.Common.{◌≡◌, ◌<◌, [], length, get_or, Option, sym, ap, ◌∙◌, subst, arith, rules}
use Rattle.std.specs.Option.{unwrap_or}
use Rattle.std.proofs.lemmas.List.{get_or_default}
use Rattle.lr_theory.specs.Itemset.{ItemSet}
use Rattle.state_table.proofs.GraphClosures.{within_closed, closure_at}
use Rattle.state_table.proofs.stategraph.StateGraph.closed_state.Goals as goal

pub index-requires : goal.index-requires
index-requires g c =
    let is = c.to_usize-number.ensures.value in
    let at = within_closed c.self.inside.cores.items c.self.inside.closed.items c.self.invariant.closed (g.S.IndexStorage.number c.args.stidx.0) (rw (← c.self.view_is) at c.requires) in
    let lt : c.to_usize-number.result < length c.self.inside.closed.items = omega (arith, is, at) in
    search rules

pub returns-in-Some : goal.returns-in-Some
returns-in-Some g c =
    let number = g.S.IndexStorage.number c.args.stidx.0 in
    let cores = c.self.inside.cores.items in
    let at = closure_at cores c.self.inside.closed.items c.self.invariant.closed number (rw (← c.self.view_is) at c.requires) c.index.result.now (rw c.to_usize-number.ensures.value at c.index.ensures) in
    rw (← c.self.view_is) (sym (at ∙ ap (λ (o : Option ItemSet). unwrap_or o (get_or cores number [])) c.in-Some.is))

pub returns-in-None : goal.returns-in-None
returns-in-None g c =
    let number = g.S.IndexStorage.number c.args.stidx.0 in
    let cores = c.self.inside.cores.items in
    let lt : number < length cores = rw (← c.self.view_is) at c.requires in
    let at = closure_at cores c.self.inside.closed.items c.self.invariant.closed number lt c.index.result.now (rw c.to_usize-number.ensures.value at c.index.ensures) in
    let core = rw c.to_usize-number.ensures.value at c.index-in-None.ensures in
    rw (← c.self.view_is) (core ∙ get_or_default cores number c.index-in-None.result.now [] lt ∙ sym (at ∙ ap (λ (o : Option ItemSet). unwrap_or o (get_or cores number [])) c.in-None.is))
