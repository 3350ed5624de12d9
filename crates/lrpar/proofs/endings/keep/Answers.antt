use Rattle.std.proofs.Common.{◌≡◌, ◌<◌, get_or, subst, arith}
use Rattle.std.proofs.lemmas.Result.{on_ok_weaker}
use Rattle.std.specs.Prelude.{slice_set}
use Rattle.lrpar.specs.Endings.{AreEndings}
use Rattle.lrpar.proofs.EndingSteps.{put_kept}
use Rattle.lrpar.proofs.endings.keep.Goals as goal

pub returns : goal.returns
returns g c =
    let number = g.S.IndexStorage.number in
    let G = c.args.chains.now.grm.now.grammar in
    let v = c.args.chains.now.stable.now in
    let s = number c.args.state.0 in
    let rows = c.args.rows.now.items in
    let old = c.index_mut.result.now in
    let n = c.to_usize-number.ensures.value in
    let lt : s < v.states = omega (arith, c.requires.rows.count, n) in
    let is : old ≡ get_or rows s old = subst (λ k. old ≡ get_or rows k old) n c.index_mut.ensures.value in
    rw n (on_ok_weaker c.put_ending.result (λ put. put_kept number G v s rows s old c.put_ending.new.row c.args.ending c.requires.rows lt is c.requires.ending put) c.put_ending.ensures)
