use Rattle.std.proofs.Common.{◌≡◌, ◌<◌, List, [], ◌∷◌, get_or, Option, sym, ap, ◌∙◌, subst, arith}
use Rattle.std.specs.Prelude.{slice_get}
use Rattle.lrpar.specs.Endings.{IsEnding}
use Rattle.lrpar.specs.declared.endings.Ending.{Ending}
use Rattle.lrpar.proofs.EndingSteps.{weaker, kept_ends}
use Rattle.lrpar.proofs.endings.ending_of.Goals as goal

pub returns : goal.returns
returns g c =
    let number = g.S.IndexStorage.number in
    let G = c.args.chains.now.grm.now.grammar in
    let v = c.args.chains.now.stable.now in
    let s = number c.args.state.0 in
    let n = c.to_usize-number.ensures.value in
    let lt : s < v.states = omega (arith, c.requires.rows.count, n) in
    let row = c.index-rows-number.result in
    let is : row ≡ get_or c.args.rows.now s row = subst (λ k. row ≡ get_or c.args.rows.now k row) n c.index-rows-number.is in
    weaker _ (IsEnding number G v (number c.args.tidx.0) (s ∷ [])) c.kept_at.result
    (λ e h. kept_ends number G v (number c.args.tidx.0) c.args.rows.now s c.in-Some.index row e c.requires.rows lt is (ap (λ (l : List (Option (Ending g.row.S.Denot))). slice_get l c.in-Some.index) (sym c.as_slice.ensures.value) ∙ h.0) h.1)
    c.kept_at.ensures
