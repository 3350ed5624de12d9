use Rattle.std.proofs.Common.{◌≡◌, ◌≤◌, ℕ, List, length, take, ap, ◌∙◌, arith}
use Rattle.std.specs.Str.{chars}
use Rattle.cfg_base.specs.Newlines.{chars_ended}
use Rattle.cfg_base.proofs.Columns.{ended_at_cut, chars_between_cuts, cut_is_last}
use Rattle.cfg_base.proofs.newlinecache.chars_between.Goals as goal

pub returns-clause-value : goal.returns-clause-value
returns-clause-value c =
    let f = c.floor_char_boundary-first in
    let g = c.floor_char_boundary-last in
    let first : chars_ended c.args.src.now c.args.from ≡ length (chars (take f.result c.args.src.now)) =
    ended_at_cut c.args.src.now c.args.from f.result c.utf8.src f.ensures.bound f.ensures.boundary f.ensures.nearest in
    let last : chars_ended c.args.src.now c.args.to ≡ length (chars (take g.result c.args.src.now)) =
    ended_at_cut c.args.src.now c.args.to g.result c.utf8.src g.ensures.bound g.ensures.boundary g.ensures.nearest in
    rw (first, last) (c.char_count.ensures.value ∙ (ap (λ (xs : List ℕ). length (chars xs)) c.range.ensures.value ∙ chars_between_cuts c.args.src.now f.result g.result c.utf8.src (let h : f.result ≤ c.args.to = (let b = f.ensures.bound in omega (arith, b, c.requires.order)) in cut_is_last c.args.src.now f.result g.result c.args.to h f.ensures.boundary g.ensures.nearest) f.ensures.boundary g.ensures.boundary))
