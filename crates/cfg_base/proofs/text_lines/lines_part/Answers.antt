use Rattle.std.proofs.Common.{◌≤◌, sym, subst, arith, length}
use Rattle.std.specs.Str.{IsCharBoundary}
use Rattle.cfg_base.proofs.LineCuts.{ordered, start_cut, end_cut}
use Rattle.cfg_base.proofs.text_lines.lines_part.Goals as goal

pub range-requires-clause-start_le_end : goal.range-requires-clause-start_le_end
range-requires-clause-start_le_end c =
    let text = c.args.text.now in
    let s = c.span_line_bytes-start.ensures.start text c.requires.cache in
    let e = c.span_line_bytes-start.ensures.end text c.requires.cache in
    let o = ordered text c.args.span.start c.args.span.end (let p = c.start.ensures in omega (arith, p.value, p.ordered)) in
    omega (arith, s, e, o)

pub range-requires-clause-start_boundary : goal.range-requires-clause-start_boundary
range-requires-clause-start_boundary c = λ _.
    let text = c.args.text.now in
    let within : c.args.span.start ≤ length text = let p = c.start.ensures in let w = c.requires.within in omega (arith, p.value, p.ordered, w) in
    subst (IsCharBoundary text) (sym (c.span_line_bytes-start.ensures.start text c.requires.cache)) (start_cut text c.args.span.start c.utf8.text within)

pub range-requires-clause-end_boundary : goal.range-requires-clause-end_boundary
range-requires-clause-end_boundary c =
    let text = c.args.text.now in
    subst (IsCharBoundary text) (sym (c.span_line_bytes-start.ensures.end text c.requires.cache)) (end_cut text c.args.span.end c.requires.within)
