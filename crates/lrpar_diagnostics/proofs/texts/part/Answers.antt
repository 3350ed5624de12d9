use Rattle.lrpar_diagnostics.proofs.CharStarts.{IsLast, part_is}
use Rattle.lrpar_diagnostics.proofs.texts.part.Goals as goal

pub returns : goal.returns
returns c =
    let first : IsLast c.args.text.now c.args.from c.floor_char_boundary-first.result = record { bound = c.floor_char_boundary-first.ensures.bound; boundary = c.floor_char_boundary-first.ensures.boundary; nearest = c.floor_char_boundary-first.ensures.nearest } in
    let last : IsLast c.args.text.now c.args.to c.floor_char_boundary-last.result = record { bound = c.floor_char_boundary-last.ensures.bound; boundary = c.floor_char_boundary-last.ensures.boundary; nearest = c.floor_char_boundary-last.ensures.nearest } in
    part_is c.args.text.now c.args.from c.args.to _ _ _ c.requires.order c.requires.inside first last c.range.ensures.value
