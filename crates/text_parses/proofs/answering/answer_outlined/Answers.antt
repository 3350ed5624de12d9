use Rattle.text_parses.specs.AskedTexts.{asked_in}
use Rattle.std.proofs.Common.{refl}
use Rattle.text_parses.proofs.OutlineTexts.{answered}
use Rattle.text_parses.proofs.answering.answer_outlined.Goals as goal

pub returns-in_ok-write_outlined-in-Some : goal.returns-in_ok-write_outlined-in-Some
returns-in_ok-write_outlined-in-Some g c =
    let f = rw c.in-Some.is at c.in_ok-outline.ensures.parsed in
    let writes = rw c.grm.ensures at c.in_ok-write_outlined-in-Some.ensures f.tree (rw (c.as_slice.ensures.value, c.iter.ensures) f.leaves) f.outline in
    answered c.args.shown.input.form c.args.kit.now.parser c.args.lexer.now.items (asked_in c.args.shown) (g.W.Sink.known c.args.out.now) (g.W.Sink.known c.write_outlined.new.out) c.in-Some.outline c.requires refl f writes
