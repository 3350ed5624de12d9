use Rattle.text_parses.specs.AskedTexts.{asked_in}
use Rattle.text_parses.proofs.OutlineTexts.{lines_written, sexp_written}
use Rattle.text_parses.proofs.answering.write_outlined.Goals as goal

pub returns-in-Tree : goal.returns-in-Tree
returns-in-Tree g c = λ t its is.
    let o = c.args.outlined in
    rw c.in-Tree.is (lines_written o.grm.now o.input.now o.items.now o.outline.now (asked_in c.args.shown) (g.W.Sink.known c.args.out.now) (g.W.Sink.known c.write_outline_lines.new.out) c.in_ok-text.text.items c.requires.input c.in_ok-text.ensures
    t is its (c.in_ok-write_outline_lines-in-Tree.ensures t))

pub returns-in-Sexp : goal.returns-in-Sexp
returns-in-Sexp g c = λ t its is.
    let o = c.args.outlined in
    rw c.in-Sexp.is (sexp_written o.grm.now o.input.now o.items.now o.outline.now (asked_in c.args.shown) (g.W.Sink.known c.args.out.now) (g.W.Sink.known c.write_outline_sexp.new.out) c.in_ok-text.text.items c.requires.input c.in_ok-text.ensures
    t is its (c.in_ok-write_outline_sexp-in-Sexp.ensures t))
