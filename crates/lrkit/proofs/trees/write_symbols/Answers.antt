use Rattle.std.proofs.Common.{◌≡◌, ◌∙◌, ◌++◌, drop, get_or, sym, ap, arith}
use Rattle.std.proofs.lemmas.Result.{err_from_is_err_and}
use Rattle.parse_trees.specs.OutlineLines.{symbol_visit_line}
use Rattle.parse_trees.specs.Outlines.{IsLeft, at_leaf, visit_of}
use Rattle.word_lines.specs.Lexing.{lex_of}
use Rattle.lrkit.specs.Output.{Word, id}
use Rattle.lrkit.proofs.LeftSymbols.{next_symbol, no_symbol}
use Rattle.lrkit.proofs.OutBut.{all_added, one_more_text, text_begins, texts_begin}
use Rattle.lrkit.proofs.trees.write_symbols.Goals as goal

pub step-requires : goal.step-requires
step-requires g c =
    let r = c.requires.can in
    (drop c.nodes.counter r.1, (c.nodes.invariant.0 r.0 r.1 r.2 r.3).0)

pub push_symbol-requires-clause-can : goal.push_symbol-requires-clause-can
push_symbol-requires-clause-can g c =
    let r = c.requires.can in
    let inv = c.nodes.invariant.0 r.0 r.1 r.2 r.3 in
    let n = next_symbol r.1 c.nodes.counter c.in_ok-visit.field-0 (IsLeft Word id c.step.new.self.nodes.now c.step.new.self.waiting.items c.step.new.self.seen) (c.in_ok-visit.ensures (drop c.nodes.counter r.1) inv.0) c.in-Some.visit c.in-Some.is in
    (r.0, r.2, r.4 c.nodes.counter (visit_of id c.in-Some.visit) n.1)

pub returns-in_err-visit-clause-begins : goal.returns-in_err-visit-clause-begins
returns-in_err-visit-clause-begins g c = λ lexemes rest are left.
    let p = err_from_is_err_and c.from_residual.result c.from_residual.ensures.1 in
    rw p.1 (texts_begin (symbol_visit_line c.args.shown.now (lex_of id) c.args.line.now lexemes) rest c.args.text.now.items (g.W.Sink.known c.args.out.now) c.nodes.counter (record { symbol = at_leaf 0; depth = 0 }) (g.W.Sink.known c.nodes.out) c.nodes.text.items (c.nodes.invariant.0 lexemes rest are left).1)

pub returns-in_err-push_symbol-in-Some-clause-begins : goal.returns-in_err-push_symbol-in-Some-clause-begins
returns-in_err-push_symbol-in-Some-clause-begins g c = λ lexemes rest are left.
    let p = err_from_is_err_and c.from_residual-in_err-push_symbol-in-Some.result c.from_residual-in_err-push_symbol-in-Some.ensures.1 in
    rw p.1 (texts_begin (symbol_visit_line c.args.shown.now (lex_of id) c.args.line.now lexemes) rest c.args.text.now.items (g.W.Sink.known c.args.out.now) c.nodes.counter (record { symbol = at_leaf 0; depth = 0 }) (g.W.Sink.known c.nodes.out) c.nodes.text.items (c.nodes.invariant.0 lexemes rest are left).1)

pub returns-in_err-give_out-in-Some-clause-begins : goal.returns-in_err-give_out-in-Some-clause-begins
returns-in_err-give_out-in-Some-clause-begins g c = λ lexemes rest are left.
    let inv = c.nodes.invariant.0 lexemes rest are left in
    let n = next_symbol rest c.nodes.counter c.in_ok-visit.field-0 (IsLeft Word id c.step.new.self.nodes.now c.step.new.self.waiting.items c.step.new.self.seen) (c.in_ok-visit.ensures (drop c.nodes.counter rest) inv.0) c.in-Some.visit c.in-Some.is in
    let f = symbol_visit_line c.args.shown.now (lex_of id) c.args.line.now lexemes in
    let d = visit_of id c.in-Some.visit in
    let pushed : c.push_symbol.new.text.items ≡ c.nodes.text.items ++ f (get_or rest c.nodes.counter d) = c.in_ok-push_symbol-in-Some.ensures lexemes are ∙ ap (λ x. c.nodes.text.items ++ f x) (sym n.2) in
    let p = err_from_is_err_and c.from_residual-in_err-give_out-in-Some.result c.from_residual-in_err-give_out-in-Some.ensures.1 in
    rw p.1 (text_begins f rest c.args.text.now.items (g.W.Sink.known c.args.out.now) c.nodes.counter d (g.W.Sink.known c.nodes.out) c.nodes.text.items inv.1 n.0 (g.W.Sink.known c.give_out.new.out) c.push_symbol.new.text.items pushed c.in_err-give_out-in-Some.ensures.begins)

pub returns-in-None-clause-ok : goal.returns-in-None-clause-ok
returns-in-None-clause-ok g c = λ lexemes rest are left.
    let inv = c.nodes.invariant.0 lexemes rest are left in
    let f = symbol_visit_line c.args.shown.now (lex_of id) c.args.line.now lexemes in
    let all = no_symbol rest c.nodes.counter c.in_ok-visit.field-0 (IsLeft Word id c.step.new.self.nodes.now c.step.new.self.waiting.items c.step.new.self.seen) (c.in_ok-visit.ensures (drop c.nodes.counter rest) inv.0) c.in-None.is in
    all_added f rest c.args.text.now.items (g.W.Sink.known c.args.out.now) c.nodes.counter (record { symbol = at_leaf 0; depth = 0 }) (g.W.Sink.known c.nodes.out) c.nodes.text.items inv.1 all

pub returns-clause-ok : goal.returns-clause-ok
returns-clause-ok g c = λ lexemes rest are left.
    let inv = c.nodes.invariant.0 lexemes rest are left in
    let f = symbol_visit_line c.args.shown.now (lex_of id) c.args.line.now lexemes in
    let within = left.within in
    let done = c.nodes-test.false in
    all_added f rest c.args.text.now.items (g.W.Sink.known c.args.out.now) c.nodes.counter (record { symbol = at_leaf 0; depth = 0 }) (g.W.Sink.known c.nodes.out) c.nodes.text.items inv.1 (omega (arith, within, done))

pub nodes-preserved : goal.nodes-preserved
nodes-preserved g c = (
  λ lexemes rest are left.
      let inv = c.nodes.invariant.0 lexemes rest are left in
      let n = next_symbol rest c.nodes.counter c.in_ok-visit.field-0 (IsLeft Word id c.step.new.self.nodes.now c.step.new.self.waiting.items c.step.new.self.seen) (c.in_ok-visit.ensures (drop c.nodes.counter rest) inv.0) c.in-Some.visit c.in-Some.is in
      let f = symbol_visit_line c.args.shown.now (lex_of id) c.args.line.now lexemes in
      let d = visit_of id c.in-Some.visit in
      let pushed : c.push_symbol.new.text.items ≡ c.nodes.text.items ++ f (get_or rest c.nodes.counter d) = c.in_ok-push_symbol-in-Some.ensures lexemes are ∙ ap (λ x. c.nodes.text.items ++ f x) (sym n.2) in (
        n.3,
        one_more_text f rest c.args.text.now.items (g.W.Sink.known c.args.out.now) c.nodes.counter d (g.W.Sink.known c.nodes.out) c.nodes.text.items inv.1 n.0 (g.W.Sink.known c.give_out.new.out) c.push_symbol.new.text.items c.give_out.new.text.items pushed c.in_ok-give_out-in-Some.ensures.ok,
      ),
  c.in_ok-give_out-in-Some.ensures.kept ∙ c.nodes.invariant.1,
)
