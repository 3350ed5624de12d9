use Rattle.std.proofs.Common.{List, ℕ, ◌++◌, subst}
use Rattle.std.specs.Prelude.{OnOk, OnErr}
use Rattle.byte_streams.specs.Sink.{BeginningWritten, IsOutBut}
use Rattle.cfg_theory.specs.Tree.{yield}
use Rattle.parse_trees.specs.Outlines.{symbols}
use Rattle.lrkit.proofs.trees.write_outline.Goals as goal

pub write_symbols-requires-clause-can : goal.write_symbols-requires-clause-can
write_symbols-requires-clause-can g c =
    let r = c.requires.can in
    (yield r.0, symbols 0 0 r.0, r.1, c.in_ok-walk.ensures.left r.0 r.2, c.in_ok-walk.ensures.can r.0 r.3)

pub returns-clause-ok : goal.returns-clause-ok
returns-clause-ok g c = λ t are is.
    let P : List ℕ → Type 0 = λ l. OnOk c.write_symbols.result (IsOutBut (g.W.Sink.known c.args.out.now) (g.W.Sink.known c.write_symbols.new.out) (c.args.text.now.items ++ l) c.write_symbols.new.text.items) in
    subst P (c.in_ok-walk.ensures.text t) (c.write_symbols.ensures.ok (yield t) (symbols 0 0 t) are (c.in_ok-walk.ensures.left t is))

pub returns-clause-begins : goal.returns-clause-begins
returns-clause-begins g c = λ t are is.
    let P : List ℕ → Type 0 = λ l. OnErr c.write_symbols.result (BeginningWritten (g.W.Sink.known c.args.out.now) (g.W.Sink.known c.write_symbols.new.out) (c.args.text.now.items ++ l)) in
    subst P (c.in_ok-walk.ensures.text t) (c.write_symbols.ensures.begins (yield t) (symbols 0 0 t) are (c.in_ok-walk.ensures.left t is))
