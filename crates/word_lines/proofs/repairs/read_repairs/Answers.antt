use Rattle.std.specs.Str.Lines.{lines}
use Rattle.std.proofs.Common.{◌≡◌, ◌≤◌, length, arith, vec_len, refl, sym, ◌∙◌}
use Rattle.std.proofs.lemmas.Iterator.Consumers.{YieldsList-at, YieldsList-turn, YieldsList-end}
use Rattle.std.proofs.lemmas.Iterator.Splits.{YieldsList-from_lines}
use Rattle.std.proofs.lemmas.List.{length_push, length-map}
use Rattle.parse_trees.specs.Edits.{edits_of, sequences_of}
use Rattle.word_lines.proofs.ReadLines.{ReadTo-on, ReadTo-off, ReadTo-end}
use Rattle.word_lines.proofs.repairs.read_repairs.Goals as goal

pub lines-init : goal.lines-init
lines-init g c = rw c.new-sequences.ensures.items refl

pub returns-then-not-taken-clause-err : goal.returns-then-not-taken-clause-err
returns-then-not-taken-clause-err g c =
    let turn = YieldsList-turn (YieldsList-at c.into_iter-line-iterator.ensures.into_iter_gives (YieldsList-from_lines c.args.text.now c.lines-line-items.ensures.rest)) c.lines.yielded _ c.lines.yielded_by _ _ c.in-Some.line c.in-Some.is c.next.ensures.steps in
    let v = c.take_line.new.sequences in
    let size : vec_len v ≡ length v.items = omega (arith, v.ok.0) in
    ReadTo-off c.args.grm.now (lines c.args.text.now) (length c.lines.yielded) c.in-Some.line.now _ _ _ _ c.lines.invariant turn c.in_ok-taken.ensures c.if-not-taken.true (c.len.ensures ∙ size ∙ sym (length-map v.items (λ es. edits_of g.S.IndexStorage.number es.items)))

pub lines-preserved : goal.lines-preserved
lines-preserved g c =
    let turn = YieldsList-turn (YieldsList-at c.into_iter-line-iterator.ensures.into_iter_gives (YieldsList-from_lines c.args.text.now c.lines-line-items.ensures.rest)) c.lines.yielded _ c.lines.yielded_by _ _ c.in-Some.line c.in-Some.is c.next.ensures.steps in
    rw length_push (ReadTo-on c.args.grm.now (lines c.args.text.now) (length c.lines.yielded) c.in-Some.line.now _ _ _ c.lines.invariant turn c.in_ok-taken.ensures c.if-not-taken.false)

pub returns-clause-ok : goal.returns-clause-ok
returns-clause-ok g c =
    let e = YieldsList-end (YieldsList-at c.into_iter-line-iterator.ensures.into_iter_gives (YieldsList-from_lines c.args.text.now c.lines-line-items.ensures.rest)) c.lines.yielded _ c.lines.yielded_by _ _ c.in-None.is c.next.ensures.steps in
    let long : length (lines c.args.text.now) ≤ length c.lines.yielded = omega (arith, e.1) in
    ReadTo-end c.args.grm.now (lines c.args.text.now) (length c.lines.yielded) (sequences_of g.S.IndexStorage.number c.lines.sequences.items) c.lines.invariant long
