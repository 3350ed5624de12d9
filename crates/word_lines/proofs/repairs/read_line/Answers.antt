use Rattle.std.proofs.Common.{◌≤◌, length, arith, lit<}
use Rattle.std.proofs.lemmas.Iterator.Consumers.{YieldsList-at, YieldsList-turn, YieldsList-end}
use Rattle.std.proofs.lemmas.Iterator.Splits.{YieldsList-from_str_split}
use Rattle.std.proofs.lemmas.List.{length_push}
use Rattle.parse_trees.specs.Edits.{edits_of}
use Rattle.word_lines.proofs.LexedParts.{parts_of}
use Rattle.word_lines.proofs.SaidEdits.{SaidTo-start, SaidTo-on, SaidTo-off, SaidTo-waits, SaidTo-end}
use Rattle.word_lines.proofs.repairs.read_line.Goals as goal

pub parts-init : goal.parts-init
parts-init g c = rw c.new-steps.ensures.items (SaidTo-start c.args.grm.now c.args.line.now)

pub returns-then-not-taken : goal.returns-then-not-taken
returns-then-not-taken g c =
    let turn = YieldsList-turn (YieldsList-at c.into_iter-part-iterator.ensures.into_iter_gives (YieldsList-from_str_split 32 c.args.line.now (lit< tt) c.split-part-items.ensures.text c.split-part-items.ensures.has_more c.split-part-items.ensures.pattern)) c.parts.yielded _ c.parts.yielded_by _ _ c.in-Some.part c.in-Some.is c.next.ensures.steps in
    SaidTo-off c.args.grm.now c.args.line.now (length c.parts.yielded) c.in-Some.part.now _ _ _ _ _ c.parts.invariant turn c.in_ok-taken.ensures c.if-not-taken.true

pub parts-preserved : goal.parts-preserved
parts-preserved g c =
    let turn = YieldsList-turn (YieldsList-at c.into_iter-part-iterator.ensures.into_iter_gives (YieldsList-from_str_split 32 c.args.line.now (lit< tt) c.split-part-items.ensures.text c.split-part-items.ensures.has_more c.split-part-items.ensures.pattern)) c.parts.yielded _ c.parts.yielded_by _ _ c.in-Some.part c.in-Some.is c.next.ensures.steps in
    rw length_push (SaidTo-on c.args.grm.now c.args.line.now (length c.parts.yielded) c.in-Some.part.now _ _ _ _ _ c.parts.invariant turn c.in_ok-taken.ensures c.if-not-taken.false)

pub returns-then-inserting : goal.returns-then-inserting
returns-then-inserting g c =
    let e = YieldsList-end (YieldsList-at c.into_iter-part-iterator.ensures.into_iter_gives (YieldsList-from_str_split 32 c.args.line.now (lit< tt) c.split-part-items.ensures.text c.split-part-items.ensures.has_more c.split-part-items.ensures.pattern)) c.parts.yielded _ c.parts.yielded_by _ _ c.in-None.is c.next.ensures.steps in
    let long : length (parts_of c.args.line.now) ≤ length c.parts.yielded = omega (arith, e.1) in
    SaidTo-waits c.args.grm.now c.args.line.now (length c.parts.yielded) (edits_of g.S.IndexStorage.number c.parts.steps.items) c.parts.inserting c.parts.invariant long c.if-inserting.true

pub returns : goal.returns
returns g c =
    let e = YieldsList-end (YieldsList-at c.into_iter-part-iterator.ensures.into_iter_gives (YieldsList-from_str_split 32 c.args.line.now (lit< tt) c.split-part-items.ensures.text c.split-part-items.ensures.has_more c.split-part-items.ensures.pattern)) c.parts.yielded _ c.parts.yielded_by _ _ c.in-None.is c.next.ensures.steps in
    let long : length (parts_of c.args.line.now) ≤ length c.parts.yielded = omega (arith, e.1) in
    SaidTo-end c.args.grm.now c.args.line.now (length c.parts.yielded) (edits_of g.S.IndexStorage.number c.parts.steps.items) c.parts.inserting c.parts.invariant long c.if-inserting.false
