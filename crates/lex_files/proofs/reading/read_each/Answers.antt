use Rattle.std.proofs.Common.{◌≤◌, ◌+◌, ◌==◌, length, arith, lit<, refl, ap, Ok}
use Rattle.std.proofs.lemmas.Iterator.Consumers.{YieldsList-at, YieldsList-turn, YieldsList-end}
use Rattle.std.proofs.lemmas.Iterator.Splits.{YieldsList-from_str_split}
use Rattle.std.proofs.lemmas.List.{length_push}
use Rattle.std.specs.List.{slice_split}
use Rattle.lex_files.specs.LexFiles.{file_value, read_line, read_next, last_of, try_fold, and_then}
use Rattle.lex_files.proofs.Folds.{fold_next, fold_tells, fold_end, then_tells}
use Rattle.lex_files.proofs.Rooms.{room_next, room_of-split}
use Rattle.lex_files.proofs.reading.read_each.Goals as goal

pub lines-init : goal.lines-init
lines-init c = (refl, omega (arith, room_of-split (λ b. b == 10) c.args.text.now))

pub overflow_add-end : goal.overflow_add-end
overflow_add-end c =
    let turn = YieldsList-turn (YieldsList-at c.into_iter-line-iterator.ensures.into_iter_gives (YieldsList-from_str_split 10 c.args.text.now (lit< tt) c.split-line-items.ensures.text c.split-line-items.ensures.has_more c.split-line-items.ensures.pattern)) c.lines.yielded _ c.lines.yielded_by _ _ c.in-Some.line c.in-Some.is c.next.ensures.steps in
    let next = room_next (slice_split (λ b. b == 10) c.args.text.now) (length c.lines.yielded) c.in-Some.line.now turn in
    let fits : c.lines.start + length c.in-Some.line.now + 1 ≤ c.args.from + length c.args.text.now + 1 = omega (arith, c.lines.invariant.1, next) in
    omega (arith, c.requires, fits)

pub read_line-requires : goal.read_line-requires
read_line-requires c =
    let turn = YieldsList-turn (YieldsList-at c.into_iter-line-iterator.ensures.into_iter_gives (YieldsList-from_str_split 10 c.args.text.now (lit< tt) c.split-line-items.ensures.text c.split-line-items.ensures.has_more c.split-line-items.ensures.pattern)) c.lines.yielded _ c.lines.yielded_by _ _ c.in-Some.line c.in-Some.is c.next.ensures.steps in
    let next = room_next (slice_split (λ b. b == 10) c.args.text.now) (length c.lines.yielded) c.in-Some.line.now turn in
    let fits : c.lines.start + length c.in-Some.line.now + 1 ≤ c.args.from + length c.args.text.now + 1 = omega (arith, c.lines.invariant.1, next) in
    omega (arith, c.requires, fits)

pub overflow_add-start : goal.overflow_add-start
overflow_add-start c =
    let turn = YieldsList-turn (YieldsList-at c.into_iter-line-iterator.ensures.into_iter_gives (YieldsList-from_str_split 10 c.args.text.now (lit< tt) c.split-line-items.ensures.text c.split-line-items.ensures.has_more c.split-line-items.ensures.pattern)) c.lines.yielded _ c.lines.yielded_by _ _ c.in-Some.line c.in-Some.is c.next.ensures.steps in
    let next = room_next (slice_split (λ b. b == 10) c.args.text.now) (length c.lines.yielded) c.in-Some.line.now turn in
    let fits : c.lines.start + length c.in-Some.line.now + 1 ≤ c.args.from + length c.args.text.now + 1 = omega (arith, c.lines.invariant.1, next) in
    omega (arith, c.requires, fits)

pub lines-preserved : goal.lines-preserved
lines-preserved c =
    let turn = YieldsList-turn (YieldsList-at c.into_iter-line-iterator.ensures.into_iter_gives (YieldsList-from_str_split 10 c.args.text.now (lit< tt) c.split-line-items.ensures.text c.split-line-items.ensures.has_more c.split-line-items.ensures.pattern)) c.lines.yielded _ c.lines.yielded_by _ _ c.in-Some.line c.in-Some.is c.next.ensures.steps in
    let next = room_next (slice_split (λ b. b == 10) c.args.text.now) (length c.lines.yielded) c.in-Some.line.now turn in
    rw length_push (
      fold_next read_next (try_fold read_next (file_value c.args.file.now, c.args.from) (slice_split (λ b. b == 10) c.args.text.now)) (file_value c.lines.file, c.lines.start) (slice_split (λ b. b == 10) c.args.text.now) (length c.lines.yielded) c.in-Some.line.now (file_value c.read_line.new.file, c.lines.start + length c.in-Some.line.now + 1) c.lines.invariant.0 turn (ap (λ r. and_then r (λ g. Ok (g, c.lines.start + length c.in-Some.line.now + 1))) c.in-Ok.ensures.ok),
      omega (arith, c.lines.invariant.1, next),
    )

pub returns-in-Err-clause-err : goal.returns-in-Err-clause-err
returns-in-Err-clause-err c =
    let turn = YieldsList-turn (YieldsList-at c.into_iter-line-iterator.ensures.into_iter_gives (YieldsList-from_str_split 10 c.args.text.now (lit< tt) c.split-line-items.ensures.text c.split-line-items.ensures.has_more c.split-line-items.ensures.pattern)) c.lines.yielded _ c.lines.yielded_by _ _ c.in-Some.line c.in-Some.is c.next.ensures.steps in
    let step = then_tells (read_line (file_value c.lines.file) c.lines.start c.in-Some.line.now) (λ g. Ok (g, c.lines.start + length c.in-Some.line.now + 1)) c.in-Err.e c.in-Err.ensures.err in
    then_tells (try_fold read_next (file_value c.args.file.now, c.args.from) (slice_split (λ b. b == 10) c.args.text.now)) last_of c.in-Err.e (fold_tells read_next (try_fold read_next (file_value c.args.file.now, c.args.from) (slice_split (λ b. b == 10) c.args.text.now)) (file_value c.lines.file, c.lines.start) (slice_split (λ b. b == 10) c.args.text.now) (length c.lines.yielded) c.in-Some.line.now c.in-Err.e c.lines.invariant.0 turn step)

pub returns-clause-ok : goal.returns-clause-ok
returns-clause-ok c =
    let e = YieldsList-end (YieldsList-at c.into_iter-line-iterator.ensures.into_iter_gives (YieldsList-from_str_split 10 c.args.text.now (lit< tt) c.split-line-items.ensures.text c.split-line-items.ensures.has_more c.split-line-items.ensures.pattern)) c.lines.yielded _ c.lines.yielded_by _ _ c.in-None.is c.next.ensures.steps in
    ap (λ r. and_then r last_of) (fold_end read_next (try_fold read_next (file_value c.args.file.now, c.args.from) (slice_split (λ b. b == 10) c.args.text.now)) (file_value c.lines.file, c.lines.start) (slice_split (λ b. b == 10) c.args.text.now) (length c.lines.yielded) c.lines.invariant.0 (omega (arith, e.1)))
