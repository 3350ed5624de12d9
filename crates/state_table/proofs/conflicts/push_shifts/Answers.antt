use Rattle.std.proofs.Common.{◌<◌, length}
use Rattle.std.specs.String.{string_bytes}
use Rattle.table_theory.specs.Cells.{ShiftReduce}
use Rattle.state_table.specs.CellViews.{shift_of}
use Rattle.state_table.specs.ConflictTexts.{shift_line}
use Rattle.state_table.proofs.TextLines.{entry_is, line_put}
use Rattle.state_table.proofs.conflicts.push_shifts.Goals as goal

pub push_shift-requires-clause-token : goal.push_shift-requires-clause-token
push_shift-requires-clause-token g c =
    let v = c.args.grm.now in
    (entry_is (shift_of g.S.IndexStorage.number) c.args.entries.now c.entries.i c.index-entries-i.result c.entries-test.true c.index-entries-i.is (λ (e : ShiftReduce). (e.0 < v.grammar.tokens) × (e.1 < length v.grammar.productions)) c.requires).0

pub push_shift-requires-clause-production : goal.push_shift-requires-clause-production
push_shift-requires-clause-production g c =
    let v = c.args.grm.now in
    (entry_is (shift_of g.S.IndexStorage.number) c.args.entries.now c.entries.i c.index-entries-i.result c.entries-test.true c.index-entries-i.is (λ (e : ShiftReduce). (e.0 < v.grammar.tokens) × (e.1 < length v.grammar.productions)) c.requires).1

pub entries-preserved : goal.entries-preserved
entries-preserved g c = line_put (shift_of g.S.IndexStorage.number) c.args.entries.now c.entries.i c.index-entries-i.result c.entries-test.true c.index-entries-i.is (shift_line c.args.grm.now) (string_bytes c.args.text.now) (string_bytes c.entries.text) (string_bytes c.push_shift.new.text) c.entries.invariant c.in_ok-push_shift.ensures
