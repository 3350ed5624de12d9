use Rattle.std.proofs.Common.{◌<◌, length}
use Rattle.std.specs.String.{string_bytes}
use Rattle.table_theory.specs.Cells.{ShiftReduce}
use Rattle.state_table.specs.CellViews.{shift_of}
use Rattle.lrpar_diagnostics.specs.ConflictTexts.{shift_text}
use Rattle.lrpar_diagnostics.proofs.TextLines.{entry_is, line_put}
use Rattle.lrpar_diagnostics.proofs.diagnostics.SpannedDiagnosticFormatter.push_shifts.Goals as goal

pub push_shift-requires : goal.push_shift-requires
push_shift-requires g c =
    let v = c.args.read.now.grm.now in
    (entry_is (shift_of g.S.IndexStorage.number) c.args.entries.now c.entries.i c.index-entries-i.result c.entries-test.true c.index-entries-i.is (λ (e : ShiftReduce). (e.0 < v.grammar.tokens) × (e.1 < length v.grammar.productions)) c.requires).1

pub entries-preserved : goal.entries-preserved
entries-preserved g c = line_put (shift_of g.S.IndexStorage.number) c.args.entries.now c.entries.i c.index-entries-i.result c.entries-test.true c.index-entries-i.is (shift_text c.args.self.now c.args.read.now.grm.now c.args.read.now.ast.now c.args.read.now.dollar.now) (string_bytes c.args.text.now) (string_bytes c.entries.text) (string_bytes c.push_shift.new.text) c.entries.invariant c.in_ok-push_shift.ensures
