use Rattle.std.proofs.Common.{◌<◌, length}
use Rattle.std.specs.String.{string_bytes}
use Rattle.table_theory.specs.Cells.{ReduceReduce}
use Rattle.state_table.specs.CellViews.{pair_of}
use Rattle.state_table.specs.ConflictTexts.{pair_line}
use Rattle.state_table.proofs.TextLines.{entry_is, line_put}
use Rattle.state_table.proofs.conflicts.push_pairs.Goals as goal

pub push_pair-requires-clause-first : goal.push_pair-requires-clause-first
push_pair-requires-clause-first g c =
    let v = c.args.grm.now in
    (entry_is (pair_of g.S.IndexStorage.number) c.args.entries.now c.entries.i c.index-entries-i.result c.entries-test.true c.index-entries-i.is (λ (e : ReduceReduce). (e.1 < length v.grammar.productions) × (e.2 < length v.grammar.productions)) c.requires).0

pub push_pair-requires-clause-second : goal.push_pair-requires-clause-second
push_pair-requires-clause-second g c =
    let v = c.args.grm.now in
    (entry_is (pair_of g.S.IndexStorage.number) c.args.entries.now c.entries.i c.index-entries-i.result c.entries-test.true c.index-entries-i.is (λ (e : ReduceReduce). (e.1 < length v.grammar.productions) × (e.2 < length v.grammar.productions)) c.requires).1

pub entries-preserved : goal.entries-preserved
entries-preserved g c = line_put (pair_of g.S.IndexStorage.number) c.args.entries.now c.entries.i c.index-entries-i.result c.entries-test.true c.index-entries-i.is (pair_line c.args.grm.now) (string_bytes c.args.text.now) (string_bytes c.entries.text) (string_bytes c.push_pair.new.text) c.entries.invariant c.in_ok-push_pair.ensures
