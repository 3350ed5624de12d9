use Rattle.std.specs.String.{string_bytes}
use Rattle.cfg_theory.specs.Grammar.{InRange}
use Rattle.cfg_numbered.specs.Symbols.{sym_of}
use Rattle.state_table.specs.GraphTexts.{spaced}
use Rattle.state_table.proofs.TextLines.{entry_is, line_put}
use Rattle.state_table.proofs.graph_texts.push_symbols.Goals as goal

pub push_spaced-requires : goal.push_spaced-requires
push_spaced-requires g c = entry_is (sym_of g.S.IndexStorage.number) c.args.symbols.now c.symbols.i c.index-symbols-i.result c.symbols-test.true c.index-symbols-i.is (InRange c.args.grm.now.grammar) c.requires

pub symbols-preserved : goal.symbols-preserved
symbols-preserved g c = line_put (sym_of g.S.IndexStorage.number) c.args.symbols.now c.symbols.i c.index-symbols-i.result c.symbols-test.true c.index-symbols-i.is (spaced c.args.grm.now) (string_bytes c.args.text.now) (string_bytes c.symbols.text) (string_bytes c.push_spaced.new.text) c.symbols.invariant c.in_ok-push_spaced.ensures
