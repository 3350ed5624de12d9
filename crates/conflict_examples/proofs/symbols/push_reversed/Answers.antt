use Rattle.cfg_numbered.specs.Symbols.{sym_of}
use Rattle.conflict_examples.proofs.SymbolLists.{turned_none, turned_more, turned_all}
use Rattle.conflict_examples.proofs.symbols.push_reversed.Goals as goal

pub symbols-init : goal.symbols-init
symbols-init g c = turned_none (sym_of g.S.IndexStorage.number) c.args.symbols.now c.args.list.now.items

pub symbols-preserved : goal.symbols-preserved
symbols-preserved g c = turned_more (sym_of g.S.IndexStorage.number) c.args.symbols.now c.args.list.now.items c.symbols.list.items c.push.new.self.items c.symbols.back c.index-symbols-symbols.result c.symbols-test.true c.index-symbols-symbols.is c.in_ok-push.ensures.items c.symbols.invariant

pub returns : goal.returns
returns g c = turned_all (sym_of g.S.IndexStorage.number) c.args.symbols.now c.args.list.now.items c.symbols.list.items c.symbols.back c.symbols-test.false c.symbols.invariant
