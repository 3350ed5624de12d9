use Rattle.std.proofs.Common.{refl}
use Rattle.cfg_numbered.specs.Symbols.{sym_of}
use Rattle.conflict_examples.proofs.SymbolLists.{same_more, same_all}
use Rattle.conflict_examples.proofs.symbols.same_each.Goals as goal

pub symbols-init : goal.symbols-init
symbols-init g c = refl

pub symbols-preserved : goal.symbols-preserved
symbols-preserved g c = same_more (sym_of g.S.IndexStorage.number) c.args.a.now c.args.b.now c.symbols.k c.index-a-k.result c.index-b-k.result c.symbols-test.true c.requires c.index-a-k.is c.index-b-k.is (c.if-not-same_symbol.ensures refl) c.symbols.invariant

pub returns : goal.returns
returns g c = λ _. same_all (sym_of g.S.IndexStorage.number) c.args.a.now c.args.b.now c.symbols.k c.symbols-test.false c.requires c.symbols.invariant
