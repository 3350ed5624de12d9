use Rattle.cfg_numbered.specs.Symbols.{sym_of}
use Rattle.lr_theory.specs.Itemset.{Goto, GotoLook}
use Rattle.state_table.specs.Sharing.{shared_core, GrowsBy}
use Rattle.lrtable.specs.Stepping.{ItemsBelow, LooksBelow}
use Rattle.lrtable.proofs.closures.moved_set.Given as goal

abbrev pub invariant-items : goal.invariant-items
invariant-items g l =
    let number = g.S.IndexStorage.number in
    let G = l.grm.grammar in
    let c = shared_core number l.set in
    GrowsBy number G.tokens (Goto G (ItemsBelow c l.k) (sym_of number l.symbol)) (GotoLook G (LooksBelow c l.k) (sym_of number l.symbol)) l.initial.moved l.moved
