use Rattle.std.proofs.Common.{◌≡◌, length}
use Rattle.lrtable.specs.Closes.{Seeds, SeedsLook}
use Rattle.lrtable.specs.Opening.{Follows}
use Rattle.state_table.specs.CoreViews.{core_of_set}
use Rattle.lrtable.specs.Stepping.{ItemsBelow, LooksBelow}
use Rattle.lrtable.proofs.opening.Opening.seed.Given as goal

abbrev pub invariant-items : goal.invariant-items
invariant-items g l =
    record {
      room : length l.rest.first.bits ≡ l.grm.grammar.tokens;
      follows : Follows (Seeds l.grm.grammar (ItemsBelow (core_of_set g.S.IndexStorage.number l.set) l.k)) (SeedsLook l.grm.grammar (ItemsBelow (core_of_set g.S.IndexStorage.number l.set) l.k) (LooksBelow (core_of_set g.S.IndexStorage.number l.set) l.k))
          l.initial.self l.self l.initial.waiting l.waiting;
    }
