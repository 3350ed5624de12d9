use Rattle.std.proofs.Common.{◌+◌, [], get_or}
use Rattle.std.specs.List.{All}
use Rattle.cfg_sentences.specs.SharedLists.{HasTokens, AreRests, stacked, turns}
use Rattle.cfg_sentences.proofs.sentences.shared_order.goes_ahead.Given as goal

abbrev pub invariant-turns : goal.invariant-turns
invariant-turns g l = record {
  lefts : All (HasTokens l.shared.lists) l.lefts.items;
  rights : All (HasTokens l.shared.lists) l.rights.items;
  rests : AreRests (get_or l.shared.lists l.left []) (get_or l.shared.lists l.right []) (stacked l.shared.lists l.lefts.items) (stacked l.shared.lists l.rights.items);
}

abbrev pub decreases-turns : goal.decreases-turns
decreases-turns g l = turns l.shared.lists l.lefts.items + turns l.shared.lists l.rights.items
