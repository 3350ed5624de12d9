use Rattle.std.proofs.Common.{◌≡◌, ◌<◌, ◌++◌, [], length, get_or}
use Rattle.std.specs.List.{All}
use Rattle.cfg_sentences.specs.TokenLists.{tokens_of}
use Rattle.cfg_sentences.specs.SharedLists.{stacked, turns}
use Rattle.cfg_sentences.proofs.sentences.shared_lists.write.Given as goal

abbrev pub invariant-turns : goal.invariant-turns
invariant-turns g l = record {
  within : All (λ k. k < length l.shared.lists) l.rest.items;
  list : tokens_of g.S.IndexStorage.number l.out.items ++ stacked l.shared.lists l.rest.items ≡ get_or l.shared.lists l.list [];
}

abbrev pub decreases-turns : goal.decreases-turns
decreases-turns g l = turns l.shared.lists l.rest.items
