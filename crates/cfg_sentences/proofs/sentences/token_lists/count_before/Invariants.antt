use Rattle.std.proofs.Common.{ℕ, ◌<◌, ◌≤◌, ◌-◌, [], length, get_or}
use Rattle.cfg_theory.specs.Cost.{IsBefore}
use Rattle.cfg_sentences.specs.TokenLists.{tokens_of, lists_of}
use Rattle.cfg_sentences.proofs.sentences.token_lists.count_before.Given as goal

abbrev pub invariant-halves : goal.invariant-halves
invariant-halves g l = record {
  order : l.low ≤ l.high;
  within : l.high ≤ length l.lists;
  before : (k : ℕ) → k < l.low → IsBefore (get_or (lists_of g.S.IndexStorage.number l.lists) k []) (tokens_of g.S.IndexStorage.number l.list);
  behind : (k : ℕ) → l.high ≤ k → k < length l.lists → IsBefore (get_or (lists_of g.S.IndexStorage.number l.lists) k []) (tokens_of g.S.IndexStorage.number l.list) → ⊥;
}

abbrev pub decreases-halves : goal.decreases-halves
decreases-halves g l = l.high - l.low
