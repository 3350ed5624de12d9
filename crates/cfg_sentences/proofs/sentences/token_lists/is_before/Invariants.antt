use Rattle.std.proofs.Common.{◌≤◌, ◌↔◌, drop, length}
use Rattle.cfg_theory.specs.Cost.{IsBefore}
use Rattle.cfg_sentences.specs.TokenLists.{tokens_of}
use Rattle.cfg_sentences.proofs.Dictionary.{Before}
use Rattle.cfg_sentences.proofs.sentences.token_lists.is_before.Given as goal

abbrev pub invariant-indices : goal.invariant-indices
invariant-indices g l = record {
  within : l.index ≤ length l.b;
  rests : Before (drop l.index (tokens_of g.S.IndexStorage.number l.a)) (drop l.index (tokens_of g.S.IndexStorage.number l.b)) ↔ IsBefore (tokens_of g.S.IndexStorage.number l.a) (tokens_of g.S.IndexStorage.number l.b);
}
