use Rattle.cfg_sentences.specs.TokenLists.{lists_of, AddsLists}
use Rattle.cfg_sentences.proofs.Dictionary.{IsOneBelow}
use Rattle.cfg_sentences.proofs.sentences.token_lists.insert_all.Given as goal

abbrev pub invariant-lists : goal.invariant-lists
invariant-lists g l = AddsLists (IsOneBelow (lists_of g.S.IndexStorage.number l.lists) l.index) l.initial.own l.own l.changed
