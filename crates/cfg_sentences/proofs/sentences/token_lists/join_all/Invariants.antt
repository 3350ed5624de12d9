use Rattle.std.proofs.Common.{◌≡◌, take}
use Rattle.cfg_sentences.specs.TokenLists.{lists_of, joined}
use Rattle.cfg_sentences.proofs.sentences.token_lists.join_all.Given as goal

abbrev pub invariant-firsts : goal.invariant-firsts
invariant-firsts g l = lists_of g.S.IndexStorage.number l.out.items ≡ joined (lists_of g.S.IndexStorage.number (take l.index l.firsts)) (lists_of g.S.IndexStorage.number l.rests)
