use Rattle.std.proofs.Common.{◌≡◌, ◌++◌, map, take}
use Rattle.cfg_sentences.specs.TokenLists.{tokens_of, lists_of}
use Rattle.cfg_sentences.proofs.sentences.token_lists.put_before.Given as goal

abbrev pub invariant-rests : goal.invariant-rests
invariant-rests g l = lists_of g.S.IndexStorage.number l.out.items ≡ lists_of g.S.IndexStorage.number l.initial.out.items ++ map (λ v. tokens_of g.S.IndexStorage.number l.u ++ v) (lists_of g.S.IndexStorage.number (take l.index l.rests))
