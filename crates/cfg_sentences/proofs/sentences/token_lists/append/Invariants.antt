use Rattle.std.proofs.Common.{◌≡◌, ◌++◌, take}
use Rattle.cfg_sentences.proofs.sentences.token_lists.append.Given as goal

abbrev pub invariant-tokens : goal.invariant-tokens
invariant-tokens g l = l.list.items ≡ l.initial.list.items ++ take l.index l.tokens
