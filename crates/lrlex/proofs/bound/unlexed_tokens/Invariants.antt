use Rattle.std.proofs.Common.{◌≡◌, not}
use Rattle.std.specs.List.{list_any}
use Rattle.lrlex.specs.Lexing.{numbers_below, is_token}
use Rattle.lrlex.proofs.bound.unlexed_tokens.Given as goal

abbrev pub invariant-tokens : goal.invariant-tokens
invariant-tokens g l = l.numbers.items ≡ numbers_below (λ t. not (list_any (is_token g.S.IndexStorage.number t) l.meanings)) l.token
