use Rattle.std.proofs.Common.{◌≡◌, take, false}
use Rattle.std.specs.List.{list_any}
use Rattle.lrlex.specs.Lexing.{is_token}
use Rattle.lrlex.proofs.bound.has_token.Given as goal

abbrev pub invariant-rules : goal.invariant-rules
invariant-rules g l = list_any (is_token g.S.IndexStorage.number l.token) (take l.meaning-index l.meanings) ≡ false
