-- None of the tokens so far is the mark.
use Rattle.std.proofs.Common.{◌≡◌, drop}
use Rattle.std.specs.List.{list_any}
use Rattle.bison_rules.specs.Pieces.{is}
use Rattle.bison_rules.specs.Models.{tokens_of}
use Rattle.bison_rules.proofs.tokens.has_mark.Given as goal

abbrev pub invariant-tokens : goal.invariant-tokens
invariant-tokens l = list_any (is l.mark) (tokens_of (drop l.token-index l.tokens)) ≡ list_any (is l.mark) (tokens_of l.tokens)
