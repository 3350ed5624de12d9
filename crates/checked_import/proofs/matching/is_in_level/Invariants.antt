-- None of the tokens so far is the one.
use Rattle.std.proofs.Common.{◌≡◌, drop, map}
use Rattle.std.specs.List.{list_any}
use Rattle.cfg_read.specs.SyntaxTexts.{SymbolText}
use Rattle.cfg_read.specs.SyntaxModels.{symbol_of}
use Rattle.checked_import.specs.Spelling.{spells}
use Rattle.checked_import.proofs.matching.is_in_level.Given as goal

abbrev pub invariant-tokens : goal.invariant-tokens
invariant-tokens l = list_any (λ (t : SymbolText). spells l.token t.word.text) (map symbol_of (drop l.symbol-index l.level.tokens.items)) ≡ list_any (λ (t : SymbolText). spells l.token t.word.text) (map symbol_of l.level.tokens.items)
