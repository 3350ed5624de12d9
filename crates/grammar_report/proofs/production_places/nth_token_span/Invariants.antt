use Rattle.std.proofs.Common.{◌≡◌, drop, map, slice_get}
use Rattle.cfg_read.specs.AstModels.{ast_symbol_of}
use Rattle.grammar_report.specs.Places.{token_places}
use Rattle.grammar_report.proofs.production_places.nth_token_span.Given as goal

-- the token that is looked for is among the symbols that are left
abbrev pub invariant-symbols : goal.invariant-symbols
invariant-symbols l = slice_get (token_places (map ast_symbol_of (drop l.symbol-index l.symbols))) l.left ≡ slice_get (token_places (map ast_symbol_of l.symbols)) l.number
