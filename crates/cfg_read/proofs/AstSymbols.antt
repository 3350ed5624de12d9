-- Symbols of a tree, and what was read.
use Rattle.std.proofs.Common.{◌≡◌, List, [], ◌∷◌, map, None, refl, sym, ap, ◌∙◌}
use Rattle.cfg_read.specs.declared.yacc.parser.syntax.Symbol.{Symbol}
use Rattle.cfg_read.specs.declared.yacc.parser.syntax.Symbol.TheVariants.{Rule, Token}
use Rattle.cfg_read.specs.declared.yacc.parser.syntax.Alternative.{Alternative}
use Rattle.cfg_read.specs.declared.yacc.parser.syntax.Alternative.TheVariants as alternatives
use Rattle.cfg_read.specs.SyntaxTexts.{SymbolText}
use Rattle.cfg_read.specs.Asts.{expected_ast}
use Rattle.cfg_read.specs.AstModels.{ast_symbol_of, kept_of}
use Rattle.cfg_read.specs.SyntaxModels.{symbol_of, symbols_of, alternative_of}

-- one that is told by its quotes alone
pub by_quotes : (x : Symbol) → ast_symbol_of x ≡ expected_ast (symbol_of x)
by_quotes (Rule name span) = refl
by_quotes (Token name span) = refl

pub all_by_quotes : (xs : List Symbol) → map ast_symbol_of xs ≡ map expected_ast (symbols_of xs)
all_by_quotes [] = refl
all_by_quotes (x ∷ xs) = ap (λ s. s ∷ map ast_symbol_of xs) (by_quotes x) ∙ ap (λ l. expected_ast (symbol_of x) ∷ l) (all_by_quotes xs)

-- a copy without a `?`
pub plain_is : (x y : Symbol) → symbol_of y ≡ (let s : SymbolText = record (symbol_of x) { optional = None } in s) → ast_symbol_of y ≡ ast_symbol_of x
plain_is x y h = by_quotes y ∙ ap expected_ast h ∙ sym (by_quotes x)

-- the symbols of an alternative with symbols of a tree
pub kept_symbols : (a : Alternative) → map expected_ast (alternative_of a).symbols ≡ (kept_of a).symbols
kept_symbols (alternatives.Blank a) = refl
kept_symbols (alternatives.Single b) = sym (all_by_quotes b.value.symbols)
kept_symbols (alternatives.Plain b) = sym (all_by_quotes b.value.symbols.items)
kept_symbols (alternatives.Body b) = sym (all_by_quotes b.value.symbols.items)
