-- Errors of a parse as a list of marks.
use Rattle.std.specs.Prelude.{ℕ, ◌-◌, ◌^◌, List, ◌∷◌, ◌++◌, map}
use Rattle.std.specs.List.{flat_map}
use Rattle.lrlex.specs.declared.lex_error.LRLexError.{LRLexError}
use Rattle.lrpar.specs.declared.parse_error.ParseError.{ParseError}
use Rattle.parse_trees.specs.declared.parse_repair.ParseRepair.{ParseRepair}
use Rattle.parse_trees.specs.declared.parse_repair.ParseRepair.TheVariants as steps
use Rattle.lrkit_c.specs.Nodes.{TextLexeme}
use Rattle.lrkit_c.specs.declared.marks.LrkitMark.{LrkitMark}

-- a mark at a lexeme
abbrev pub lexeme_mark : ℕ → TextLexeme → LrkitMark
lexeme_mark kind x = record { kind = kind; token = x.tok_id; start = x.span.start; end = x.span.end }

-- a mark of a token, at no part of the text
abbrev pub token_mark : ℕ → ℕ → LrkitMark
token_mark kind t = record { kind = kind; token = t; start = 0; end = 0 }

-- an error of the lexer
abbrev pub fault_mark : LRLexError → LrkitMark
fault_mark e = record { kind = 0; token = 2 ^ 32 - 1; start = e.span.start; end = e.span.end }

-- a step: an insertion is 3, a deletion 4, a shift 5
abbrev pub step_mark : ParseRepair TextLexeme ℕ → LrkitMark
step_mark (steps.Insert t) = token_mark 3 t.0
step_mark (steps.Delete x) = lexeme_mark 4 x
step_mark (steps.Shift x) = lexeme_mark 5 x

-- a repair: its beginning is 2, and its steps come behind it
abbrev pub repair_marks : List (ParseRepair TextLexeme ℕ) → List LrkitMark
repair_marks ss = token_mark 2 (2 ^ 32 - 1) ∷ map step_mark ss

-- an error is 0; behind it are the tokens that may come there, each 1, and its repairs in their order
abbrev pub error_marks : List ℕ → ParseError TextLexeme ℕ → List LrkitMark
error_marks tokens e = lexeme_mark 0 e.lexeme ∷ (map (token_mark 1) tokens ++ flat_map (λ r. repair_marks r.items) e.repairs.items)
