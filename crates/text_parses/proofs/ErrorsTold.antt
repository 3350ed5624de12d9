-- Errors that are told one after another.
use Rattle.std.proofs.Common.{◌≡◌, ℕ, ◌+◌, ◌<◌, Option, List, [], ◌∷◌, ◌++◌, length, take, get_or, sym, refl, subst}
use Rattle.std.proofs.lemmas.List.{take_more}
use Rattle.lrpar.specs.declared.parse_error.ParseError.{ParseError}
use Rattle.text_messages.specs.Places.{SourceValue}
use Rattle.text_parses.specs.Parses.{TellsError, TellsErrors, TextLexeme, placed}

-- one more, behind the others
tells_more : (source : SourceValue) (start : ℕ) (es : List (ParseError TextLexeme ℕ)) (e : ParseError TextLexeme ℕ) (a b c : Option (List ℕ)) → TellsErrors source start es a b → TellsError source (placed start e.lexeme.span) b c → TellsErrors source start (es ++ e ∷ []) a c
tells_more source start [] e a b c is t = let P : Option (List ℕ) → Type 0 = λ k. TellsError source (placed start e.lexeme.span) k c in (c, subst P is t, refl)
tells_more source start (x ∷ xs) e a b c (between, first, rest) t = (between, first, tells_more source start xs e between b c rest t)

pub tells_next : (source : SourceValue) (start : ℕ) (es : List (ParseError TextLexeme ℕ)) (i : ℕ) (e : ParseError TextLexeme ℕ) (a b c : Option (List ℕ)) → i < length es → e ≡ get_or es i e → TellsErrors source start (take i es) a b → TellsError source (placed start e.lexeme.span) b c → TellsErrors source start (take (i + 1) es) a c
tells_next source start es i e a b c lt is told t =
    let P : List (ParseError TextLexeme ℕ) → Type 0 = λ xs. TellsErrors source start xs a c in
    let Q : ParseError TextLexeme ℕ → Type 0 = λ x. TellsError source (placed start x.lexeme.span) b c in
    subst P (sym (take_more es i e lt)) (tells_more source start (take i es) (get_or es i e) a b c told (subst Q is t))
