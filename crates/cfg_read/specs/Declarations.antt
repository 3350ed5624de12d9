-- The declarations, by their words.
use Rattle.std.specs.Prelude.{ℕ, Bool, true, false, List, Option, None, Some, if◌then◌else◌}
use Rattle.cfg_base.specs.declared.precedence.AssocKind.TheVariants as assoc
use Rattle.cfg_read.specs.declared.yacc.YaccKind.{YaccKind}
use Rattle.cfg_read.specs.declared.yacc.YaccKind.TheVariants as kinds
use Rattle.cfg_read.specs.declared.yacc.parser.declaration.Count.TheVariants as counts
use Rattle.cfg_read.specs.declared.yacc.parser.declaration.Declaration.{Declaration}
use Rattle.cfg_read.specs.declared.yacc.parser.declaration.Declaration.TheVariants as declarations
use Rattle.cfg_read.specs.declared.yacc.parser.declaration.LineList.TheVariants as lists
use Rattle.cfg_read.specs.declared.yacc.parser.declaration.LineText.TheVariants as texts
use Rattle.cfg_read.specs.Bytes.{is}

unfoldable pub declaration_named : List ℕ → Option Declaration
declaration_named w =
    if is w "token" then Some declarations.Token
    else (if is w "left" then Some (declarations.Items (lists.Level assoc.Left))
    else (if is w "right" then Some (declarations.Items (lists.Level assoc.Right))
    else (if is w "nonassoc" then Some (declarations.Items (lists.Level assoc.Nonassoc))
    else (if is w "avoid_insert" then Some (declarations.Items lists.AvoidInsert)
    else (if is w "implicit_tokens" then Some (declarations.Items lists.ImplicitTokens)
    else (if is w "expect-unused" then Some (declarations.Items lists.ExpectUnused)
    else (if is w "start" then Some declarations.Start
    else (if is w "expect" then Some (declarations.Number counts.Expect)
    else (if is w "expect-rr" then Some (declarations.Number counts.ExpectRR)
    else (if is w "epp" then Some declarations.Epp
    else (if is w "actiontype" then Some (declarations.Rest texts.ActionType)
    else (if is w "parse-param" then Some (declarations.Rest texts.ParseParam)
    else (if is w "parse-generics" then Some (declarations.Rest texts.ParseGenerics)
    else None)))))))))))))

abbrev pub is_grmtools : YaccKind → Bool
is_grmtools kinds.Grmtools = true
is_grmtools _ = false

abbrev pub is_eco : YaccKind → Bool
is_eco kinds.Eco = true
is_eco _ = false

abbrev pub is_original : YaccKind → Bool
is_original (kinds.Original a) = true
is_original _ = false

-- `%implicit_tokens` is known in Eco alone, `%actiontype` in the original kinds alone.
abbrev pub knows : YaccKind → Declaration → Bool
knows kind (declarations.Items lists.ImplicitTokens) = is_eco kind
knows kind (declarations.Rest texts.ActionType) = is_original kind
knows kind _ = true

abbrev pub known : YaccKind → Option Declaration → Option Declaration
known kind None = None
known kind (Some d) = if knows kind d then Some d else None

-- the declaration of a word, if the kind has one
abbrev pub declaration_of : YaccKind → List ℕ → Option Declaration
declaration_of kind w = known kind (declaration_named w)
