-- Where a text names its rules and tokens, and which of these places name the same thing.
use Rattle.std.specs.Prelude.{All, ◌≡◌, ℕ, Bool, true, false, not, ◌&&◌, ◌||◌, ◌==◌, nat_le, List, [], ◌∷◌, ◌++◌, map, filter, length, Option, None, Some, option_to_list, slice_range, if◌then◌else◌}
use Rattle.std.specs.List.{flat_map, list_any}
use Rattle.std.specs.Str.{bytes_eq}
use Rattle.cfg_base.specs.SpanModel.{SpanModel}
use Rattle.cfg_read.specs.SyntaxTexts.{WordText, SymbolText, AlternativeText, RuleText, LevelText, EppText, SyntaxText}
use Rattle.cfg_read.specs.Files.{TellsKind, TellsNoKind}
use Rattle.cfg_read.specs.declared.yacc.YaccKind.{YaccKind}
use Rattle.cfg_read.specs.declared.yacc.YaccKind.TheVariants.{Original}
use Rattle.cfg_read.specs.declared.yacc.YaccOriginalActionKind.TheVariants.{GenericParseTree}
use Rattle.grammar_index.specs.declared.occurrence.Heading.{Heading}
use Rattle.grammar_index.specs.declared.occurrence.Occurrence.{Occurrence}
use Rattle.grammar_index.specs.declared.occurrence.Role.{Role}
use Rattle.grammar_index.specs.declared.occurrence.Role.TheVariants.{Head, Start, Declared, Token, Bare}

abbrev pub at_span : Role → SpanModel → Occurrence
at_span role at = record { start = at.start; end = at.end; role = role }

abbrev pub at_word : Role → WordText → Occurrence
at_word role w = at_span role w.span

-- an item of a line of tokens
abbrev pub at_item : Role → SymbolText → Occurrence
at_item role s = at_span role s.word.span

-- a symbol of an alternative or of `%expect-unused`
abbrev pub role_of : Bool → Role
role_of is_quoted = if is_quoted then Token else Bare

abbrev pub at_symbol : SymbolText → Occurrence
at_symbol s = at_span (role_of s.is_quoted) s.word.span

abbrev pub in_alternative : AlternativeText → List Occurrence
in_alternative a = map at_symbol a.symbols ++ map (at_word Token) (option_to_list a.precedence)

abbrev pub in_rule : RuleText → List Occurrence
in_rule r = at_word Head r.name ∷ flat_map in_alternative r.alternatives

abbrev pub in_level : LevelText → List Occurrence
in_level l = map (at_item Token) l.tokens

abbrev pub in_line : List SymbolText → List Occurrence
in_line ss = map (at_item Token) ss

abbrev pub in_unused : List SymbolText → List Occurrence
in_unused ss = map at_symbol ss

abbrev pub at_epp : EppText → Occurrence
at_epp e = at_span Token e.token.span

-- all names of the declarations
abbrev pub in_names : SyntaxText → List Occurrence
in_names x = map (at_word Start) x.starts ++ map (at_item Declared) x.tokens

abbrev pub in_levels : SyntaxText → List Occurrence
in_levels x = flat_map in_level x.levels ++ flat_map in_line x.avoid_insert

abbrev pub in_lines : SyntaxText → List Occurrence
in_lines x = flat_map in_line x.implicit_tokens ++ flat_map in_unused x.expect_unused

abbrev pub in_lists : SyntaxText → List Occurrence
in_lists x = in_levels x ++ in_lines x

abbrev pub in_words : SyntaxText → List Occurrence
in_words x = in_names x ++ in_lists x

abbrev pub in_declarations : SyntaxText → List Occurrence
in_declarations x = in_words x ++ map at_epp x.epp

-- all names of a text
abbrev pub occurrences_of : SyntaxText → List Occurrence
occurrences_of x = in_declarations x ++ flat_map in_rule x.rules

-- whether it is a part of a text of this length
abbrev pub is_within : ℕ → Occurrence → Bool
is_within len o = nat_le o.start o.end && nat_le o.end len

-- what is there; nothing where it is no part of the text
abbrev pub spelled : List ℕ → Occurrence → List ℕ
spelled text o = if is_within (length text) o then slice_range text o.start o.end else []

abbrev pub spells : List ℕ → List ℕ → Occurrence → Bool
spells text name o = bytes_eq name (spelled text o)

abbrev pub is_declared_role : Role → Bool
is_declared_role Declared = true
is_declared_role _ = false

-- whether `%token` declares this name there
abbrev pub declares : List ℕ → List ℕ → Occurrence → Bool
declares text name o = is_declared_role o.role && spells text name o

abbrev pub role_means_token : Role → Bool → Bool
role_means_token Head is_declared = false
role_means_token Start is_declared = false
role_means_token Declared is_declared = true
role_means_token Token is_declared = true
role_means_token Bare is_declared = is_declared

-- Whether a name is a token's there: without quotes in an alternative, if `%token` declares it.
abbrev pub means_token : List ℕ → List Occurrence → Occurrence → Bool
means_token text os o = role_means_token o.role (list_any (declares text (spelled text o)) os)

abbrev pub bool_eq : Bool → Bool → Bool
bool_eq true b = b
bool_eq false b = not b

-- whether a place names what is asked for: the same name, as a token or as a rule
abbrev pub names_it : List ℕ → List ℕ → Bool → Bool → Occurrence → Bool
names_it text name is_declared is_token o = bool_eq is_token (role_means_token o.role is_declared) && spells text name o

-- all places that name what is named at o
abbrev pub references_of : List ℕ → List Occurrence → Occurrence → List Occurrence
references_of text os o = filter (names_it text (spelled text o) (list_any (declares text (spelled text o)) os) (means_token text os o)) os

-- the heading of a rule, or a `%token`
abbrev pub is_definition_role : Role → Bool
is_definition_role Head = true
is_definition_role Declared = true
is_definition_role _ = false

abbrev pub is_definition : Occurrence → Bool
is_definition o = is_definition_role o.role

abbrev pub definitions_of : List ℕ → List Occurrence → Occurrence → List Occurrence
definitions_of text os o = filter is_definition (references_of text os o)

-- from its first byte up to the one behind it: where a cursor is on it
abbrev pub touches : ℕ → Occurrence → Bool
touches offset o = nat_le o.start offset && nat_le offset o.end

-- a heading with its alternatives is a part of a text of this length
abbrev pub is_heading : ℕ → Heading → Bool
is_heading len h = is_within len h.name && (nat_le h.name.end h.end && nat_le h.end len)

abbrev pub AreWithin : ℕ → List Occurrence → Type 0
AreWithin len os = All (λ o. is_within len o ≡ true) os

abbrev pub AreHeadings : ℕ → List Heading → Type 0
AreHeadings len hs = All (λ h. is_heading len h ≡ true) hs

-- all that an index has is in the text
abbrev pub IsIndexIn : ℕ → List Occurrence → List Heading → Type 0
IsIndexIn len os hs = AreWithin len os × AreHeadings len hs

-- the kind that the section names, else that of Yacc's own syntax with trees
pub data HasKind (text : List ℕ) (kind : YaccKind) : Type 0 where
  named : TellsKind text kind → HasKind text kind
  unnamed : TellsNoKind text → kind ≡ Original GenericParseTree → HasKind text kind
