-- The kinds of grammars as values of a section: the kind that a value stands for, and the value of a kind.
use Rattle.std.specs.Prelude.{◌≡◌, ℕ, Bool, List, [], ◌∷◌, Option, Some, None, if◌then◌else◌}
use Rattle.std.specs.Str.{str_eq_ignore_ascii_case}
use Rattle.std.specs.Prelude.{Result, Ok, Err}
use Rattle.std.specs.String.{string_bytes}
use lib.Chars.{codes}
use Rattle.cfg_base.specs.SpanModel.{SpanModel}
use Rattle.cfg_base.specs.declared.span.Location.{Location}
use Rattle.cfg_base.specs.declared.span.Location.TheVariants as locations
use Rattle.cfg_sections.specs.declared.header.error.HeaderError.{HeaderError}
use Rattle.cfg_sections.specs.HeaderErrors.{kind_text, no_conversion}
use Rattle.cfg_sections.specs.HeaderTexts.{WordText, PathText, SettingText, unitary, construct, ValueText, flag, setting, setting_primary}
use Rattle.cfg_read.specs.declared.yacc.YaccKind.{YaccKind}
use Rattle.cfg_read.specs.declared.yacc.YaccKind.TheVariants as kinds
use Rattle.cfg_read.specs.declared.yacc.YaccOriginalActionKind.{YaccOriginalActionKind}
use Rattle.cfg_read.specs.declared.yacc.YaccOriginalActionKind.TheVariants as actions
use Rattle.cfg_read.specs.declared.yacc.kind.Misfit.{Misfit}
use Rattle.cfg_read.specs.declared.yacc.kind.KindError.{KindError}
use Rattle.cfg_read.specs.declared.yacc.kind.KindError.TheVariants as refusals

-- whether a text is this word, in whatever case
unfoldable pub is_word : List ℕ → List ℕ → Bool
is_word text word = str_eq_ignore_ascii_case text word

-- what a value stands for: a kind; or none, why not, and at which location
pub data Meaning (L : Type 0) : Type 0 where
  means : YaccKind → Meaning L
  unfit : List ℕ → L → Meaning L

-- the kinds without an argument, and the arguments of `Original`
unfoldable pub kind_named : List ℕ → Option YaccKind
kind_named text =
    if is_word text (codes "Grmtools") then Some kinds.Grmtools
    else (if is_word text (codes "Eco") then Some kinds.Eco
    else None)

unfoldable pub action_named : List ℕ → Option YaccOriginalActionKind
action_named text =
    if is_word text (codes "UserAction") then Some actions.UserAction
    else (if is_word text (codes "GenericParseTree") then Some actions.GenericParseTree
    else (if is_word text (codes "NoAction") then Some actions.NoAction
    else None))

module _ {L : Type 0} where
  -- The first word from the left that doesn't fit is told: a namespace where there is one, then its member.
  abbrev pub within : Option (WordText L) → List ℕ → Meaning L → Meaning L
  within None name m = m
  within (Some w) name m = if is_word w.text name then m else unfit (codes "Unknown namespace") w.at

  abbrev pub meaning_or : WordText L → Option YaccKind → Meaning L
  meaning_or w (Some k) = means k
  meaning_or w None = unfit (codes "Unknown variant") w.at

  abbrev pub action_or : WordText L → Option YaccOriginalActionKind → Meaning L
  action_or w (Some a) = means (kinds.Original a)
  action_or w None = unfit (codes "Unknown variant") w.at

  abbrev pub argument_meaning : PathText L → Meaning L
  argument_meaning p = within p.namespace (codes "YaccOriginalActionKind") (action_or p.member (action_named p.member.text))

  -- `Original` wants an argument, and the other kinds take none.
  abbrev pub alone_meaning : PathText L → Meaning L
  alone_meaning p = within p.namespace (codes "YaccKind") (meaning_or p.member (kind_named p.member.text))

  abbrev pub applied_meaning : PathText L → PathText L → Meaning L
  applied_meaning p q = within p.namespace (codes "YaccKind") (if is_word p.member.text (codes "Original") then argument_meaning q else unfit (codes "Unknown variant") p.member.at)

  abbrev pub setting_meaning : SettingText L → Meaning L
  setting_meaning (unitary p) = alone_meaning p
  setting_meaning (construct p q) = applied_meaning p q
  setting_meaning s = unfit (codes "Cannot convert to YaccKind") (setting_primary s)

  abbrev pub meaning_of : ValueText L → Meaning L
  meaning_of (setting s) = setting_meaning s
  meaning_of (flag b l) = unfit (codes "Cannot convert to YaccKind") l

-- a location, with its words as bytes
pub data LocationText : Type 0 where
  in_text : SpanModel → LocationText
  on_command_line : LocationText
  elsewhere : List ℕ → LocationText

abbrev pub location_text : Location → LocationText
location_text (locations.Span at) = in_text at
location_text locations.CommandLine = on_command_line
location_text (locations.Other words) = elsewhere (string_bytes words)

-- the value of a kind: each word in its namespace
abbrev pub kind_word : List ℕ → WordText LocationText
kind_word word = record { text = word; at = elsewhere (codes "YaccKind") }

abbrev pub kind_path : List ℕ → List ℕ → PathText LocationText
kind_path namespace word = record { namespace = Some (kind_word namespace); member = kind_word word }

abbrev pub action_name : YaccOriginalActionKind → List ℕ
action_name actions.UserAction = codes "UserAction"
action_name actions.GenericParseTree = codes "GenericParseTree"
action_name actions.NoAction = codes "NoAction"

abbrev pub kind_setting : YaccKind → SettingText LocationText
kind_setting (kinds.Original a) = construct (kind_path (codes "YaccKind") (codes "Original")) (kind_path (codes "YaccOriginalActionKind") (action_name a))
kind_setting kinds.Grmtools = unitary (kind_path (codes "YaccKind") (codes "Grmtools"))
kind_setting kinds.Eco = unitary (kind_path (codes "YaccKind") (codes "Eco"))

abbrev pub value_of : YaccKind → ValueText LocationText
value_of k = setting (kind_setting k)

-- what the code finds
module _ {L : Type 0} where
  abbrev pub misfit_meaning : Misfit L → Meaning L
  misfit_meaning m = unfit m.why.now m.location.now

  abbrev pub found_meaning : Result YaccKind (Misfit L) → Meaning L
  found_meaning (Ok k) = means k
  found_meaning (Err m) = misfit_meaning m

  abbrev pub or_misfit : Option (Misfit L) → Meaning L → Meaning L
  or_misfit None m = m
  or_misfit (Some misfit) m = misfit_meaning misfit

  -- the error of a value that stands for no kind: why not, at a clone of the location
  pub record RefusesKind (is_clone : L → L → Type 0) (meaning : Meaning L) (e : HeaderError L) : Type 0 where
    pub why : List ℕ
    pub location : L
    pub at : L
    pub is_unfit : meaning ≡ unfit why location
    pub kind : kind_text e.kind ≡ no_conversion (codes "YaccKind") why
    pub locations : e.locations.items ≡ at ∷ []
    pub clone : is_clone location at

  abbrev pub IsKindError : (L → L → Type 0) → Meaning L → KindError L → Type 0
  IsKindError is_clone meaning (refusals.Memory e) = Unit {0}
  IsKindError is_clone meaning (refusals.Invalid e) = RefusesKind is_clone meaning e
