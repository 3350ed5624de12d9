-- When a name may be replaced by another one in all its places.
use Rattle.std.specs.Prelude.{ℕ, ◌-◌, Bool, true, false, not, ◌&&◌, ◌||◌, ◌==◌, nat_lt, List, [], ◌∷◌, length, Option, None, Some, slice_get, if◌then◌else◌}
use Rattle.std.specs.List.{list_any}
use Rattle.std.specs.Str.{bytes_eq}
use Rattle.cfg_base.specs.Text.{is_letter, is_digit}
use Rattle.grammar_index.specs.declared.occurrence.Occurrence.{Occurrence}
use Rattle.grammar_index.specs.declared.renaming.RenameFault.{RenameFault}
use Rattle.grammar_index.specs.declared.renaming.RenameFault.TheVariants.{NoName, Taken}
use Rattle.grammar_index.specs.Occurrences.{references_of, spelled, spells}

-- a letter, `_` or `.`, and behind the first byte a digit too
abbrev pub begins_name : ℕ → Bool
begins_name b = is_letter b || (b == 95 || b == 46)

abbrev pub is_in_name : ℕ → Bool
is_in_name b = begins_name b || is_digit b

abbrev pub is_no_name_byte : ℕ → Bool
is_no_name_byte b = not (is_in_name b)

abbrev pub begins_there : Option ℕ → Bool
begins_there None = false
begins_there (Some b) = begins_name b

abbrev pub is_name : List ℕ → Bool
is_name bs = begins_there (slice_get bs 0) && not (list_any is_no_name_byte bs)

abbrev pub is_quote : ℕ → Bool
is_quote b = b == 39 || b == 34

abbrev pub is_unquotable : ℕ → Bool
is_unquotable b = is_quote b || (b == 10 || b == 13)

-- what may be between quotes of either kind
abbrev pub is_quotable : List ℕ → Bool
is_quotable bs = nat_lt 0 (length bs) && not (list_any is_unquotable bs)

abbrev pub is_quote_there : Option ℕ → Bool
is_quote_there None = false
is_quote_there (Some b) = is_quote b

-- whether a place isn't between quotes
abbrev pub is_bare : List ℕ → Occurrence → Bool
is_bare text o = not (is_quote_there (slice_get text (o.start - 1)) && is_quote_there (slice_get text o.end))

-- whether all these places may have the name
abbrev pub fits : List ℕ → List Occurrence → List ℕ → Bool
fits text places name = is_name name || (is_quotable name && not (list_any (is_bare text) places))

-- why what is named at o can't have another name, if it can't
abbrev pub fault_of : List ℕ → List Occurrence → Occurrence → List ℕ → Option RenameFault
fault_of text os o name =
    if bytes_eq name (spelled text o) then None
    else (if not (fits text (references_of text os o) name) then Some NoName
    else (if list_any (spells text name) os then Some Taken
    else None))
