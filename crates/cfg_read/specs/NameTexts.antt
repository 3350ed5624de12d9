-- What a name of the program says.
use Rattle.std.specs.Prelude.{ℕ, Bool, List, map}
use Rattle.std.specs.Str.{bytes_eq}
use Rattle.cfg_read.specs.declared.yacc.name.Name.{Name}

-- its text, and whether a `?` was read right behind it
abbrev pub name_text : Name → List ℕ
name_text n = n.text

abbrev pub name_optional : Name → Bool
name_optional n = n.optional

abbrev pub texts_of : List Name → List (List ℕ)
texts_of ns = map name_text ns

abbrev pub same_text : Name → Name → Bool
same_text a b = bytes_eq (name_text a) (name_text b)
