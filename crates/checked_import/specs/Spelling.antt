-- How the kit's syntax spells a symbol of a Bison file.
use Rattle.std.specs.Prelude.{ℕ, ◌-◌, Bool, true, false, not, ◌&&◌, ◌||◌, ◌==◌, List, [], ◌∷◌, ◌++◌, map, drop, take, length, nat_le, slice_range, Option, None, Some, if◌then◌else◌}
use Rattle.std.specs.Str.{bytes_eq}
use lib.Chars.{codes}
use Rattle.bison_rules.specs.Characters.{code_of}
use Rattle.bison_rules.specs.Pieces.{Symbol}

-- two lists of one length, each pair of which passes
abbrev pub all_pairs : {A B : Type 0} → (A → B → Bool) → List A → List B → Bool
all_pairs f [] [] = true
all_pairs f [] (y ∷ ys) = false
all_pairs f (x ∷ xs) [] = false
all_pairs f (x ∷ xs) (y ∷ ys) = f x y && all_pairs f xs ys

-- a byte of a name, with `_` for `-`
abbrev pub is_byte_for : ℕ → ℕ → Bool
is_byte_for b c = if b == 45 then c == 95 else c == b

-- without the first and the last byte
abbrev pub inner : List ℕ → List ℕ
inner t = slice_range t 1 (length t - 1)

abbrev pub is_code : ℕ → Option ℕ → Bool
is_code c None = false
is_code c (Some d) = c == d

-- a character: between quotes as in C, or with its own quotes between others
abbrev pub spells_character : List ℕ → List ℕ → Bool
spells_character [] t = false
spells_character (c ∷ more) t = is_code c (code_of t) || is_code c (code_of (inner t))

-- a string: between quotes, or with its own between others
abbrev pub spells_string : List ℕ → List ℕ → Bool
spells_string s t = bytes_eq t s || bytes_eq t (inner s)

-- a text in two parts
abbrev pub is_joined : List ℕ → List ℕ → List ℕ → Bool
is_joined first second t = nat_le (length first) (length t) && bytes_eq (take (length first) t) first && bytes_eq (drop (length first) t) second

-- an action in the middle, by its number
abbrev pub spells_action : List ℕ → List ℕ → Bool
spells_action number t = is_joined (codes "mid_") number t || is_joined (codes "midrule_") number t || is_joined (codes "action_") number t

abbrev pub spells : Symbol → List ℕ → Bool
spells [] t = false
spells (b ∷ bs) t =
    if b == 39 then spells_character bs t
    else (if b == 34 then spells_string (b ∷ bs) t
    else (if b == 36 then spells_action (drop 1 bs) t
    else all_pairs is_byte_for (b ∷ bs) t))

abbrev pub is_quoted : Symbol → Bool
is_quoted [] = false
is_quoted (b ∷ bs) = b == 39 || b == 34
