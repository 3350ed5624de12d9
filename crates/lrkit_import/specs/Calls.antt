-- What the arguments say: `FILE`, `FILE -o OUT` or `-o OUT FILE`.
use Rattle.std.specs.Prelude.{ℕ, Bool, true, not, ◌&&◌, ◌==◌, List, [], ◌∷◌, Option, None, Some, option_map, string_bytes, if◌then◌else◌}
use Rattle.std.specs.Str.{bytes_eq}
use lib.Chars.{codes}
use Rattle.lrkit_import.specs.declared.words.Words.{Words}

pub record Call : Type 0 where
  pub file : List ℕ
  pub out : Option (List ℕ)

abbrev pub words_of : Words → Call
words_of w = record { file = string_bytes w.file; out = option_map string_bytes w.out }

abbrev pub is_path : List ℕ → Bool
is_path [] = true
is_path (b ∷ bs) = not (b == 45)

abbrev pub is_out : List ℕ → Bool
is_out w = bytes_eq w (codes "-o")

abbrev pub call_of_one : List ℕ → Option Call
call_of_one f = if is_path f then Some (record { file = f; out = None }) else None

abbrev pub call_of_three : List ℕ → List ℕ → List ℕ → Option Call
call_of_three a b c =
    if is_out a && is_path c then Some (record { file = c; out = Some b })
    else (if is_path a && is_out b then Some (record { file = a; out = Some c })
    else None)

-- the first word is the program's name
abbrev pub call_in : List (List ℕ) → Option Call
call_in (name ∷ f ∷ []) = call_of_one f
call_in (name ∷ a ∷ b ∷ c ∷ []) = call_of_three a b c
call_in _ = None
