-- Repairs in words.
use Rattle.std.specs.Prelude.{◌≡◌, ℕ, ◌+◌, List, [], ◌∷◌, ◌++◌, length, map, option_map, Option, None, Some, codes, if◌then◌else◌}
use Rattle.std.specs.Str.{bytes_eq}
use Rattle.lr_theory.specs.Repair.{Edit, insert, delete, keep}
use Rattle.cfg_numbered.specs.Value.{GrammarValue}
use Rattle.word_lines.specs.Words.{words, token_named}

abbrev pub insert_word : List ℕ
insert_word = codes "insert"

-- the edit of a word that stands alone
abbrev pub edit_alone : List ℕ → Option Edit
edit_alone word = if bytes_eq word (codes "delete") then Some delete else if bytes_eq word (codes "shift") then Some keep else None

-- an edit before others, where both are there
abbrev pub edit_before : Option Edit → Option (List Edit) → Option (List Edit)
edit_before None es = None
edit_before (Some e) None = None
edit_before (Some e) (Some es) = Some (e ∷ es)

-- the edits that these words say: `insert` says one with the name behind it
abbrev pub edits_said : GrammarValue → List (List ℕ) → Option (List Edit)
edits_said g [] = Some []
edits_said g (word ∷ []) = edit_before (edit_alone word) (Some [])
edits_said g (word ∷ name ∷ more) = if bytes_eq word insert_word then edit_before (option_map insert (token_named g name)) (edits_said g more) else edit_before (edit_alone word) (edits_said g (name ∷ more))

-- the edits of a line; None where it is no repair
abbrev pub repair_line : GrammarValue → List ℕ → Option (List Edit)
repair_line g line = edits_said g (map (λ w. w.text) (words line))

-- the line of this number, counted from one, is the first that is no repair
pub record IsFirstBadLine (g : GrammarValue) (lines : List (List ℕ)) (number : ℕ) : Type 0 where
  pub before : List (List ℕ)
  pub bad : List ℕ
  pub after : List (List ℕ)
  pub are_lines : lines ≡ before ++ bad ∷ after
  pub number_is : number ≡ length before + 1
  pub repairs : List (List Edit)
  pub are_repairs : map (repair_line g) before ≡ map Some repairs
  pub is_bad : repair_line g bad ≡ None
