-- What a section says, with words as their bytes. L is the type of locations.
use Rattle.std.specs.Prelude.{ℕ, Bool, List, [], ◌∷◌, map, Option, option_map}
use Rattle.std.specs.String.{string_bytes}
use Rattle.std.specs.declared.string.String.{String}
use Rattle.std.specs.declared.alloc.Global.{Global}
use Rattle.cfg_sections.specs.declared.header.value.Namespaced.{Namespaced}
use Rattle.cfg_sections.specs.declared.header.value.Setting.{Setting, fold-Setting}
use Rattle.cfg_sections.specs.declared.header.value.Setting.TheOpen.{Setting-F}
use Rattle.cfg_sections.specs.declared.header.value.Value.{Value}
use Rattle.cfg_sections.specs.declared.header.value.Value.TheVariants as values

pub record WordText (L : Type 0) : Type 0 where
  pub text : List ℕ
  pub at : L

pub record PathText (L : Type 0) : Type 0 where
  pub namespace : Option (WordText L)
  pub member : WordText L

mutual
  pub data SettingText (L : Type 0) : Type 0 where
    unitary : PathText L → SettingText L
    construct : PathText L → PathText L → SettingText L
    num : ℕ → L → SettingText L
    quoted : List ℕ → L → SettingText L
    -- the items, and the locations of the two brackets
    array : ItemsText L → L → L → SettingText L

  -- items, from the first to the last
  pub data ItemsText (L : Type 0) : Type 0 where
    none : ItemsText L
    more : ItemsText L → SettingText L → ItemsText L

pub data ValueText (L : Type 0) : Type 0 where
  flag : Bool → L → ValueText L
  setting : SettingText L → ValueText L

module _ {L : Type 0} where
  abbrev pub word_text : String Global × L → WordText L
  word_text w = record { text = string_bytes w.0; at = w.1 }

  abbrev pub path_text : Namespaced L → PathText L
  path_text p = record { namespace = option_map word_text p.namespace; member = word_text p.member }

  -- these items, and behind them those of a list
  abbrev pub and_all : ItemsText L → List (SettingText L) → ItemsText L
  and_all items [] = items
  and_all items (s ∷ ss) = and_all (more items s) ss

  -- one level, with each item already seen as its text
  abbrev pub setting_step : Setting-F L (SettingText L) → SettingText L
  setting_step (Setting-F.Unitary p) = unitary (path_text p)
  setting_step (Setting-F.Constructor p q) = construct (path_text p) (path_text q)
  setting_step (Setting-F.Num n l) = num n l
  setting_step (Setting-F.String t l) = quoted (string_bytes t) l
  setting_step (Setting-F.Array items start end) = array (and_all none items.items) start end

  abbrev pub setting_text : Setting L → SettingText L
  setting_text = fold-Setting L (SettingText L) setting_step

  abbrev pub items_text : List (Setting L) → ItemsText L
  items_text items = and_all none (map setting_text items)

  abbrev pub value_text : Value L → ValueText L
  value_text (values.Flag b l) = flag b l
  value_text (values.Setting s) = setting (setting_text s)

  -- where a message about a setting points
  abbrev pub setting_primary : SettingText L → L
  setting_primary (unitary p) = p.member.at
  setting_primary (construct p q) = p.member.at
  setting_primary (num n l) = l
  setting_primary (quoted t l) = l
  setting_primary (array items start end) = start

  -- and about a value
  abbrev pub primary_of : ValueText L → L
  primary_of (flag b l) = l
  primary_of (setting s) = setting_primary s
