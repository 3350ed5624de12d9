-- What a section says, with each location replaced by another.
use Rattle.std.specs.Prelude.{◌≡◌, Some, option_map, if◌then◌else◌}
use Rattle.std.specs.Str.{bytes_eq}
use Rattle.std.specs.String.{string_bytes, string_cmp}
use Rattle.std.specs.declared.string.String.{String}
use Rattle.std.specs.declared.alloc.Global.{Global}
use Rattle.cfg_sections.specs.MarkMaps.{Marked, value_at, marks_at, unmarked}
use Rattle.cfg_sections.specs.SectionRepeats.{entry_text}
use Rattle.cfg_sections.specs.declared.markmap.MergeBehavior.TheVariants.{MutuallyExclusive}
use Rattle.cfg_sections.specs.declared.header.value.HeaderValue.{HeaderValue}
use Rattle.cfg_sections.specs.HeaderTexts.{WordText, PathText, SettingText, unitary, construct, num, quoted, array, ItemsText, none, more, ValueText, flag, setting}

module _ {L M : Type 0} (f : L → M) where
  abbrev pub map_word : WordText L → WordText M
  map_word w = record { text = w.text; at = f w.at }

  abbrev pub map_path : PathText L → PathText M
  map_path p = record { namespace = option_map map_word p.namespace; member = map_word p.member }

  abbrev mutual
    pub map_setting : SettingText L → SettingText M
    map_setting (unitary p) = unitary (map_path p)
    map_setting (construct p q) = construct (map_path p) (map_path q)
    map_setting (num n l) = num n (f l)
    map_setting (quoted t l) = quoted t (f l)
    map_setting (array items start end) = array (map_items items) (f start) (f end)

    pub map_items : ItemsText L → ItemsText M
    map_items none = none
    map_items (more items s) = more (map_items items) (map_setting s)

  abbrev pub map_value : ValueText L → ValueText M
  map_value (flag b l) = flag b (f l)
  map_value (setting s) = setting (map_setting s)

  abbrev pub map_entry : L × ValueText L → M × ValueText M
  map_entry e = (f e.0, map_value e.1)

  -- each key has its value with the locations replaced, and no mark
  pub record MapsHeader (old : Marked (String Global) (HeaderValue L)) (new : Marked (String Global) (HeaderValue M)) : Type 0 where
    pub value : (k : String Global) → option_map entry_text (value_at string_cmp new k) ≡ option_map map_entry (option_map entry_text (value_at string_cmp old k))
    pub marks : (k : String Global) → marks_at string_cmp new k ≡ unmarked
    pub default : new.default ≡ MutuallyExclusive

  -- the key has this value with the locations replaced, and all else stays
  pub record PutsMapped (old new : Marked (String Global) (HeaderValue M)) (key : String Global) (v : HeaderValue L) : Type 0 where
    pub value : (k : String Global) → option_map entry_text (value_at string_cmp new k) ≡ (if bytes_eq (string_bytes key) (string_bytes k) then Some (map_entry (entry_text v)) else option_map entry_text (value_at string_cmp old k))
    pub marks : (k : String Global) → marks_at string_cmp new k ≡ marks_at string_cmp old k
    pub default : new.default ≡ old.default
