-- The text of each kind of setting, and of a list with one more item.
use Rattle.std.proofs.Common.{◌≡◌, ℕ, List, [], ◌∷◌, ◌++◌, rules, refl, ◌∙◌, ap, Vec, Global}
use Rattle.std.specs.Prelude.{map}
use Rattle.std.specs.String.{string_bytes}
use Rattle.std.specs.declared.string.String.{String}
use Rattle.std.proofs.lemmas.List.{map_push}
use Rattle.cfg_sections.specs.declared.header.value.Namespaced.{Namespaced}
use Rattle.cfg_sections.specs.declared.header.value.Setting.{Setting, the_lemmas}
use Rattle.cfg_sections.specs.declared.header.value.Setting.TheVariants as settings
use Rattle.cfg_sections.specs.HeaderTexts.{SettingText, unitary, construct, num, quoted, array, ItemsText, more, and_all, setting_text, items_text, path_text}

module _ {L : Type 0} where
  pub unitary_text : (p : Namespaced L) → setting_text (settings.Unitary p) ≡ unitary (path_text p)
  unitary_text p = search (rules, the_lemmas)

  pub construct_text : (p q : Namespaced L) → setting_text (settings.Constructor p q) ≡ construct (path_text p) (path_text q)
  construct_text p q = search (rules, the_lemmas)

  pub num_text : (n : ℕ) (l : L) → setting_text (settings.Num n l) ≡ num n l
  num_text n l = search (rules, the_lemmas)

  pub quoted_text : (t : String Global) (l : L) → setting_text (settings.String t l) ≡ quoted (string_bytes t) l
  quoted_text t l = search (rules, the_lemmas)

  pub array_text : (items : Vec (Setting L) Global) (s e : L) → setting_text (settings.Array items s e) ≡ array (items_text items.items) s e
  array_text items s e = search (rules, the_lemmas)

  and_all-push : (items : ItemsText L) (ss : List (SettingText L)) (s : SettingText L) → and_all items (ss ++ s ∷ []) ≡ more (and_all items ss) s
  and_all-push items [] s = refl
  and_all-push items (t ∷ ss) s = and_all-push (more items t) ss s

  pub items_text-push : (items : List (Setting L)) (s : Setting L) → items_text (items ++ s ∷ []) ≡ more (items_text items) (setting_text s)
  items_text-push items s = ap (and_all _) (map_push setting_text items s) ∙ and_all-push _ (map setting_text items) (setting_text s)
