-- Settings with their locations replaced.
use Rattle.std.proofs.Common.{◌≡◌, ℕ, ◌+◌, ◌<◌, ◌≤◌, List, [], ◌∷◌, ◌++◌, length, take, get_or, refl, sym, ap, ◌∙◌}
use Rattle.std.proofs.lemmas.List.{take_more, take_all}
use Rattle.cfg_sections.specs.declared.header.value.Setting.{Setting}
use Rattle.cfg_sections.specs.HeaderTexts.{setting_text, items_text}
use Rattle.cfg_sections.specs.HeaderMaps.{map_setting, map_items}
use Rattle.cfg_sections.proofs.SettingTexts.{items_text-push}

module _ {L M : Type 0} (f : L → M) where
  -- one more item is converted
  pub located_more : (items : List (Setting L)) (i : ℕ) (s : Setting L) (out out' : List (Setting M)) (t : Setting M) → i < length items → s ≡ get_or items i s → out' ≡ out ++ t ∷ [] → setting_text t ≡ map_setting f (setting_text s) → items_text out ≡ map_items f (items_text (take i items)) →
      items_text out' ≡ map_items f (items_text (take (i + 1) items))
  located_more items i s out out' t below is pushed same h =
      let taken : take (i + 1) items ≡ take i items ++ s ∷ [] = take_more items i s below ∙ ap (λ x. take i items ++ x ∷ []) (sym is) in
      rw (pushed, taken, items_text-push out t, items_text-push (take i items) s, h, same) refl

  -- all items are converted
  pub located_whole : (items kids : List (Setting L)) (i : ℕ) (out : List (Setting M)) → kids ≡ items → length kids ≤ i → items_text out ≡ map_items f (items_text (take i kids)) → items_text out ≡ map_items f (items_text items)
  located_whole items kids i out same all so_far = rw (take_all i kids all) at so_far ∙ ap (λ xs. map_items f (items_text xs)) same
