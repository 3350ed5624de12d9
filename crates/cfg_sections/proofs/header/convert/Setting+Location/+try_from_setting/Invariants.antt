use Rattle.std.proofs.Common.{◌≡◌, take}
use Rattle.cfg_base.specs.declared.span.Location.TheVariants.{Span}
use Rattle.cfg_sections.specs.HeaderTexts.{items_text}
use Rattle.cfg_sections.specs.HeaderMaps.{map_items}
use Rattle.cfg_sections.proofs.header.convert.Setting+Location.+try_from_setting.Given as goal

-- the items so far are converted
abbrev pub invariant-items : goal.invariant-items
invariant-items l = items_text l.located.items ≡ map_items Span (items_text (take l.item-index l.item-items))
