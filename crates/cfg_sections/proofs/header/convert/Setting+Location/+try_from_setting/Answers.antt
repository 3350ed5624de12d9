use Rattle.std.proofs.Common.{◌≡◌, ap}
use Rattle.cfg_base.specs.declared.span.Location.TheVariants.{Span}
use Rattle.cfg_sections.specs.declared.header.value.Setting.TheVariants as settings
use Rattle.cfg_sections.specs.HeaderTexts.{array, items_text}
use Rattle.cfg_sections.specs.HeaderMaps.{map_items}
use Rattle.cfg_sections.proofs.LocatedTexts.{located_more, located_whole}
use Rattle.cfg_sections.proofs.SettingTexts.{array_text}
use Rattle.cfg_sections.proofs.header.convert.Setting+Location.+try_from_setting.Goals as goal

pub items-preserved : goal.items-preserved
items-preserved t c =
    located_more Span c.deref-item-items.result.now c.items.item-index c.item-item.result c.items.located.items c.push.new.self.items c.in_ok-try_from_setting-in-Array.field-0
    c.items-test.true c.item-item.is c.in_ok-push-in-Array.ensures.items c.in_ok-try_from_setting-in-Array.ensures c.items.invariant

pub returns-after-items : goal.returns-after-items
returns-after-items t c =
    let is : c.args.setting.now ≡ settings.Array c.in-Array.items c.in-Array.open c.in-Array.close = c.in-Array.is in
    let whole : items_text c.items.located.items ≡ map_items Span (items_text c.in-Array.items.items) =
    located_whole Span c.in-Array.items.items c.deref-item-items.result.now c.items.item-index c.items.located.items c.deref-item-items.ensures.value c.items-test.false c.items.invariant in
    rw (is, array_text c.in-Array.items c.in-Array.open c.in-Array.close, array_text c.items.located (Span c.in-Array.open) (Span c.in-Array.close))
    (ap (λ xs. array xs (Span c.in-Array.open) (Span c.in-Array.close)) whole)
