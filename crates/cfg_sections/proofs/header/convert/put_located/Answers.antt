use Rattle.std.proofs.Common.{◌∙◌}
use Rattle.cfg_base.specs.declared.span.Location.TheVariants.{Span}
use Rattle.cfg_sections.proofs.LocatedHeaders.{puts_mapped}
use Rattle.cfg_sections.proofs.header.convert.put_located.Goals as goal

pub returns : goal.returns
returns c =
    puts_mapped Span c.args.located.now c.insert.new.self c.args.key.now c.in_ok-text.text c.args.value.now c.in_ok-value.value (c.in_ok-text.ensures.ok ∙ c.as_str.ensures.value) c.in_ok-value.ensures.key c.in_ok-value.ensures.value c.in_ok-insert.ensures.ok
