use Rattle.std.proofs.Common.{sym, subst}
use Rattle.cfg_base.specs.declared.span.Location.TheVariants.{Span}
use Rattle.cfg_sections.proofs.LocatedHeaders.{MapsBefore, put_more, skip_more}
use Rattle.cfg_sections.proofs.header.convert.try_from_header.Goals as goal

pub keys-preserved-in-Continue-1 : goal.keys-preserved-in-Continue-1
keys-preserved-in-Continue-1 c =
    put_more Span c.next.new.self c.args.header.now c.keys.located c.put_located.new.located c.in-Some.key.now c.in-Some-get.value.now (sym c.in-Some-get.ensures) c.in_ok-put_located.ensures
    (subst (λ ks. MapsBefore Span ks c.args.header.now c.keys.located) c.in-Some.ensures.steps c.keys.invariant)

pub keys-preserved : goal.keys-preserved
keys-preserved c =
    skip_more Span c.next.new.self c.args.header.now c.keys.located c.in-Some.key.now (sym c.in_default-get.ensures)
    (subst (λ ks. MapsBefore Span ks c.args.header.now c.keys.located) c.in-Some.ensures.steps c.keys.invariant)
