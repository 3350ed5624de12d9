use Rattle.std.proofs.Common.{inl, refl}
use Rattle.lrtable.proofs.Noting.{flag_was, noted_still}
use Rattle.lrtable.proofs.flags.note_if.Goals as goal

pub returns-then-not-new : goal.returns-then-not-new
returns-then-not-new c = λ flags lt told h. noted_still flags _ c.args.noted.now.count c.args.noted.now.order.items c.args.number h lt refl (inl (flag_was flags c.args.number c.args.new c.if-not-new.true told))

pub returns : goal.returns
returns c = λ flags lt told h. c.put.ensures flags lt h
