use Rattle.vob.proofs.Bits.{copied}
use Rattle.lrtable.proofs.tails.Rest.copy_of.Goals as goal

pub returns-clause-width : goal.returns-clause-width
returns-clause-width c = (copied c.args.self.now.first.bits c.set_all.new.self.bits c.args.other.now.first.bits c.or-self.new.self.bits c.requires c.set_all.ensures.bits c.or-self.ensures.bits).0

pub returns-clause-bits : goal.returns-clause-bits
returns-clause-bits c = (copied c.args.self.now.first.bits c.set_all.new.self.bits c.args.other.now.first.bits c.or-self.new.self.bits c.requires c.set_all.ensures.bits c.or-self.ensures.bits).1
