use Rattle.std.proofs.Common.{inr, refl, rules}
use Rattle.lrtable.proofs.Noting.{noted_next, noted_still}
use Rattle.lrtable.proofs.insertion_list.Noted.put.Goals as goal

pub returns-then-count-len : goal.returns-then-count-len
returns-then-count-len c = λ flags lt h. noted_still flags _ c.args.self.now.count c.args.self.now.order.items c.args.number h lt refl (inr (search rules))

pub returns : goal.returns
returns c = λ flags lt h. noted_next flags _ c.args.self.now.count c.args.self.now.order.items c.args.number h lt refl _ _ refl (search rules) refl
