use Rattle.std.proofs.Common.{arith, ◌-◌, length, take}
use Rattle.conflict_examples.proofs.SymbolLists.{last_is}
use Rattle.conflict_examples.proofs.spine.innermost.Goals as goal

pub returns : goal.returns
returns g c =
    let items = c.args.items.now in
    record { outer = take (length items - 1) items; is = last_is items c.index-items-items.result c.index-items-items.is (λ e. grind (arith, c.if-is_empty.false, c.is_empty.ensures, e)) }
