use Rattle.std.proofs.Common.{◌+◌, List, [], false, length, ap, arith}
use Rattle.std.proofs.lemmas.List.{length-map, length-replicate}
use Rattle.std.specs.declared.alloc.Global.{Global}
use Rattle.std.specs.declared.vec.Vec.{Vec}
use Rattle.lrtable.specs.declared.moved_items.MovedItem.{MovedItem}
use Rattle.lrtable.proofs.pager.Buffers.new.Goals as goal

pub returns : goal.returns
returns g c =
    let none : List (MovedItem g.row.S.Denot) = [] in
    let items = λ (v : Vec (MovedItem g.row.S.Denot) Global). v.items in
    let G = c.args.grm.now.grammar in
    let made = ap length c.in_ok-marks.ensures in
    let flags = length-replicate c.len.result false in
    let len = c.len.ensures in
    let sets = ap length c.in_ok-sets.ensures in
    let count = length-replicate (G.rules + G.tokens) none in
    let same = length-map c.in_ok-sets.sets.items items in
    record {
      ready = c.requires;
      hints = c.in_ok-was.ensures;
      empty = c.in_ok-sets.ensures;
      wide = omega (arith, made, flags, len, sets, count, same);
    }
