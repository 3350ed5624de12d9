use Rattle.std.proofs.Common.{◌≡◌, ◌+◌, List, [], ◌∷◌, ◌++◌, take, refl, sym, subst, arith}
use Rattle.vob.specs.Packed.{Contents}
use Rattle.state_table.specs.Meeting.{rows_in}
use Rattle.lrtable.proofs.Copies.{copied_over, copied_behind}
use Rattle.lrtable.proofs.pager.put_copy.Goals as goal

pub returns-then-index-len-clause-copied : goal.returns-then-index-len-clause-copied
returns-then-index-len-clause-copied c =
    let test = c.if-index-len.true in
    let len = c.len.ensures in
    copied_over c.args.own.now.items c.args.index (c.args.index + 1) c.overwrite.new.row c.args.looks.now.bits refl (omega (arith, test, len)) c.in_ok-overwrite.ensures

pub returns-clause-copied : goal.returns-clause-copied
returns-clause-copied c =
    let test = c.if-index-len.false in
    let len = c.len.ensures in
    let le = c.requires in
    subst (λ (l : List Contents). rows_in (take (c.args.index + 1) l) ≡ rows_in (take c.args.index c.args.own.now.items) ++ c.args.looks.now.bits ∷ []) (sym c.in_ok-push.ensures.items)
    (copied_behind c.args.own.now.items c.args.index (c.args.index + 1) c.in_ok-clone.field-0 c.args.looks.now.bits refl (omega (arith, test, len, le)) c.in_ok-clone.ensures.cases)
