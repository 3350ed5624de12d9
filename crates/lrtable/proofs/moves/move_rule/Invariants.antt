use Rattle.std.proofs.Common.{map}
use Rattle.std.specs.Prelude.{IsTrue}
use Rattle.vob.specs.Sets.{is_set}
use Rattle.lrtable.specs.Gaining.{Gains, KeepsMarks}
use Rattle.lrtable.specs.MovedItems.{row_from, set_of_moved}
use Rattle.lrtable.proofs.Moving.{ListedBelow, ListedLooks}
use Rattle.lrtable.proofs.moves.move_rule.Given as goal

abbrev pub invariant-prods : goal.invariant-prods
invariant-prods g l =
    let number = g.S.IndexStorage.number in
    let seen = set_of_moved number l.rows in
    record {
      gains : Gains l.grm.grammar (ListedBelow l.grm.grammar (number l.fn.ridx.0) l.k) (ListedLooks l.grm.grammar (number l.fn.ridx.0) l.k (λ t. IsTrue (is_set (row_from l.rows l.fn.source) t))) (map seen l.initial.sets.items) (map seen l.sets.items);
      marks : KeepsMarks l.initial.marks.bits (map seen l.initial.sets.items) l.marks.bits (map seen l.sets.items);
    }
