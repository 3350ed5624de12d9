use Rattle.std.proofs.Common.{map, arith}
use Rattle.std.specs.Prelude.{IsTrue}
use Rattle.vob.specs.Sets.{is_set}
use Rattle.cfg_numbered.specs.Value.{productions_of}
use Rattle.cfg_numbered.proofs.RuleLists.{alone}
use Rattle.lrtable.specs.MovedItems.{row_from, set_of_moved}
use Rattle.lrtable.proofs.FreshSets.{none_of_rule}
use Rattle.lrtable.proofs.Fronts.{listed_prod, listed_count}
use Rattle.lrtable.proofs.MarkedSets.{keeps_same, keeps_next, symbol_sets_on}
use Rattle.lrtable.proofs.Moving.{listed_begin, listed_more, listed_end}
use Rattle.lrtable.proofs.moves.move_rule.Goals as goal

pub prods-init : goal.prods-init
prods-init g c =
    let number = g.S.IndexStorage.number in
    record {
      gains = listed_begin c.args.grm.now.grammar (number c.args.ridx.0) (λ t. IsTrue (is_set (row_from c.args.rows.now c.args.source) t)) (map (set_of_moved number c.args.rows.now) c.args.sets.now.items) c.requires.sets.good;
      marks = keeps_same c.args.marks.now.bits (map (set_of_moved number c.args.rows.now) c.args.sets.now.items);
    }

pub move_first-requires : goal.move_first-requires
move_first-requires g c =
    let number = g.S.IndexStorage.number in
    let G = c.args.grm.now.grammar in
    let A = number c.args.ridx.0 in
    let n = listed_prod number c.rule_to_prods-prods.result.now (productions_of G A) c.prods.k c.index-prods-k.result c.rule_to_prods-prods.ensures c.prods-test.true c.index-prods-k.is in
    record {
      production = (alone G A (number c.index-prods-k.result.0) n.1).0;
      sets = symbol_sets_on c.requires.sets c.prods.invariant.gains c.prods.invariant.marks;
      width = c.requires.width;
      fresh = none_of_rule G A c.prods.k (number c.index-prods-k.result.0) (λ t. IsTrue (is_set (row_from c.args.rows.now c.args.source) t)) (map (set_of_moved number c.args.rows.now) c.args.sets.now.items) (map (set_of_moved number c.args.rows.now) c.prods.sets.items) n.0
          (let size = listed_count number c.rule_to_prods-prods.result.now (productions_of G A) c.rule_to_prods-prods.ensures in let test = c.prods-test.true in omega (arith, size, test)) n.1 c.requires.fresh c.prods.invariant.gains;
    }

pub prods-preserved : goal.prods-preserved
prods-preserved g c =
    let number = g.S.IndexStorage.number in
    let G = c.args.grm.now.grammar in
    let A = number c.args.ridx.0 in
    let n = listed_prod number c.rule_to_prods-prods.result.now (productions_of G A) c.prods.k c.index-prods-k.result c.rule_to_prods-prods.ensures c.prods-test.true c.index-prods-k.is in
    record {
      gains = listed_more G A c.prods.k (number c.index-prods-k.result.0) (row_from c.args.rows.now c.args.source) (map (set_of_moved number c.args.rows.now) c.args.sets.now.items) (map (set_of_moved number c.args.rows.now) c.prods.sets.items) (map (set_of_moved number c.args.rows.now) c.move_first.new.sets.items) n.0 c.prods.invariant.gains c.in_ok-move_first.ensures.gains;
      marks = keeps_next c.args.marks.now.bits (map (set_of_moved number c.args.rows.now) c.args.sets.now.items) c.prods.marks.bits (map (set_of_moved number c.args.rows.now) c.prods.sets.items) c.move_first.new.marks.bits (map (set_of_moved number c.args.rows.now) c.move_first.new.sets.items) c.prods.invariant.marks c.in_ok-move_first.ensures.marks;
    }

pub returns-clause-gains : goal.returns-clause-gains
returns-clause-gains g c =
    let number = g.S.IndexStorage.number in
    let G = c.args.grm.now.grammar in
    let A = number c.args.ridx.0 in
    let n = listed_count number c.rule_to_prods-prods.result.now (productions_of G A) c.rule_to_prods-prods.ensures in
    let done = c.prods-test.false in
    listed_end G A c.prods.k (λ t. IsTrue (is_set (row_from c.args.rows.now c.args.source) t)) (map (set_of_moved number c.args.rows.now) c.args.sets.now.items) (map (set_of_moved number c.args.rows.now) c.prods.sets.items) (omega (arith, n, done)) c.prods.invariant.gains
