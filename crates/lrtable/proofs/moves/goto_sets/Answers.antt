use Rattle.std.proofs.Common.{◌+◌, List, length, refl, map, sym, ap, ◌∙◌, subst}
use Rattle.std.proofs.lemmas.List.{length-replicate}
use Rattle.lr_theory.specs.Itemset.{HasItem}
use Rattle.state_table.specs.ItemRows.{no_core, Core, map_of}
use Rattle.lrtable.specs.Gaining.{AreSets}
use Rattle.lrtable.specs.MovedItems.{set_of_moved}
use Rattle.lrtable.specs.Stepping.{OpenBelow}
use Rattle.state_table.specs.CoreViews.{core_of_set}
use Rattle.lrtable.proofs.FreshSets.{empty_moved, none_in_empty, none_of_opened}
use Rattle.lrtable.proofs.MarkedSets.{empty_marked}
use Rattle.lrtable.proofs.Moving.{all_moved, empty_sets_good}
use Rattle.lrtable.proofs.moves.goto_sets.Goals as goal

pub move_core-requires : goal.move_core-requires
move_core-requires g c =
    let number = g.S.IndexStorage.number in
    let G = c.args.grm.now.grammar in
    let seen = set_of_moved number c.args.rows.now in
    let none = empty_moved number c.args.rows.now (G.rules + G.tokens) c.args.sets.now.items c.requires.empty in
    record {
      fits = c.requires.fits;
      sets = record {
        count = ap length none ∙ length-replicate (G.rules + G.tokens) no_core;
        wide = c.requires.wide;
        good = subst (λ (l : List Core). AreSets G.tokens l) (sym none) (empty_sets_good G.tokens (G.rules + G.tokens));
      };
      own = c.requires.own;
      fresh = none_in_empty G (HasItem (map_of (core_of_set number c.args.core.now))) (G.rules + G.tokens) (map seen c.args.sets.now.items) none;
    }

pub move_open-requires : goal.move_open-requires
move_open-requires g c =
    let number = g.S.IndexStorage.number in
    let G = c.args.grm.now.grammar in
    let s = c.args.rows.now.opening in
    let seen = set_of_moved number c.args.rows.now in
    let none = empty_moved number c.args.rows.now (G.rules + G.tokens) c.args.sets.now.items c.requires.empty in
    let closed = c.requires.closed in
    let moved = c.in_ok-move_core.ensures in
    record {
      sizes = c.requires.sizes;
      sets = record {
        count = moved.gains.count ∙ (ap length none ∙ length-replicate (G.rules + G.tokens) no_core);
        wide = moved.marks.width ∙ c.requires.wide;
        good = moved.gains.good;
      };
      fresh = none_of_opened G closed.0 (core_of_set number c.args.core.now) s G.rules (map seen c.args.sets.now.items) (map seen c.move_core.new.sets.items) c.start_prod.ensures.well_formed closed.1 closed.2 c.requires.kernel
          (none_in_empty G (OpenBelow G s G.rules) (G.rules + G.tokens) (map seen c.args.sets.now.items) none) moved.gains;
    }

pub returns-clause-gotos : goal.returns-clause-gotos
returns-clause-gotos g c =
    let number = g.S.IndexStorage.number in
    let G = c.args.grm.now.grammar in
    let seen = set_of_moved number c.args.rows.now in
    let none = empty_moved number c.args.rows.now (G.rules + G.tokens) c.args.sets.now.items c.requires.empty in
    let closed = c.requires.closed in
    all_moved G closed.0 (core_of_set number c.args.core.now) c.args.rows.now.opening _ _ (map seen c.move_core.new.sets.items) (map seen c.move_open.new.sets.items) c.start_prod.ensures.well_formed closed.1 closed.2 refl none c.in_ok-move_core.ensures.gains
    c.in_ok-move_open.ensures.gains

pub returns-clause-marked : goal.returns-clause-marked
returns-clause-marked g c =
    let number = g.S.IndexStorage.number in
    let G = c.args.grm.now.grammar in
    let none = empty_moved number c.args.rows.now (G.rules + G.tokens) c.args.sets.now.items c.requires.empty in
    c.in_ok-move_open.ensures.marks.marked (c.in_ok-move_core.ensures.marks.marked (empty_marked c.args.marks.now.bits (map (set_of_moved number c.args.rows.now) c.args.sets.now.items) _ none))

pub returns-clause-wide : goal.returns-clause-wide
returns-clause-wide g c = c.in_ok-move_open.ensures.marks.width ∙ (c.in_ok-move_core.ensures.marks.width ∙ c.requires.wide)
