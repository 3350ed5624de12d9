use Rattle.std.proofs.Common.{◌≡◌, ◌<◌, List, length, map, set, sym, ap, ◌∙◌, subst, arith, rules}
use Rattle.std.proofs.lemmas.List.{length-map, map-set}
use Rattle.cfg_numbered.specs.Symbols.{sym_of}
use Rattle.state_table.specs.ItemRows.{no_core, Core, FitsCore}
use Rattle.lrtable.specs.Gaining.{core_in}
use Rattle.lrtable.specs.MovedItems.{core_of_moved, moved_item, set_of_moved}
use Rattle.lrtable.specs.StateViews.{value_of}
use Rattle.lrtable.specs.Stepping.{IsGotoAt}
use Rattle.lrtable.specs.declared.moved_items.MovedItem.{MovedItem}
use Rattle.state_table.proofs.CoreSteps.{map_at}
use Rattle.lrtable.proofs.Builders.{goes_none}
use Rattle.lrtable.proofs.Emptying.{none_core}
use Rattle.lrtable.proofs.Stepping.{skip_rank, rank_placed, rank_refused}
use Rattle.lrtable.proofs.pager.place_rank.Goals as goal

pub returns-then-is_empty-clause-sets : goal.returns-then-is_empty-clause-sets
returns-then-is_empty-clause-sets g c =
    let number = g.S.IndexStorage.number in
    let seen = set_of_moved number c.args.rows.now in
    let G = c.args.grm.now.grammar in
    let sets = c.args.sets.now.items in
    let low = c.requires.number in
    let count = c.requires.count in
    let lt : c.args.number < length sets = omega (arith, low, count) in
    let x = c.index_mut-set.result.now in
    let at = map_at seen sets c.args.number x no_core lt c.index_mut-set.ensures.value in
    let m = length-map x.items (moved_item number) in
    let k = length-map sets seen in
    let empty : length x.items ≡ 0 = search rules in
    map-set seen sets c.args.number x ∙ (ap (set (map seen sets) c.args.number) (sym at ∙ none_core G.tokens (core_in (map seen sets) c.args.number) c.requires.set.good (ap (λ (y : Core). length y.items) at ∙ m ∙ empty)))

pub returns-then-is_empty-clause-handled : goal.returns-then-is_empty-clause-handled
returns-then-is_empty-clause-handled g c = λ before is h.
    let number = g.S.IndexStorage.number in
    let seen = set_of_moved number c.args.rows.now in
    let G = c.args.grm.now.grammar in
    let sets = c.args.sets.now.items in
    let low = c.requires.number in
    let count = c.requires.count in
    let lt : c.args.number < length sets = omega (arith, low, count) in
    let x = c.index_mut-set.result.now in
    let at = map_at seen sets c.args.number x no_core lt c.index_mut-set.ensures.value in
    let m = length-map x.items (moved_item number) in
    let empty : length x.items ≡ 0 = search rules in
    skip_rank G before c.args.builder.now.from c.args.number (core_in (map seen sets) c.args.number) is (map (value_of number) c.args.builder.now.states.items) h low (ap (λ (y : Core). length y.items) at ∙ m ∙ empty)

pub place-requires : goal.place-requires
place-requires g c =
    let number = g.S.IndexStorage.number in
    let seen = set_of_moved number c.args.rows.now in
    let G = c.args.grm.now.grammar in
    let sets = c.args.sets.now.items in
    let low = c.requires.number in
    let count = c.requires.count in
    let lt : c.args.number < length sets = omega (arith, low, count) in
    let x = c.index_mut-set.result.now in
    let at = map_at seen sets c.args.number x no_core lt c.index_mut-set.ensures.value ∙ ap (core_of_moved number c.args.rows.now) (sym c.as_slice-items.ensures.value) in
    let good = subst (FitsCore G) at c.requires.set in
    let some : 0 < length x.items = search rules in
    let same = ap (λ (l : List (MovedItem g.row.S.Denot)). length l) c.as_slice-items.ensures.value in
    let there : 0 < length c.as_slice-items.result.now = omega (arith, some, same) in
    record {
      builder = c.requires.builder;
      states = (G.tokens, c.requires.states, good.good, c.requires.tokens);
      some = there;
    }

pub returns-then-is_empty-clause-goes : goal.returns-then-is_empty-clause-goes
returns-then-is_empty-clause-goes g c = goes_none g.S.IndexStorage.number c.args.builder.now

pub returns-in_err-place-clause-many : goal.returns-in_err-place-clause-many
returns-in_err-place-clause-many g c = λ e before next is h.
    let number = g.S.IndexStorage.number in
    let seen = set_of_moved number c.args.rows.now in
    let G = c.args.grm.now.grammar in
    let sets = c.args.sets.now.items in
    let low = c.requires.number in
    let count = c.requires.count in
    let lt : c.args.number < length sets = omega (arith, low, count) in
    let x = c.index_mut-set.result.now in
    let given = core_of_moved number c.args.rows.now c.as_slice-items.result.now in
    let at = map_at seen sets c.args.number x no_core lt c.index_mut-set.ensures.value ∙ ap (core_of_moved number c.args.rows.now) (sym c.as_slice-items.ensures.value) in
    let good = subst (FitsCore G) at c.requires.set in
    let there : 0 < length x.items = search rules in
    let same = ap (λ (l : List (MovedItem g.row.S.Denot)). length l) c.as_slice-items.ensures.value in
    let n = length-map c.as_slice-items.result.now (moved_item number) in
    let some : 0 < length given.items = omega (arith, same, n, there) in
    let full = c.place.ensures.full (search rules) in
    let k = length-map c.args.builder.now.states.items (value_of number) in
    let most = full.1 in
    rank_refused G before c.args.builder.now.from c.args.number (sym_of number c.symbol_at-symbol.result) c.symbol_at-symbol.ensures.range c.symbol_at-symbol.ensures.rank given (subst (IsGotoAt G before c.args.builder.now.from c.args.number) at is) (map (value_of number) c.args.builder.now.states.items) h
    g.S.IndexStorage.MAX next good.good some full.0 (omega (arith, k, most))

pub returns-clause-states : goal.returns-clause-states
returns-clause-states g c =
    let number = g.S.IndexStorage.number in
    let seen = set_of_moved number c.args.rows.now in
    let G = c.args.grm.now.grammar in
    let sets = c.args.sets.now.items in
    let low = c.requires.number in
    let count = c.requires.count in
    let lt : c.args.number < length sets = omega (arith, low, count) in
    let at = map_at seen sets c.args.number c.index_mut-set.result.now no_core lt c.index_mut-set.ensures.value ∙ ap (core_of_moved number c.args.rows.now) (sym c.as_slice-items.ensures.value) in
    c.in_ok-place.ensures.placed.states_stay G.tokens c.requires.states (subst (FitsCore G) at c.requires.set).good

pub returns-clause-sets : goal.returns-clause-sets
returns-clause-sets g c =
    let number = g.S.IndexStorage.number in
    let seen = set_of_moved number c.args.rows.now in
    let sets = c.args.sets.now.items in
    map-set seen sets c.args.number c.clear.new.self ∙ ap (λ (l : List (MovedItem g.row.S.Denot)). set (map seen sets) c.args.number (core_of_moved number c.args.rows.now l)) c.clear.ensures.items

pub returns-clause-handled : goal.returns-clause-handled
returns-clause-handled g c = λ before is h.
    let number = g.S.IndexStorage.number in
    let seen = set_of_moved number c.args.rows.now in
    let G = c.args.grm.now.grammar in
    let sets = c.args.sets.now.items in
    let low = c.requires.number in
    let count = c.requires.count in
    let lt : c.args.number < length sets = omega (arith, low, count) in
    let x = c.index_mut-set.result.now in
    let given = core_of_moved number c.args.rows.now c.as_slice-items.result.now in
    let at = map_at seen sets c.args.number x no_core lt c.index_mut-set.ensures.value ∙ ap (core_of_moved number c.args.rows.now) (sym c.as_slice-items.ensures.value) in
    let good = subst (FitsCore G) at c.requires.set in
    let there : 0 < length x.items = search rules in
    let same = ap (λ (l : List (MovedItem g.row.S.Denot)). length l) c.as_slice-items.ensures.value in
    let n = length-map c.as_slice-items.result.now (moved_item number) in
    let some : 0 < length given.items = omega (arith, same, n, there) in
    rank_placed G before c.args.builder.now.from c.args.number (sym_of number c.symbol_at-symbol.result) c.symbol_at-symbol.ensures.range c.symbol_at-symbol.ensures.rank given (subst (IsGotoAt G before c.args.builder.now.from c.args.number) at is) (map (value_of number) c.args.builder.now.states.items) h
    (map (value_of number) c.place.new.builder.states.items) good.good some c.in_ok-place.ensures.placed
