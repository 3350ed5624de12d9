use Rattle.std.proofs.Common.{◌≡◌, ◌+◌, ◌<◌, ◌≤◌, ℕ, inl, inr, true, length, map, refl, sym, ap, ◌∙◌, subst, arith, rules, length-set}
use Rattle.std.specs.declared.ops.Bound.TheVariants.{Unbounded}
use Rattle.std.proofs.lemmas.Bool.{cases_lt}
use Rattle.std.proofs.lemmas.List.{length-map}
use Rattle.vob.specs.Walk.{walk}
use Rattle.state_table.specs.ItemRows.{no_core, FitsCore}
use Rattle.lr_theory.specs.Building.{Building}
use Rattle.lrtable.specs.Gaining.{core_in}
use Rattle.lrtable.specs.Handling.{AreHandled, TooManyStand}
use Rattle.lrtable.specs.MovedItems.{set_of_moved}
use Rattle.lrtable.specs.StateViews.{value_of}
use Rattle.lrtable.specs.Stepping.{IsGotoAt, IsNextTaken}
use Rattle.lrtable.proofs.Builders.{goes_none, goes_then}
use Rattle.lrtable.proofs.Emptying.{emptied_next, all_empty}
use Rattle.lrtable.proofs.FreshSets.{moved_empty}
use Rattle.state_table.proofs.Marks.{IsNextMark, all_marked, next_mark, no_mark}
use Rattle.lrtable.proofs.MarkedSets.{skip_ranks}
use Rattle.lrtable.proofs.Stepping.{rest_next, next_handled, goto_at}
use Rattle.lrtable.proofs.pager.place_all.Goals as goal

pub ranks-init : goal.ranks-init
ranks-init g c =
    let bits = c.args.marks.now.bits in
    let e : c.into_iter-number-iterator.result ≡ walk true bits Unbounded Unbounded = cc in (
      tt,
      tt,
      (
        0,
        record {
          within = omega arith;
          left = all_marked bits c.into_iter-number-iterator.result e;
          emptied = λ n lt. absurd (omega (arith, lt));
          count = refl;
          states = c.requires.states;
          builder = c.requires.builder;
          goes = goes_none g.S.IndexStorage.number c.args.builder.now;
          rest = λ n le. refl;
          handled = λ before sets h. h;
        },
      ),
    )

pub place_rank-requires : goal.place_rank-requires
place_rank-requires g c =
    let G = c.args.grm.now.grammar in
    let number = g.S.IndexStorage.number in
    let bits = c.args.marks.now.bits in
    let n = c.ranks.invariant.2.0 in
    let v = c.ranks.invariant.2.1 in
    let t = c.in-Some.number in
    let m : IsNextMark bits n t c.next.new.self = next_mark bits n t c.ranks.number-iterator c.next.new.self v.within v.left c.in-Some.ensures.steps in
    let below = m.below in
    let low = m.low in
    let wide = c.requires.wide in
    let count = c.requires.count in
    let lt : t < G.rules + G.tokens = omega (arith, below, wide) in
    record {
      number = lt;
      count = v.count ∙ count;
      tokens = c.requires.tokens;
      builder = v.builder;
      states = v.states;
      set = subst (FitsCore G) (sym (v.rest t low)) (c.requires.sets t lt);
    }

pub ranks-preserved : goal.ranks-preserved
ranks-preserved g c =
    let G = c.args.grm.now.grammar in
    let number = g.S.IndexStorage.number in
    let bits = c.args.marks.now.bits in
    let n = c.ranks.invariant.2.0 in
    let v = c.ranks.invariant.2.1 in
    let t = c.in-Some.number in
    let m : IsNextMark bits n t c.next.new.self = next_mark bits n t c.ranks.number-iterator c.next.new.self v.within v.left c.in-Some.ensures.steps in
    let e = c.in_ok-place_rank.ensures in
    let first = map (set_of_moved number c.args.rows.now) c.args.sets.now.items in
    let sets = map (set_of_moved number c.args.rows.now) c.ranks.sets.items in
    let new = map (set_of_moved number c.args.rows.now) c.place_rank.new.sets.items in
    let below = m.below in
    let low = m.low in
    let wide = c.requires.wide in
    let count = c.requires.count in
    let long = length-map c.args.sets.now.items (set_of_moved number c.args.rows.now) in
    let k = length-map c.ranks.sets.items (set_of_moved number c.args.rows.now) in
    let q = v.count in
    let from = c.args.builder.now.from in
    let was = map (value_of number) c.ranks.builder.states.items in
    let next = map (value_of number) c.place_rank.new.builder.states.items in
    let handled : (b : Building) → IsGotoAt G b from t (core_in sets t) → AreHandled G b from t was → AreHandled G b from (t + 1) next =
    subst (λ s. (b : Building) → IsGotoAt G b s t (core_in sets t) → AreHandled G b s t was → AreHandled G b s (t + 1) next) v.goes.from e.handled in
    let none : (i : ℕ) → n ≤ i → i < t → core_in first i ≡ no_core = λ i a b. c.requires.marked i (omega (arith, b, below, wide, count, long)) (m.none i a b) in
    let empty : (i : ℕ) → i < t → core_in sets i ≡ no_core = λ i b. elim (cases_lt i n) [ inl l ↦ v.emptied i l | inr ge ↦ v.rest i ge ∙ none i ge b ] in
    let rest : (i : ℕ) → t ≤ i → core_in sets i ≡ core_in first i = λ i a. v.rest i (omega (arith, a, low)) in (
      tt,
      tt,
      (
        t + 1,
        record {
          within = omega (arith, below);
          left = m.left;
          emptied = emptied_next sets new t (omega (arith, below, wide, count, k, q)) e.sets empty;
          count = (let l = length-map c.place_rank.new.sets.items (set_of_moved number c.args.rows.now) in let s = ap length e.sets in let r = length-set sets t no_core in omega (arith, l, k, s, r, q));
          states = e.states;
          builder = e.builder;
          goes = goes_then number c.args.builder.now c.ranks.builder c.place_rank.new.builder v.goes e.goes;
          rest = rest_next first sets new t e.sets rest;
          handled = λ before gotos h. next_handled G before from t first sets was next rest handled gotos
              (skip_ranks G before from n t first was low (omega (arith, below, wide)) gotos none (v.handled before gotos h));
        },
      ),
    )

pub returns-in_err-place_rank-clause-many : goal.returns-in_err-place_rank-clause-many
returns-in_err-place_rank-clause-many g c = λ e before next gotos h.
    let G = c.args.grm.now.grammar in
    let number = g.S.IndexStorage.number in
    let bits = c.args.marks.now.bits in
    let n = c.ranks.invariant.2.0 in
    let v = c.ranks.invariant.2.1 in
    let t = c.in-Some.number in
    let m : IsNextMark bits n t c.next.new.self = next_mark bits n t c.ranks.number-iterator c.next.new.self v.within v.left c.in-Some.ensures.steps in
    let first = map (set_of_moved number c.args.rows.now) c.args.sets.now.items in
    let below = m.below in
    let low = m.low in
    let wide = c.requires.wide in
    let count = c.requires.count in
    let long = length-map c.args.sets.now.items (set_of_moved number c.args.rows.now) in
    let none : (i : ℕ) → n ≤ i → i < t → core_in first i ≡ no_core = λ i a b. c.requires.marked i (omega (arith, b, below, wide, count, long)) (m.none i a b) in
    let from = c.args.builder.now.from in
    let sets = map (set_of_moved number c.args.rows.now) c.ranks.sets.items in
    let was = map (value_of number) c.ranks.builder.states.items in
    let many : (b : Building) → IsNextTaken G b from → IsGotoAt G b from t (core_in sets t) → AreHandled G b from t was → TooManyStand G g.S.IndexStorage.MAX =
    subst (λ s. (b : Building) → IsNextTaken G b s → IsGotoAt G b s t (core_in sets t) → AreHandled G b s t was → TooManyStand G g.S.IndexStorage.MAX) v.goes.from (c.place_rank.ensures.many (search rules)) in
    many before next (subst (IsGotoAt G before from t) (sym (v.rest t low)) (goto_at G before from first gotos t))
    (skip_ranks G before from n t first was low (omega (arith, below, wide)) gotos none (v.handled before gotos h))

pub returns-clause-emptied : goal.returns-clause-emptied
returns-clause-emptied g c =
    let number = g.S.IndexStorage.number in
    let G = c.args.grm.now.grammar in
    let bits = c.args.marks.now.bits in
    let n = c.ranks.invariant.2.0 in
    let v = c.ranks.invariant.2.1 in
    let wide = c.requires.wide in
    let count = c.requires.count in
    let long = length-map c.args.sets.now.items (set_of_moved number c.args.rows.now) in
    let k = length-map c.ranks.sets.items (set_of_moved number c.args.rows.now) in
    let q = v.count in
    moved_empty number c.args.rows.now (G.rules + G.tokens) c.ranks.sets.items
    (all_empty (map (set_of_moved number c.args.rows.now) c.ranks.sets.items) (G.rules + G.tokens) (omega (arith, k, q, count)) (λ i lt. elim (cases_lt i n) [
      | inl l ↦ v.emptied i l
      | inr ge ↦ v.rest i ge ∙ c.requires.marked i (omega (arith, lt, count, long)) (no_mark bits n c.ranks.number-iterator v.within v.left c.in-None.ensures.steps.0 i ge (omega (arith, lt, wide)))
    ]))

pub returns-clause-handled : goal.returns-clause-handled
returns-clause-handled g c = λ before gotos h.
    let number = g.S.IndexStorage.number in
    let G = c.args.grm.now.grammar in
    let bits = c.args.marks.now.bits in
    let n = c.ranks.invariant.2.0 in
    let v = c.ranks.invariant.2.1 in
    let wide = c.requires.wide in
    let within = v.within in
    let count = c.requires.count in
    let first = map (set_of_moved number c.args.rows.now) c.args.sets.now.items in
    let long = length-map c.args.sets.now.items (set_of_moved number c.args.rows.now) in
    skip_ranks G before c.args.builder.now.from n (G.rules + G.tokens) first (map (value_of number) c.ranks.builder.states.items) (omega (arith, within, wide)) (omega arith) gotos
    (λ i a b. c.requires.marked i (omega (arith, b, count, long)) (no_mark bits n c.ranks.number-iterator v.within v.left c.in-None.ensures.steps.0 i a (omega (arith, b, wide)))) (v.handled before gotos h)
