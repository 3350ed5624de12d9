use Rattle.std.proofs.Common.{◌≡◌, ◌+◌, ◌<◌, List, length, map, refl, sym, subst, arith}
use Rattle.std.proofs.lemmas.List.{length-map}
use Rattle.lrtable.specs.Handling.{AreHandled}
use Rattle.lrtable.specs.States.{StateValue, AreQuiet}
use Rattle.lrtable.specs.StateViews.{value_of}
use Rattle.lrtable.proofs.Builders.{builder_taken}
use Rattle.lrtable.proofs.Quiet.{quiet_off}
use Rattle.lrtable.proofs.Complete.{all_handled}
use Rattle.lrtable.proofs.Stepping.{step_reached, step_less}
use Rattle.lrtable.proofs.pager.step_complete.Goals as goal

pub returns : goal.returns
returns g c =
    let number = g.S.IndexStorage.number in
    let G = c.args.grm.now.grammar in
    let states = map (value_of number) c.args.builder.now.states.items in
    let n = length-map c.args.builder.now.states.items (value_of number) in
    let low = c.requires.due.within in
    let lt : c.args.number < length states = omega (arith, n, low) in
    let h = c.requires.builder.reached in
    let new = map (value_of number) c.mark_taken.new.states.items in
    let made = builder_taken number g.S.IndexStorage.MAX c.args.builder.now _ c.args.number c.requires.builder.builder low c.mark_taken.ensures refl refl refl in
    let done = subst (λ (l : List StateValue). AreHandled G h.building c.args.number (G.rules + G.tokens) l) (sym c.mark_taken.ensures) (all_handled G states h c.args.number lt c.requires.none) in
    let m = length-map c.mark_taken.new.states.items (value_of number) in
    let few = made.few in
    record {
      under_way = record {
        builder = made;
        reached = step_reached G states new c.args.number h lt c.requires.due.todo c.requires.due.lowest done;
        quiet = subst (λ (l : List StateValue). AreQuiet l c.args.number) (sym c.mark_taken.ensures) (quiet_off states c.args.number c.args.number c.requires.due.lowest (omega arith));
      };
      less = step_less G g.S.IndexStorage.MAX states new c.args.number h c.start_prod.ensures.well_formed c.requires.due.todo c.requires.due.lowest done (omega (arith, m, few));
    }
