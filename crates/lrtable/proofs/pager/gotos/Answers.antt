use Rattle.std.proofs.Common.{◌≡◌, Bool, List, false, length, map, sym, ap, ◌∙◌, subst}
use Rattle.std.proofs.lemmas.List.{length-replicate}
use Rattle.lr_theory.specs.Itemset.{HasItem, HasLook, Closure, ClosureLook}
use Rattle.lrtable.specs.Gaining.{AreMarked}
use Rattle.state_table.specs.ItemRows.{map_of}
use Rattle.lrtable.specs.LookRows.{LookRows}
use Rattle.state_table.specs.Meeting.{rows_in}
use Rattle.lrtable.specs.MovedItems.{set_of_moved}
use Rattle.state_table.specs.CoreViews.{core_of_set}
use Rattle.lrtable.specs.Stepping.{AreGotos, IsClosureOf, IsSized}
use Rattle.lrtable.proofs.pager.gotos.Goals as goal

pub goto_sets-requires : goal.goto_sets-requires
goto_sets-requires g c =
    let number = g.S.IndexStorage.number in
    let G = c.args.grm.now.grammar in
    let core = core_of_set number c.args.core.now in
    let fronts = c.args.closer.now.openers.now in
    let opening = sym (ap (λ (r : LookRows). r.opening) c.new-rows.ensures) in
    record {
      own = ap (λ (r : LookRows). r.own) c.new-rows.ensures ∙ ap rows_in c.as_slice.ensures.value;
      kernel = c.requires.kernel;
      fits = c.requires.fits;
      sizes = subst (IsSized G) opening c.in_ok-close.ensures.ready.sizes;
      closed = (fronts, c.requires.ready.openers, subst (IsClosureOf G fronts core) opening c.in_ok-close.ensures.closed);
      wide = ap length c.clear.ensures ∙ (length-replicate (length c.args.marks.now.bits) false ∙ c.requires.wide);
      empty = c.requires.empty;
    }

pub returns-clause-marked : goal.returns-clause-marked
returns-clause-marked g c =
    let number = g.S.IndexStorage.number in
    let opening = c.close.new.self.opening in
    let rows : c.new-rows.result ≡ record { own = rows_in c.args.core.now.looks.items; opening = opening } = c.new-rows.ensures ∙ ap (λ (l : List (List Bool)). record { own = l; opening = opening }) (ap rows_in c.as_slice.ensures.value) in
    subst (λ (r : LookRows). AreMarked c.goto_sets.new.marks.bits (map (set_of_moved number r) c.goto_sets.new.sets.items)) rows c.in_ok-goto_sets.ensures.marked

pub returns-clause-gotos : goal.returns-clause-gotos
returns-clause-gotos g c =
    let number = g.S.IndexStorage.number in
    let G = c.args.grm.now.grammar in
    let core = map_of (core_of_set number c.args.core.now) in
    let opening = c.close.new.self.opening in
    let rows : c.new-rows.result ≡ record { own = rows_in c.args.core.now.looks.items; opening = opening } = c.new-rows.ensures ∙ ap (λ (l : List (List Bool)). record { own = l; opening = opening }) (ap rows_in c.as_slice.ensures.value) in
    subst (λ (r : LookRows). AreGotos G (Closure G (HasItem core)) (ClosureLook G (HasItem core) (HasLook core)) (map (set_of_moved number r) c.goto_sets.new.sets.items)) rows c.in_ok-goto_sets.ensures.gotos
