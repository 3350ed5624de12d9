use Rattle.std.proofs.Common.{◌∙◌, subst}
use Rattle.lr_theory.specs.Itemset.{HasItem, HasLook}
use Rattle.lrtable.specs.Closes.{Seeds, SeedsLook}
use Rattle.state_table.specs.ItemRows.{map_of}
use Rattle.lrtable.specs.Opening.{Follows}
use Rattle.state_table.specs.CoreViews.{core_of_set}
use Rattle.lrtable.specs.Stepping.{IsClosureOf}
use Rattle.lrtable.proofs.Closing.{sized_on, fronts_fit, look_open}
use Rattle.lrtable.proofs.OpenLaws.{seeded}
use Rattle.lrtable.proofs.Reaching.{comes_tidy}
use Rattle.lrtable.proofs.Seeding.{are_seeds, seeds_named}
use Rattle.lrtable.proofs.opening.Closer.close.Goals as goal

pub seed-requires-clause-sizes : goal.seed-requires-clause-sizes
seed-requires-clause-sizes g c = sized_on c.args.grm.now.grammar c.args.self.now.opening c.clear.new.self c.requires.ready.sizes c.clear.ensures.sizes

pub close-requires-clause-fit : goal.close-requires-clause-fit
close-requires-clause-fit g c =
    let G = c.args.grm.now.grammar in
    let empty = sized_on G c.args.self.now.opening c.clear.new.self c.requires.ready.sizes c.clear.ensures.sizes in
    fronts_fit G c.args.self.now.openers.now c.seed.new.self c.requires.ready.openers (sized_on G c.clear.new.self c.seed.new.self empty c.in_ok-seed.ensures.follows.comes.sizes)

pub close-requires-clause-tidy : goal.close-requires-clause-tidy
close-requires-clause-tidy g c =
    let G = c.args.grm.now.grammar in
    let s = map_of (core_of_set g.S.IndexStorage.number c.args.set.now) in
    comes_tidy (Seeds G (HasItem s)) (SeedsLook G (HasItem s) (HasLook s)) c.clear.new.self c.seed.new.self (seeds_named G s) (λ A t x. absurd (c.clear.ensures.no_look A t x)) c.in_ok-seed.ensures.follows.comes

pub close-requires-clause-waiting : goal.close-requires-clause-waiting
close-requires-clause-waiting g c =
    let number = g.S.IndexStorage.number in
    let G = c.args.grm.now.grammar in
    let s = map_of (core_of_set number c.args.set.now) in
    let follows = subst (λ l. Follows (Seeds G (HasItem s)) (SeedsLook G (HasItem s) (HasLook s)) c.clear.new.self c.seed.new.self l c.seed.new.waiting) c.requires.ready.none_waits c.in_ok-seed.ensures.follows in
    seeded c.args.self.now.openers.now (Seeds G (HasItem s)) (SeedsLook G (HasItem s) (HasLook s)) c.clear.new.self c.seed.new.self c.seed.new.waiting follows c.clear.ensures.none_open

pub returns-clause-closed : goal.returns-clause-closed
returns-clause-closed g c =
    let number = g.S.IndexStorage.number in
    let G = c.args.grm.now.grammar in
    let s = map_of (core_of_set number c.args.set.now) in
    record {
      from = c.seed.new.self;
      seeds = are_seeds G (HasItem s) (HasLook s) c.clear.new.self c.seed.new.self _ c.seed.new.waiting c.clear.ensures.none_open c.clear.ensures.no_look c.in_ok-seed.ensures.follows;
      opened = c.in_ok-close.ensures.opened;
    }

pub returns-clause-ready : goal.returns-clause-ready
returns-clause-ready g c =
    let number = g.S.IndexStorage.number in
    let G = c.args.grm.now.grammar in
    let s = map_of (core_of_set number c.args.set.now) in
    let empty = sized_on G c.args.self.now.opening c.clear.new.self c.requires.ready.sizes c.clear.ensures.sizes in
    let seeded = sized_on G c.clear.new.self c.seed.new.self empty c.in_ok-seed.ensures.follows.comes.sizes in
    let closed : IsClosureOf G c.args.self.now.openers.now (core_of_set number c.args.set.now) c.close.new.self = record {
      from = c.seed.new.self;
      seeds = are_seeds G (HasItem s) (HasLook s) c.clear.new.self c.seed.new.self _ c.seed.new.waiting c.clear.ensures.none_open c.clear.ensures.no_look c.in_ok-seed.ensures.follows;
      opened = c.in_ok-close.ensures.opened;
    } in
    record {
      tails = c.requires.ready.tails;
      openers = c.requires.ready.openers;
      sizes = sized_on G c.seed.new.self c.close.new.self seeded c.in_ok-close.ensures.sizes;
      tidy = look_open G c.args.self.now.openers.now (core_of_set number c.args.set.now) c.close.new.self c.requires.ready.openers closed;
      width = c.in_ok-close.ensures.width ∙ seeded.tokens;
      rest = c.in_ok-seed.ensures.room;
      none_waits = c.in_ok-close.ensures.none_waits;
    }
