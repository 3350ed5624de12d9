use Rattle.std.proofs.Common.{length, arith, sym, ap, ◌∙◌}
use Rattle.std.proofs.lemmas.List.{length-map}
use Rattle.vob.specs.Packed.{Contents}
use Rattle.state_table.specs.CoreViews.{item_of, core_of_set}
use Rattle.lrtable.proofs.Closing.{sized_on}
use Rattle.state_table.proofs.CoreSteps.{item_at, production_below, row_at}
use Rattle.lrtable.proofs.Seeding.{seeds_begin, seeds_next, seeds_end}
use Rattle.lrtable.proofs.opening.Opening.seed.Goals as goal

pub items-init : goal.items-init
items-init g c = record { room = c.requires.room; follows = seeds_begin c.args.grm.now.grammar (core_of_set g.S.IndexStorage.number c.args.set.now) c.args.self.now c.args.waiting.now }

pub index-looks-requires : goal.index-looks-requires
index-looks-requires g c =
    let n = length-map c.args.set.now.items.items (item_of g.S.IndexStorage.number) in
    let m = length-map c.args.set.now.looks.items (λ (v : Contents). v.bits) in
    let e = c.requires.fits.good.count in
    let test = c.items-test.true in
    omega (arith, n, m, e, test)

pub seed_one-requires : goal.seed_one-requires
seed_one-requires g c =
    let number = g.S.IndexStorage.number in
    let G = c.args.grm.now.grammar in
    let set = core_of_set number c.args.set.now in
    let n = length-map c.args.set.now.items.items (item_of number) in
    let m = length-map c.args.set.now.looks.items (λ (v : Contents). v.bits) in
    let e = c.requires.fits.good.count in
    let test = c.items-test.true in
    record {
      production = production_below number c.args.set.now.items.items c.items.k (length G.productions) c.index-item.result.now (omega (arith, test)) c.index-item.ensures c.requires.fits.productions;
      tails = c.requires.tails;
      room = c.items.invariant.room;
      sizes = sized_on G c.args.self.now c.items.self c.requires.sizes c.items.invariant.follows.comes.sizes;
      width = sym (ap length (row_at c.args.set.now.looks.items c.items.k c.index-looks.result.now (omega (arith, n, m, e, test)) c.index-looks.ensures)) ∙ c.requires.fits.good.width c.items.k (omega (arith, n, m, e, test));
    }

pub items-preserved : goal.items-preserved
items-preserved g c =
    let number = g.S.IndexStorage.number in
    let G = c.args.grm.now.grammar in
    let set = core_of_set number c.args.set.now in
    let n = length-map c.args.set.now.items.items (item_of number) in
    let m = length-map c.args.set.now.looks.items (λ (v : Contents). v.bits) in
    let e = c.requires.fits.good.count in
    let test = c.items-test.true in
    let x = c.index-item.result.now in
    let next = seeds_next G set c.items.k (number x.pidx.0) (number x.dot.0) c.index-looks.result.now.bits c.args.self.now c.items.self c.seed_one.new.self c.args.waiting.now c.items.waiting c.seed_one.new.waiting
    (item_at number c.args.set.now.items.items c.items.k x (omega (arith, test)) c.index-item.ensures)
    (row_at c.args.set.now.looks.items c.items.k c.index-looks.result.now (omega (arith, n, m, e, test)) c.index-looks.ensures) c.items.invariant.follows c.in_ok-seed_one.ensures.follows in
    record { room = c.in_ok-seed_one.ensures.room; follows = next }

pub returns-clause-follows : goal.returns-clause-follows
returns-clause-follows g c =
    let number = g.S.IndexStorage.number in
    let G = c.args.grm.now.grammar in
    let set = core_of_set number c.args.set.now in
    let n = length-map c.args.set.now.items.items (item_of number) in
    let done = c.items-test.false in
    seeds_end G set c.items.k c.args.self.now c.items.self c.args.waiting.now c.items.waiting c.requires.fits.good (omega (arith, n, done)) c.items.invariant.follows
