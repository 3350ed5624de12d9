use Rattle.std.proofs.Common.{sym, ◌∙◌, subst, arith}
use Rattle.cfg_theory.specs.Grammar.{rule, IsNext}
use Rattle.state_table.specs.Adding.{SingleItem, OneLooks}
use Rattle.lrtable.specs.Closes.{Seeds, SeedsLook}
use Rattle.lrtable.specs.Opening.{Follows}
use Rattle.lrtable.proofs.Exact.{dot_within}
use Rattle.lrtable.proofs.Seeding.{seeds_one, seeds_none}
use Rattle.lrtable.proofs.opening.Opening.seed_one.Goals as goal

pub follow-requires-clause-rules : goal.follow-requires-clause-rules
follow-requires-clause-rules g c =
    let number = g.S.IndexStorage.number in
    let lt = c.start_prod.ensures.well_formed.symbols (number c.args.pair.0.now.pidx.0) c.to_usize-dot.result (rule (number c.in-Some.ridx.0)) c.in-Some.ensures in
    let n = c.requires.sizes.opened in
    let e = c.to_usize.ensures.value in
    omega (arith, lt, n, e)

pub follow-requires-clause-within : goal.follow-requires-clause-within
follow-requires-clause-within g c =
    let number = g.S.IndexStorage.number in
    let lt = c.start_prod.ensures.well_formed.symbols (number c.args.pair.0.now.pidx.0) c.to_usize-dot.result (rule (number c.in-Some.ridx.0)) c.in-Some.ensures in
    let n = c.requires.sizes.rows in
    let e = c.to_usize.ensures.value in
    omega (arith, lt, n, e)

pub follow-requires-clause-first : goal.follow-requires-clause-first
follow-requires-clause-first g c = c.fill.ensures.width ∙ sym c.requires.sizes.tokens

pub follow-requires-clause-width : goal.follow-requires-clause-width
follow-requires-clause-width g c = c.requires.width ∙ sym c.requires.sizes.tokens

pub fill-requires-clause-dot : goal.fill-requires-clause-dot
fill-requires-clause-dot g c =
    let number = g.S.IndexStorage.number in
    dot_within c.args.grm.now.grammar (number c.args.pair.0.now.pidx.0) c.to_usize-dot.result (rule (number c.in-Some.ridx.0)) c.in-Some.ensures

pub returns-in_ok-follow-in-Some-clause-follows : goal.returns-in_ok-follow-in-Some-clause-follows
returns-in_ok-follow-in-Some-clause-follows g c =
    let number = g.S.IndexStorage.number in
    let G = c.args.grm.now.grammar in
    let p = number c.args.pair.0.now.pidx.0 in
    let looks = c.args.pair.1.now.bits in
    let first = c.fill.new.rest.first.bits in
    let nullable = c.fill.new.rest.nullable in
    let rule_is = c.to_usize.ensures.value in
    let d_is = c.to_usize-dot.ensures.value in
    let n = subst (λ A. IsNext G p c.to_usize-dot.result (rule A)) (sym rule_is) c.in-Some.ensures in
    subst (λ d. Follows (Seeds G (SingleItem p d)) (SeedsLook G (SingleItem p d) (OneLooks p d looks)) c.args.self.now c.follow.new.self c.args.waiting.now c.follow.new.waiting) d_is
    (seeds_one G p c.to_usize-dot.result c.to_usize.result looks first nullable n c.fill.ensures c.args.self.now c.follow.new.self c.args.waiting.now c.follow.new.waiting c.in_ok-follow-in-Some.ensures)

pub returns-in-None-clause-follows : goal.returns-in-None-clause-follows
returns-in-None-clause-follows g c =
    let number = g.S.IndexStorage.number in
    let G = c.args.grm.now.grammar in
    let p = number c.args.pair.0.now.pidx.0 in
    let looks = c.args.pair.1.now.bits in
    subst (λ d. Follows (Seeds G (SingleItem p d)) (SeedsLook G (SingleItem p d) (OneLooks p d looks)) c.args.self.now c.args.self.now c.args.waiting.now c.args.waiting.now) c.to_usize-dot.ensures.value
    (seeds_none G p c.to_usize-dot.result looks c.args.self.now c.args.waiting.now c.in-None.ensures)
