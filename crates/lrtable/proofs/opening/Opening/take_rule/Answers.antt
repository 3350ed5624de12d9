use Rattle.std.proofs.Common.{◌<◌, List, ◌∙◌, map, sym, subst, arith}
use Rattle.lrtable.specs.Fronts.{front_of}
use Rattle.lrtable.specs.Opening.{Front, Follows, NamedIn, BroughtBy, GainsOwn}
use Rattle.lrtable.proofs.OpenLaws.{sizes_on, taken_one}
use Rattle.lrtable.proofs.OwnFronts.{own_taken}
use Rattle.lrtable.proofs.Reaching.{reached_taken, comes_tidy, brought_named, own_tidy}
use Rattle.std.specs.List.{Contains}
use Rattle.lrtable.proofs.opening.Opening.take_rule.Goals as goal

-- ---- what the rule leads to is kept

pub bring_all-requires-clause-fit : goal.bring_all-requires-clause-fit
bring_all-requires-clause-fit c =
    let n = c.requires.rules in
    λ e m.
    let f = c.in-Some.ensures.fit e m in
    record { rule = subst (λ k. e.rule < k) n f.rule; first = f.first ∙ (c.len.ensures ∙ c.requires.width) }

pub returns-in-Some-clause-tidy : goal.returns-in-Some-clause-tidy
returns-in-Some-clause-tidy c =
    let es = map front_of c.in-Some.reached.now in
    let looks = c.copy_looks.new.looks.bits in
    comes_tidy (NamedIn es) (BroughtBy looks es) c.args.self.now c.bring_all.new.self (brought_named looks es) c.requires.tidy c.bring_all.ensures.comes

pub returns-in-Some-clause-waiting : goal.returns-in-Some-clause-waiting
returns-in-Some-clause-waiting c = λ from h.
    reached_taken c.args.openers.now from c.args.self.now c.bring_all.new.self c.args.rule c.len.result (map front_of c.in-Some.reached.now) c.copy_looks.new.looks.bits c.args.waiting.now
    h c.requires.tidy c.in-Some.ensures c.copy_looks.ensures.bits c.bring_all.ensures.comes

-- ---- it isn't

pub keep_own-requires-clause-within : goal.keep_own-requires-clause-within
keep_own-requires-clause-within c = let n = c.counts_agree.ensures in let lt = c.requires.rule in omega (arith, n, lt)

pub keep_own-requires-clause-first : goal.keep_own-requires-clause-first
keep_own-requires-clause-first c = λ e h. (c.requires.fit c.args.rule e (subst (λ (l : List Front). Contains l e) c.of_rule.ensures h)).first

pub follow_all-requires-clause-fit : goal.follow_all-requires-clause-fit
follow_all-requires-clause-fit c =
    let k = c.keep_own.ensures.sizes in
    λ e h.
    let f = c.requires.fit c.args.rule e (subst (λ (l : List Front). Contains l e) c.of_rule-in-None.ensures h) in
    let r = f.rule in
    let n = k.opened in
    record { rule = omega (arith, r, n); first = f.first ∙ sym k.tokens }

pub returns-in_ok-follow_all-in-None-clause-sizes : goal.returns-in_ok-follow_all-in-None-clause-sizes
returns-in_ok-follow_all-in-None-clause-sizes c = sizes_on c.args.self.now c.keep_own.new.self c.follow_all.new.self c.keep_own.ensures.sizes c.in_ok-follow_all-in-None.ensures.comes.sizes

pub returns-in_ok-follow_all-in-None-clause-tidy : goal.returns-in_ok-follow_all-in-None-clause-tidy
returns-in_ok-follow_all-in-None-clause-tidy c =
    let es = map front_of c.of_rule-in-None.result.now in
    let looks = c.copy_looks-in-None.new.looks.bits in
    let own = own_tidy (map front_of c.of_rule.result.now) c.args.rule c.args.self.now c.keep_own.new.self c.requires.open_is c.requires.tidy c.keep_own.ensures in
    comes_tidy (NamedIn es) (BroughtBy looks es) c.keep_own.new.self c.follow_all.new.self (brought_named looks es) own c.in_ok-follow_all-in-None.ensures.comes

pub returns-in_ok-follow_all-in-None-clause-waiting : goal.returns-in_ok-follow_all-in-None-clause-waiting
returns-in_ok-follow_all-in-None-clause-waiting c = λ from u.
    let A = c.args.rule in
    let k = subst (λ (l : List Front). GainsOwn l A c.args.self.now c.keep_own.new.self) c.of_rule.ensures c.keep_own.ensures in
    let own = own_taken c.args.openers.now from c.args.self.now c.keep_own.new.self A c.args.waiting.now u k in
    let f = subst (λ (l : List Front). Follows (NamedIn l) (BroughtBy c.copy_looks-in-None.new.looks.bits l) c.keep_own.new.self c.follow_all.new.self c.args.waiting.now c.follow_all.new.waiting) c.of_rule-in-None.ensures c.in_ok-follow_all-in-None.ensures in
    taken_one c.args.openers.now from c.keep_own.new.self c.follow_all.new.self A c.copy_looks-in-None.new.looks.bits c.args.waiting.now c.follow_all.new.waiting own c.copy_looks-in-None.ensures.bits f
