use Rattle.std.proofs.Common.{◌≡◌, suc, ◌+◌, ◌-◌, ◌<◌, ◌≤◌, true, false, List, length, drop, refl, sym, ap, ◌∙◌, subst, arith}
use Rattle.std.proofs.lemmas.List.{length-map}
use Rattle.cfg_theory.specs.Grammar.{Sym, IsOf, head_of, body_of}
use Rattle.cfg_theory.specs.First.{AllOf}
use Rattle.cfg_numbered.specs.Symbols.{sym_of}
use Rattle.cfg_sets.specs.Firsts.{HasEpsilon}
use Rattle.cfg_sets.specs.Follows.{Hands}
use Rattle.cfg_sets.proofs.FollowSteps.{has_set, is_within, here, next}
use Rattle.cfg_sets.proofs.FollowFills.{HandedFrom, handed_none, drop_past, all_cons, went_none, went_more, handed_more, handed_all, handed_sound, hands_whole}
use Rattle.cfg_sets.proofs.follows.YaccFollows.hand_on.Goals as goal

pub back-init : goal.back-init
back-init g c =
    let G = c.args.grm.now.grammar in
    let p = g.S.IndexStorage.number c.args.pidx.0 in
    let f = c.args.firsts.now in
    let xs = c.prod-symbols.result.now in
    let len = ap length c.prod-symbols.ensures in
    let count = length-map xs (sym_of g.S.IndexStorage.number) in
    let le : length (body_of G p) ≤ length xs - 0 = omega (arith, len, count) in
    record {
      sound = c.requires.sound;
      passed = subst (λ (l : List Sym). AllOf (HasEpsilon f) l) (sym (drop_past (body_of G p) (length xs - 0) le)) tt;
      handed = handed_none G p (length xs - 0) c.args.self.now le;
      went = went_none G f c.args.self.now c.args.work.now;
    }

pub hand_to_symbol-requires-clause-within : goal.hand_to_symbol-requires-clause-within
hand_to_symbol-requires-clause-within g c =
    let xs = c.prod-symbols.result.now in
    let lt = c.back-test.true in
    let at = length xs - 1 - c.back.index in
    let e : at + 1 + c.back.index ≡ length xs = omega (arith, lt) in
    has_set c.args.grm.now.grammar c.stays_well_formed.ensures c.args.firsts.now c.requires.firsts (g.S.IndexStorage.number c.args.pidx.0) c.requires.production (sym_of g.S.IndexStorage.number) xs c.prod-symbols.ensures c.back.index at c.index-symbols-symbols.result e c.index-symbols-symbols.is c.back.self c.back.invariant.sound.sizes

pub hand_to_symbol-requires-clause-from : goal.hand_to_symbol-requires-clause-from
hand_to_symbol-requires-clause-from g c =
    let G = c.args.grm.now.grammar in
    let p = g.S.IndexStorage.number c.args.pidx.0 in
    let o : IsOf G p (head_of G p) = record { in_range = c.requires.production; head = refl } in
    subst (λ n. g.S.IndexStorage.number c.prod_to_rule-head.result.0 < n) (sym c.back.invariant.sound.sizes.rows.count) (subst (λ n. n < G.rules) (sym c.prod_to_rule-head.ensures) (c.stays_well_formed.ensures.heads p (head_of G p) o))

pub hand_to_symbol-requires-clause-width : goal.hand_to_symbol-requires-clause-width
hand_to_symbol-requires-clause-width g c = c.back.invariant.sound.width ∙ sym c.back.invariant.sound.sizes.tokens

pub hand_to_symbol-requires-clause-work : goal.hand_to_symbol-requires-clause-work
hand_to_symbol-requires-clause-work g c = c.back.invariant.went.rules ∙ c.requires.work ∙ sym c.back.invariant.sound.sizes.rows.count

pub is_nullable-requires : goal.is_nullable-requires
is_nullable-requires g c =
    let xs = c.prod-symbols.result.now in
    let lt = c.back-test.true in
    let at = length xs - 1 - c.back.index in
    let e : at + 1 + c.back.index ≡ length xs = omega (arith, lt) in
    is_within c.args.grm.now.grammar c.stays_well_formed.ensures c.args.firsts.now c.requires.firsts (g.S.IndexStorage.number c.args.pidx.0) c.requires.production (sym_of g.S.IndexStorage.number) xs c.prod-symbols.ensures c.back.index at c.index-symbols-symbols.result e c.index-symbols-symbols.is

pub returns-then-not-is_nullable : goal.returns-then-not-is_nullable
returns-then-not-is_nullable g c =
    let number = g.S.IndexStorage.number in
    let G = c.args.grm.now.grammar in
    let f = c.args.firsts.now in
    let k = c.requires.firsts in
    let p = number c.args.pidx.0 in
    let ok = c.requires.production in
    let xs = c.prod-symbols.result.now in
    let lt = c.back-test.true in
    let index = c.back.index in
    let at = length xs - 1 - index in
    let e : at + 1 + index ≡ length xs = omega (arith, lt) in
    let x = c.index-symbols-symbols.result in
    let X = sym_of number x in
    let old = c.back.self in
    let new = c.hand_to_symbol.new.self in
    let was = c.back.work in
    let is = c.hand_to_symbol.new.work in
    let inv = c.back.invariant in
    let place = here G c.stays_well_formed.ensures f k p ok (sym_of number) xs c.prod-symbols.ensures index at x e c.index-symbols-symbols.is in
    let h : Hands (head_of G p) X old new was is = subst (λ A. Hands A X old new was is) c.prod_to_rule-head.ensures c.in_ok-hand_to_symbol.ensures.handed in
    let a : length xs - index ≡ suc at = omega (arith, e) in
    let all : AllOf (HasEpsilon f) (drop (suc at) (body_of G p)) = subst (λ d. AllOf (HasEpsilon f) (drop d (body_of G p))) a inv.passed in
    let later : HandedFrom G p (suc at) old = subst (λ d. HandedFrom G p d old) a inv.handed in
    let never : true ≡ false → ⊥ = λ q. cc in
    record {
      sound = handed_sound G f p at X old new was is place h c.back.row.bits c.hand_to_symbol.new.row.bits k ok all inv.sound c.in_ok-hand_to_symbol.ensures.width;
      went_on = went_more G f (head_of G p) X c.args.self.now old new c.args.work.now was is inv.went h;
      here = handed_all G f p at X old new was is place h (λ n. never (sym (c.is_nullable.ensures.1 n) ∙ c.if-not-is_nullable.true)) (handed_more G f p at X old new was is place h later);
    }

pub back-preserved : goal.back-preserved
back-preserved g c =
    let number = g.S.IndexStorage.number in
    let G = c.args.grm.now.grammar in
    let f = c.args.firsts.now in
    let k = c.requires.firsts in
    let p = number c.args.pidx.0 in
    let ok = c.requires.production in
    let xs = c.prod-symbols.result.now in
    let lt = c.back-test.true in
    let index = c.back.index in
    let at = length xs - 1 - index in
    let e : at + 1 + index ≡ length xs = omega (arith, lt) in
    let x = c.index-symbols-symbols.result in
    let X = sym_of number x in
    let old = c.back.self in
    let new = c.hand_to_symbol.new.self in
    let was = c.back.work in
    let is = c.hand_to_symbol.new.work in
    let inv = c.back.invariant in
    let place = here G c.stays_well_formed.ensures f k p ok (sym_of number) xs c.prod-symbols.ensures index at x e c.index-symbols-symbols.is in
    let rest = next G c.stays_well_formed.ensures f k p ok (sym_of number) xs c.prod-symbols.ensures index at x e c.index-symbols-symbols.is in
    let h : Hands (head_of G p) X old new was is = subst (λ A. Hands A X old new was is) c.prod_to_rule-head.ensures c.in_ok-hand_to_symbol.ensures.handed in
    let a : length xs - index ≡ suc at = omega (arith, e) in
    let b : at ≡ length xs - (index + 1) = omega (arith, e) in
    let all : AllOf (HasEpsilon f) (drop (suc at) (body_of G p)) = subst (λ d. AllOf (HasEpsilon f) (drop d (body_of G p))) a inv.passed in
    let later : HandedFrom G p (suc at) old = subst (λ d. HandedFrom G p d old) a inv.handed in
    record {
      sound = handed_sound G f p at X old new was is place h c.back.row.bits c.hand_to_symbol.new.row.bits k ok all inv.sound c.in_ok-hand_to_symbol.ensures.width;
      passed = subst (λ (l : List Sym). AllOf (HasEpsilon f) l) (sym rest) (all_cons f X (drop (length xs - index) (body_of G p)) (c.is_nullable.ensures.0 c.if-not-is_nullable.false) inv.passed);
      handed = subst (λ d. HandedFrom G p d new) b (handed_more G f p at X old new was is place h later);
      went = went_more G f (head_of G p) X c.args.self.now old new c.args.work.now was is inv.went h;
    }

pub returns-clause-here : goal.returns-clause-here
returns-clause-here g c =
    let G = c.args.grm.now.grammar in
    let p = g.S.IndexStorage.number c.args.pidx.0 in
    let end = c.back-test.false in
    let none : length c.prod-symbols.result.now - c.back.index ≡ 0 = omega (arith, end) in
    hands_whole G c.args.firsts.now p c.back.self (subst (λ d. HandedFrom G p d c.back.self) none c.back.invariant.handed)
