use Rattle.std.proofs.Common.{◌≡◌, ℕ, suc, ◌+◌, ◌-◌, ◌≤◌, ◌↔◌, inl, length, sym, ap, ◌∙◌, subst, arith}
use Rattle.std.specs.Prelude.{IsTrue}
use Rattle.std.proofs.lemmas.List.{length-map}
use Rattle.cfg_theory.specs.Grammar.{head_of, body_of}
use Rattle.cfg_numbered.specs.Symbols.{sym_of}
use Rattle.vob.specs.Sets.{is_set, is_set_in, AreRows}
use Rattle.cfg_sets.specs.Follows.{HasFollow}
use Rattle.cfg_sets.proofs.FollowSteps.{starts_behind, has_set, is_within, in_rules, here, told, true_bits, new_bits, added_sizes, added_sound, added_keeps}
use Rattle.cfg_sets.proofs.FollowFills.{HoldsFrom, holds_none, holds_more, added_has}
use Rattle.cfg_sets.proofs.follows.YaccFollows.take_prod.Goals as goal

pub back-init : goal.back-init
back-init g c =
    let G = c.args.grm.now.grammar in
    let p = g.S.IndexStorage.number c.args.pidx.0 in
    let xs = c.prod-symbols.result.now in
    let len = ap length c.prod-symbols.ensures in
    let count = length-map xs (sym_of g.S.IndexStorage.number) in
    let le : length (body_of G p) ≤ length xs - 0 = omega (arith, len, count) in
    record {
      sizes = c.requires.sound.sizes;
      width = c.copy_set.ensures.width ∙ c.requires.sound.sizes.tokens;
      sound = c.requires.sound.sound;
      kept = λ A t h. h;
      bits = starts_behind c.args.firsts.now (HasFollow c.args.self.now (head_of G p)) (body_of G p) (length xs - 0) c.copy_set.new.to.bits le
          (subst (λ (A : ℕ). (t : ℕ) → IsTrue (is_set c.copy_set.new.to.bits t) ↔ HasFollow c.args.self.now A t) c.prod_to_rule.ensures c.copy_set.ensures.bits);
      holds = holds_none G c.args.firsts.now p (length xs - 0) c.args.self.now c.args.self.now le;
    }

pub add_behind-requires-clause-within : goal.add_behind-requires-clause-within
add_behind-requires-clause-within g c =
    let xs = c.prod-symbols.result.now in
    let lt = c.back-test.true in
    let at = length xs - 1 - c.back.index in
    let e : at + 1 + c.back.index ≡ length xs = omega (arith, lt) in
    has_set c.args.grm.now.grammar c.stays_well_formed.ensures c.args.firsts.now c.requires.firsts (g.S.IndexStorage.number c.args.pidx.0) c.requires.production (sym_of g.S.IndexStorage.number) xs c.prod-symbols.ensures c.back.index at c.index-symbols-symbols.result e c.index-symbols-symbols.is c.back.self c.back.invariant.sizes

pub put_before-requires-clause-within : goal.put_before-requires-clause-within
put_before-requires-clause-within g c =
    let xs = c.prod-symbols.result.now in
    let lt = c.back-test.true in
    let at = length xs - 1 - c.back.index in
    let e : at + 1 + c.back.index ≡ length xs = omega (arith, lt) in
    is_within c.args.grm.now.grammar c.stays_well_formed.ensures c.args.firsts.now c.requires.firsts (g.S.IndexStorage.number c.args.pidx.0) c.requires.production (sym_of g.S.IndexStorage.number) xs c.prod-symbols.ensures c.back.index at c.index-symbols-symbols.result e c.index-symbols-symbols.is

pub back-preserved : goal.back-preserved
back-preserved g c =
    let number = g.S.IndexStorage.number in
    let G = c.args.grm.now.grammar in
    let good = c.stays_well_formed.ensures in
    let f = c.args.firsts.now in
    let k = c.requires.firsts in
    let p = number c.args.pidx.0 in
    let ok = c.requires.production in
    let xs = c.prod-symbols.result.now in
    let body = c.prod-symbols.ensures in
    let lt = c.back-test.true in
    let index = c.back.index in
    let at = length xs - 1 - index in
    let e : at + 1 + index ≡ length xs = omega (arith, lt) in
    let x = c.index-symbols-symbols.result in
    let is = c.index-symbols-symbols.is in
    let start = c.args.self.now in
    let old = c.back.self in
    let new = c.add_behind.new.self in
    let bits = c.back.behind.bits in
    let inv = c.back.invariant in
    let within = in_rules G good f k p ok (sym_of number) xs body index at x e is in
    let kept : (A t : ℕ) → HasFollow old A t → HasFollow new A t = λ A t h. subst (λ l. IsTrue (is_set_in l A t)) (sym c.add_behind.ensures.rows) (added_keeps G.rules G.tokens old.rows (sym_of number x) bits A t inv.sizes.rows within inv.width h) in
    let a : length xs - index ≡ suc at = omega (arith, e) in
    let b : at ≡ length xs - (index + 1) = omega (arith, e) in
    record {
      sizes = record {
        tokens = c.add_behind.ensures.tokens ∙ inv.sizes.tokens;
        rows = subst (AreRows G.rules G.tokens) (sym c.add_behind.ensures.rows) (added_sizes G.rules G.tokens old.rows (sym_of number x) bits inv.sizes.rows within inv.width);
      };
      width = c.put_before.ensures.width ∙ k.sizes.tokens;
      sound = added_sound G old new (sym_of number x) bits inv.sound inv.sizes.rows within inv.width c.add_behind.ensures.rows (true_bits G good f k p ok (sym_of number) xs body index at x e is start bits inv.bits c.requires.sound.sound);
      kept = λ A t h. kept A t (inv.kept A t h);
      bits = new_bits G good f k p ok (sym_of number) xs body index at x e is start bits inv.bits c.put_before.new.tail.bits c.put_before.ensures.bits;
      holds = subst (λ d. HoldsFrom G f p d start new) b (holds_more G f p at (sym_of number x) bits start old new (here G good f k p ok (sym_of number) xs body index at x e is) (told G good f k p ok (sym_of number) xs body index at x e is start bits inv.bits)
          (subst (λ d. HoldsFrom G f p d start old) a inv.holds) kept (added_has G.rules G.tokens old new (sym_of number x) bits inv.sizes.rows within inv.width c.add_behind.ensures.rows));
    }

pub returns-clause-sound : goal.returns-clause-sound
returns-clause-sound g c = record { sizes = c.back.invariant.sizes; sound = c.back.invariant.sound; width = c.back.invariant.width }

pub returns-clause-firsts : goal.returns-clause-firsts
returns-clause-firsts g c = λ d R t n x.
    let end = c.back-test.false in
    let le : length c.prod-symbols.result.now - c.back.index ≤ d = omega (arith, end) in
    c.back.invariant.holds d R t le n (inl x)
