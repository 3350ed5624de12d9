use Rattle.std.proofs.Common.{◌≡◌, ℕ, ◌<◌, inl, inr, List, length, refl, sym, ap, ◌∙◌, subst, arith}
use Rattle.std.proofs.lemmas.List.{length-map}
use Rattle.cfg_base.specs.declared.symbol.PIdx.{PIdx}
use Rattle.cfg_numbered.specs.Symbols.{numbers_of}
use Rattle.cfg_sets.specs.Follows.{HandsOnOrWaits}
use Rattle.cfg_sets.specs.WorkLists.{StandsFrom}
use Rattle.cfg_numbered.specs.Value.{productions_of}
use Rattle.cfg_sets.proofs.WorkSteps.{next_one, none_left}
use Rattle.cfg_sets.proofs.FollowFills.{taken_off, number_at, of_rule, holds_still}
use Rattle.cfg_sets.proofs.follows.FillingWorkTable.take.Goals as goal

pub prods-init : goal.prods-init
prods-init g c =
    let s = c.args.self.now in
    let G = s.grm.now.grammar in
    let listed : numbers_of g.S.IndexStorage.number c.rule_to_prods-prods.result.now ≡ productions_of G c.args.rule = c.rule_to_prods-prods.ensures ∙ ap (productions_of G) c.rule_at.ensures in
    record {
      grammar = refl;
      firsts = refl;
      exact = c.requires.sound.1;
      sound = c.requires.sound.0;
      holds = c.requires.sound.2;
      work = c.requires.work;
      closed = λ p lt. elim (taken_off G s.firsts.now s.follows c.args.work.now.list c.args.rule p lt (c.requires.closed p lt)) [
        | inl h ↦ inl h
        | inr stands ↦ inr (subst (λ (l : List ℕ). StandsFrom l 0 p) (sym listed) stands)
      ];
      room = omega arith;
    }

pub hand_on-requires-clause-production : goal.hand_on-requires-clause-production
hand_on-requires-clause-production g c =
    let number = g.S.IndexStorage.number in
    let s = c.args.self.now in
    let G = s.grm.now.grammar in
    let xs = c.rule_to_prods-prods.result.now in
    let i = c.prods.index in
    let x = c.index-prods-index.result in
    let listed : numbers_of number xs ≡ productions_of G c.args.rule = c.rule_to_prods-prods.ensures ∙ ap (productions_of G) c.rule_at.ensures in
    let count = length-map xs (λ (q : PIdx _). number q.0) in
    let lt = c.prods-test.true in
    subst (λ v. number x.0 < length v.grammar.productions) (sym c.prods.invariant.grammar)
    (of_rule G c.args.rule i (number x.0) (numbers_of number xs) listed (omega (arith, count, lt)) (number_at number xs i x lt c.index-prods-index.is))

pub prods-preserved : goal.prods-preserved
prods-preserved g c =
    let number = g.S.IndexStorage.number in
    let G = c.prods.self.grm.now.grammar in
    let f = c.prods.self.firsts.now in
    let inv = c.prods.invariant in
    let next = c.in_ok-hand_on.ensures in
    let went = next.went_on in
    let was = inv.room in
    let less = went.room in
    let i = c.prods.index in
    let xs = c.rule_to_prods-prods.result.now in
    let x = c.index-prods-index.result in
    let count = length-map xs (λ (q : PIdx _). number q.0) in
    let lt = c.prods-test.true in
    record {
      grammar = inv.grammar;
      firsts = inv.firsts;
      exact = inv.exact;
      sound = next.sound;
      holds = holds_still G f c.prods.self.follows c.hand_on.new.self c.prods.work c.hand_on.new.work went inv.holds;
      work = went.rules ∙ inv.work;
      closed = λ p in_range. next_one (HandsOnOrWaits G f c.prods.self.follows c.prods.work.list) (HandsOnOrWaits G f c.hand_on.new.self c.hand_on.new.work.list) (numbers_of number xs) i (number x.0) (omega (arith, count, lt)) (number_at number xs i x lt c.index-prods-index.is) went.closed (inl next.here) p (inv.closed p in_range);
      room = omega (arith, was, less);
    }

pub returns-clause-closed : goal.returns-clause-closed
returns-clause-closed g c = λ p in_range.
    let number = g.S.IndexStorage.number in
    let xs = c.rule_to_prods-prods.result.now in
    let count = length-map xs (λ (q : PIdx _). number q.0) in
    let end = c.prods-test.false in
    elim (c.prods.invariant.closed p in_range) [
      | inl h ↦ h
      | inr stands ↦ absurd (none_left (numbers_of number xs) c.prods.index p (omega (arith, count, end)) stands)
    ]
