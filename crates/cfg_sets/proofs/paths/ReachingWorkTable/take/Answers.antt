use Rattle.std.proofs.Common.{◌≡◌, ℕ, ◌<◌, inl, inr, List, length, refl, sym, ap, ◌∙◌, subst, arith}
use Rattle.std.specs.Prelude.{IsTrue}
use Rattle.std.proofs.lemmas.List.{length-map}
use Rattle.cfg_base.specs.declared.symbol.PIdx.{PIdx}
use Rattle.cfg_theory.specs.Grammar.{head_of}
use Rattle.cfg_numbered.specs.Symbols.{numbers_of}
use Rattle.vob.specs.Sets.{is_set}
use Rattle.cfg_sets.specs.Paths.{ReachedOrWaits}
use Rattle.cfg_sets.specs.WorkLists.{StandsFrom}
use Rattle.cfg_numbered.specs.Value.{productions_of}
use Rattle.cfg_sets.proofs.WorkSteps.{next_one, none_left}
use Rattle.cfg_sets.proofs.FollowFills.{number_at, of_rule, head_is}
use Rattle.cfg_sets.proofs.PathFills.{taken_off, from_rest}
use Rattle.cfg_sets.proofs.paths.ReachingWorkTable.take.Goals as goal

pub prods-init : goal.prods-init
prods-init g c =
    let s = c.args.self.now in
    let G = s.grm.now.grammar in
    let A = g.S.IndexStorage.number s.from.0 in
    let listed : numbers_of g.S.IndexStorage.number c.rule_to_prods-prods.result.now ≡ productions_of G c.args.rule = c.rule_to_prods-prods.ensures ∙ ap (productions_of G) c.rule_at.ensures in
    record {
      grammar = refl;
      start = refl;
      width = c.requires.sound.0;
      sound = c.requires.sound.1;
      work = c.requires.work;
      kept = λ B h. h;
      from = (from_rest A s.reached.bits c.args.work.now.list c.args.rule c.requires.closed.from).0;
      closed = λ p lt. elim (taken_off G A s.reached.bits c.args.work.now.list c.args.rule p lt (c.requires.closed.closed p lt)) [
        | inl h ↦ inl h
        | inr stands ↦ inr (subst (λ (l : List ℕ). StandsFrom l 0 p) (sym listed) stands)
      ];
      room = omega arith;
    }

pub reach_named-requires-clause-production : goal.reach_named-requires-clause-production
reach_named-requires-clause-production g c =
    let number = g.S.IndexStorage.number in
    let s = c.args.self.now in
    let G = s.grm.now.grammar in
    let xs = c.rule_to_prods-prods.result.now in
    let i = c.prods.index in
    let x = c.index-prods-index.result in
    let listed : numbers_of number xs ≡ productions_of G c.args.rule = c.rule_to_prods-prods.ensures ∙ ap (productions_of G) c.rule_at.ensures in
    let count = length-map xs (λ (q : PIdx _). number q.0) in
    let lt = c.prods-test.true in
    subst (λ v. number x.0 < length v.grammar.productions) (sym c.prods.invariant.grammar)
    (of_rule G c.args.rule i (number x.0) (numbers_of number xs) listed (omega (arith, count, lt)) (number_at number xs i x lt c.index-prods-index.is))

pub reach_named-requires-clause-reached : goal.reach_named-requires-clause-reached
reach_named-requires-clause-reached g c =
    let number = g.S.IndexStorage.number in
    let s = c.args.self.now in
    let G = s.grm.now.grammar in
    let A = number s.from.0 in
    let xs = c.rule_to_prods-prods.result.now in
    let i = c.prods.index in
    let x = c.index-prods-index.result in
    let inv = c.prods.invariant in
    let listed : numbers_of number xs ≡ productions_of G c.args.rule = c.rule_to_prods-prods.ensures ∙ ap (productions_of G) c.rule_at.ensures in
    let count = length-map xs (λ (q : PIdx _). number q.0) in
    let lt = c.prods-test.true in
    let head : head_of G (number x.0) ≡ c.args.rule = head_is G c.args.rule i (number x.0) (numbers_of number xs) listed (omega (arith, count, lt)) (number_at number xs i x lt c.index-prods-index.is) in
    let head' : head_of c.prods.self.grm.now.grammar (number x.0) ≡ c.args.rule = ap (λ v. head_of v.grammar (number x.0)) inv.grammar ∙ head in
    elim (from_rest A s.reached.bits c.args.work.now.list c.args.rule c.requires.closed.from).1 [
      | inl e ↦ inl (head' ∙ e ∙ sym inv.start)
      | inr h ↦ inr (subst (λ B. IsTrue (is_set c.prods.self.reached.bits B)) (sym head') (inv.kept c.args.rule h))
    ]

pub prods-preserved : goal.prods-preserved
prods-preserved g c =
    let number = g.S.IndexStorage.number in
    let G = c.prods.self.grm.now.grammar in
    let A = number c.prods.self.from.0 in
    let inv = c.prods.invariant in
    let next = c.in_ok-reach_named.ensures in
    let went = next.went_on in
    let was = inv.room in
    let less = went.room in
    let i = c.prods.index in
    let xs = c.rule_to_prods-prods.result.now in
    let x = c.index-prods-index.result in
    let count = length-map xs (λ (q : PIdx _). number q.0) in
    let lt = c.prods-test.true in
    record {
      grammar = inv.grammar;
      start = inv.start;
      width = next.width;
      sound = next.sound;
      work = went.rules ∙ inv.work;
      kept = λ B h. went.kept B (inv.kept B h);
      from = went.from inv.from;
      closed = λ p in_range. next_one (ReachedOrWaits G A c.prods.self.reached.bits c.prods.work.list) (ReachedOrWaits G A c.reach_named.new.reached.bits c.reach_named.new.work.list) (numbers_of number xs) i (number x.0) (omega (arith, count, lt)) (number_at number xs i x lt c.index-prods-index.is) went.closed (inl next.here) p (inv.closed p in_range);
      room = omega (arith, was, less);
    }

pub returns-clause-closed : goal.returns-clause-closed
returns-clause-closed g c =
    let number = g.S.IndexStorage.number in
    let xs = c.rule_to_prods-prods.result.now in
    let count = length-map xs (λ (q : PIdx _). number q.0) in
    let end = c.prods-test.false in
    record {
      closed = λ p in_range. elim (c.prods.invariant.closed p in_range) [
        | inl h ↦ h
        | inr stands ↦ absurd (none_left (numbers_of number xs) c.prods.index p (omega (arith, count, end)) stands)
      ];
      from = c.prods.invariant.from;
    }
