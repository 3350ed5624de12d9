use Rattle.std.proofs.Common.{ℕ, ◌<◌, ◌⊎◌, inl, inr, List, length, get_or, refl, sym, ap, ◌∙◌, subst, arith}
use Rattle.cfg_theory.specs.Grammar.{Grammar}
use Rattle.cfg_sets.specs.WorkLists.{NamesOne, ListsNaming, StandsFrom}
use Rattle.cfg_sets.proofs.WorkSteps.{taken_off, in_range, next_one, none_left}
use Rattle.cfg_sentences.proofs.by_prods.ByProdsWorkTable.take.Goals as goal

pub prods-init : goal.prods-init
prods-init g c =
    let s = c.args.self.now in
    let G = g.T.ProdTable.grammar s.table in
    record {
      grammar = refl;
      same = g.T.ProdTable.same_refl s.table;
      naming = refl;
      sound = c.requires.sound.0;
      work = c.requires.work;
      closed = λ p lt. elim (c.requires.closed p lt) [
        | inl closed ↦ inl (inl closed)
        | inr named ↦ elim (taken_off G (length G.productions) s.naming.now c.args.work.now.list c.args.rule p c.requires.sound.1 lt named) [
          | inl waits ↦ inl (inr waits)
          | inr stands ↦ inr (subst (λ (l : List ℕ). StandsFrom l 0 p) (sym c.of-named.ensures) stands)
        ]
      ];
      room = omega arith;
    }

pub take_in-requires-clause-production : goal.take_in-requires-clause-production
take_in-requires-clause-production g c =
    let s = c.args.self.now in
    let G = g.T.ProdTable.grammar s.table in
    let lt = c.prods-test.true in
    let here : get_or c.of-named.result.now c.prods.index 0 < length G.productions =
    subst (λ (l : List ℕ). get_or l c.prods.index 0 < length G.productions) (sym c.of-named.ensures)
    (in_range G (length G.productions) s.naming.now c.args.rule c.prods.index 0 c.requires.sound.1 (subst (λ (l : List ℕ). c.prods.index < length l) c.of-named.ensures lt)) in
    subst (λ (H : Grammar). get_or c.of-named.result.now c.prods.index 0 < length H.productions) (sym c.prods.invariant.grammar) here

pub take_in-requires-clause-work : goal.take_in-requires-clause-work
take_in-requires-clause-work g c = c.prods.invariant.work ∙ ap (λ (H : Grammar). H.rules) (sym c.prods.invariant.grammar)

pub prods-preserved : goal.prods-preserved
prods-preserved g c =
    let s = c.args.self.now in
    let inv = c.prods.invariant in
    let next = c.in_ok-take_in.ensures in
    let was = inv.room in
    let less = next.room in
    let i = c.prods.index in
    let named = c.of-named.result.now in
    let C = g.T.ProdTable.is_closed_by in
    let G = g.T.ProdTable.grammar s.table in
    let kept : (p : ℕ) → C c.prods.self.table p ⊎ NamesOne G c.prods.work.list p → C c.take_in.new.table p ⊎ NamesOne G c.take_in.new.work.list p =
    subst (λ (H : Grammar). (p : ℕ) → C c.prods.self.table p ⊎ NamesOne H c.prods.work.list p → C c.take_in.new.table p ⊎ NamesOne H c.take_in.new.work.list p) inv.grammar next.kept in
    let here = subst (λ (H : Grammar). C c.take_in.new.table (get_or named i 0) ⊎ NamesOne H c.take_in.new.work.list (get_or named i 0)) inv.grammar next.here in
    record {
      grammar = next.grammar ∙ inv.grammar;
      same = g.T.ProdTable.same_trans s.table c.prods.self.table c.take_in.new.table inv.same next.same;
      naming = inv.naming;
      sound = next.sound;
      work = next.work ∙ inv.work;
      closed = λ p lt. next_one (λ q. C c.prods.self.table q ⊎ NamesOne G c.prods.work.list q) (λ q. C c.take_in.new.table q ⊎ NamesOne G c.take_in.new.work.list q) named i (get_or named i 0) c.prods-test.true refl kept here p (inv.closed p lt);
      room = omega (arith, was, less);
    }

pub returns-clause-rules : goal.returns-clause-rules
returns-clause-rules g c = ap (λ (H : Grammar). H.rules) c.prods.invariant.grammar

pub returns-clause-sound : goal.returns-clause-sound
returns-clause-sound g c =
    let inv = c.prods.invariant in
    (inv.sound, subst (λ l. ListsNaming (g.T.ProdTable.grammar c.prods.self.table) (length (g.T.ProdTable.grammar c.prods.self.table).productions) l) (sym inv.naming) (subst (λ (H : Grammar). ListsNaming H (length H.productions) c.args.self.now.naming.now) (sym inv.grammar) c.requires.sound.1))

pub returns-clause-closed : goal.returns-clause-closed
returns-clause-closed g c =
    let s = c.args.self.now in
    let inv = c.prods.invariant in
    let C = g.T.ProdTable.is_closed_by in
    let all : (p : ℕ) → p < length (g.T.ProdTable.grammar s.table).productions → C c.prods.self.table p ⊎ NamesOne (g.T.ProdTable.grammar s.table) c.prods.work.list p = λ p lt.
    elim (inv.closed p lt) [
      | inl h ↦ h
      | inr stands ↦ absurd (none_left c.of-named.result.now c.prods.index p c.prods-test.false stands)
    ] in
    subst (λ (H : Grammar). (p : ℕ) → p < length H.productions → C c.prods.self.table p ⊎ NamesOne H c.prods.work.list p) (sym inv.grammar) all
