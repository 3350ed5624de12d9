use Rattle.std.proofs.Common.{◌+◌, drop, ap, ◌∙◌, arith}
use Rattle.lrpar.proofs.Joining.{goes_none, goes_more, accepts_more, fails_more, rest_same, fails_same}
use Rattle.lrpar.proofs.NextLexeme.{at_next, inside_at, starts_at, shifted_within, starts_behind, drop_one}
use Rattle.lrpar.proofs.run.run_from.Goals as goal

pub lexemes-init : goal.lexemes-init
lexemes-init g c = record {
  keeps = g.V.ValueStack.keeps_all c.args.stacks.now.values;
  within = c.requires.index;
  stacks = c.requires.stacks;
  starts = c.requires.starts;
  on =
      let x = c.args.machine.now.sgraph.now in
      λ input d stand rest.
      (0, goes_none g.S.IndexStorage.number g.L.Lexeme.lex c.args.machine.now.grm.now.grammar x c.args.machine.now.stable.now _ input d c.args.stacks.now (drop c.args.index c.args.lexemes.now) stand rest);
}

pub advance_to-requires-clause-stand : goal.advance_to-requires-clause-stand
advance_to-requires-clause-stand g c =
    let h = c.requires.stand in
    let k = c.lexemes.invariant.on h.0 h.1 h.2 h.3 in
    (h.0, k.1.config, k.1.stand, at_next c.get-next.result c.args.lexemes.now k.1.config.rest c.lexemes.at c.get-next.ensures k.1.rest_is)

pub lexemes-preserved : goal.lexemes-preserved
lexemes-preserved g c =
    let after = rw c.in-Shifted.is at c.in_ok-advance_to.ensures.stacks in
    let lt = shifted_within g.L.Lexeme.lex (g.V.ValueStack.starts_by c.advance_to.new.stacks.values) c.args.lexemes.now c.get-next.result c.lexemes.at c.get-next.ensures after.1 in
    record {
      keeps = g.V.ValueStack.keeps_on c.args.stacks.now.values c.lexemes.stacks.values c.advance_to.new.stacks.values c.lexemes.invariant.keeps c.in_ok-advance_to.ensures.keeps;
      within = omega (arith, lt);
      stacks = after.0;
      starts = starts_behind c.args.machine.now.grm.now.grammar g.L.Lexeme.lex (g.V.ValueStack.starts_by c.advance_to.new.stacks.values) (g.V.ValueStack.starts_later c.advance_to.new.stacks.values) c.args.lexemes.now c.requires.lexemes c.lexemes.at c.get-next.result c.get-next.ensures after.1;
      on =
          let x = c.args.machine.now.sgraph.now in
          λ input d stand rest.
          let i = c.lexemes.invariant.on input d stand rest in
          let j = rw c.in-Shifted.is at (c.in_ok-advance_to.ensures.advanced input i.1.config i.1.stand (at_next c.get-next.result c.args.lexemes.now i.1.config.rest c.lexemes.at c.get-next.ensures i.1.rest_is)) in
          (i.0 + j.0, goes_more g.S.IndexStorage.number g.L.Lexeme.lex c.args.machine.now.grm.now.grammar x c.args.machine.now.stable.now _ input i.0 d c.lexemes.stacks (drop c.lexemes.at c.args.lexemes.now) i.1 j.0 c.advance_to.new.stacks (drop (c.lexemes.at + 1) c.args.lexemes.now) (rest_same g.S.IndexStorage.number g.L.Lexeme.lex c.args.machine.now.grm.now.grammar x c.args.machine.now.stable.now _ input j.0 i.1.config c.advance_to.new.stacks (drop 1 i.1.config.rest) (drop (c.lexemes.at + 1) c.args.lexemes.now) (ap (drop 1) i.1.rest_is ∙ drop_one c.args.lexemes.now c.lexemes.at) j.1));
    }

pub lexemes-smaller : goal.lexemes-smaller
lexemes-smaller g c =
    let after = rw c.in-Shifted.is at c.in_ok-advance_to.ensures.stacks in
    let lt = shifted_within g.L.Lexeme.lex (g.V.ValueStack.starts_by c.advance_to.new.stacks.values) c.args.lexemes.now c.get-next.result c.lexemes.at c.get-next.ensures after.1 in
    omega (arith, lt)

pub returns-in-Accepted-clause-ended : goal.returns-in-Accepted-clause-ended
returns-in-Accepted-clause-ended g c =
    let x = c.args.machine.now.sgraph.now in
    λ input d stand rest.
    let i = c.lexemes.invariant.on input d stand rest in
    let j = rw c.in-Accepted.is at (c.in_ok-advance_to.ensures.advanced input i.1.config i.1.stand (at_next c.get-next.result c.args.lexemes.now i.1.config.rest c.lexemes.at c.get-next.ensures i.1.rest_is)) in
    (i.0 + j.1.0, accepts_more g.S.IndexStorage.number g.L.Lexeme.lex c.args.machine.now.grm.now.grammar x c.args.machine.now.stable.now _ input i.0 d c.lexemes.stacks (drop c.lexemes.at c.args.lexemes.now) i.1 j.1.0 c.advance_to.new.stacks.values j.1.1)

pub returns-in-Failed-clause-ended : goal.returns-in-Failed-clause-ended
returns-in-Failed-clause-ended g c =
    let x = c.args.machine.now.sgraph.now in
    λ input d stand rest.
    let i = c.lexemes.invariant.on input d stand rest in
    let j = rw c.in-Failed.is at (c.in_ok-advance_to.ensures.advanced input i.1.config i.1.stand (at_next c.get-next.result c.args.lexemes.now i.1.config.rest c.lexemes.at c.get-next.ensures i.1.rest_is)) in
    (c.lexemes.invariant.within, (i.0 + j.0, fails_more g.S.IndexStorage.number g.L.Lexeme.lex c.args.machine.now.grm.now.grammar x c.args.machine.now.stable.now _ input i.0 d c.lexemes.stacks (drop c.lexemes.at c.args.lexemes.now) i.1 j.0 c.advance_to.new.stacks (drop c.lexemes.at c.args.lexemes.now) (fails_same g.S.IndexStorage.number g.L.Lexeme.lex c.args.machine.now.grm.now.grammar x c.args.machine.now.stable.now _ input j.0 i.1.config c.advance_to.new.stacks i.1.config.rest (drop c.lexemes.at c.args.lexemes.now) i.1.rest_is j.1)))

pub overflow_add-at : goal.overflow_add-at
overflow_add-at g c =
    let after = rw c.in-Shifted.is at c.in_ok-advance_to.ensures.stacks in
    let lt = shifted_within g.L.Lexeme.lex (g.V.ValueStack.starts_by c.advance_to.new.stacks.values) c.args.lexemes.now c.get-next.result c.lexemes.at c.get-next.ensures after.1 in
    omega (arith, lt)

pub advance_to-requires-clause-inside : goal.advance_to-requires-clause-inside
advance_to-requires-clause-inside g c = inside_at c.args.machine.now.grm.now.grammar g.L.Lexeme.lex c.args.lexemes.now c.requires.lexemes c.get-next.result c.lexemes.at c.get-next.ensures

pub advance_to-requires-clause-starts : goal.advance_to-requires-clause-starts
advance_to-requires-clause-starts g c = starts_at g.L.Lexeme.lex (g.V.ValueStack.starts_by c.lexemes.stacks.values) c.args.lexemes.now c.get-next.result c.lexemes.at c.get-next.ensures c.lexemes.invariant.starts

pub returns-in-Failed-clause-stacks : goal.returns-in-Failed-clause-stacks
returns-in-Failed-clause-stacks g c =
    let after = rw c.in-Failed.is at c.in_ok-advance_to.ensures.stacks in
    (after.0, after.1 _ c.lexemes.invariant.starts)

pub returns-in-Accepted-clause-keeps : goal.returns-in-Accepted-clause-keeps
returns-in-Accepted-clause-keeps g c = g.V.ValueStack.keeps_on c.args.stacks.now.values c.lexemes.stacks.values c.advance_to.new.stacks.values c.lexemes.invariant.keeps c.in_ok-advance_to.ensures.keeps

pub returns-in-Failed-clause-keeps : goal.returns-in-Failed-clause-keeps
returns-in-Failed-clause-keeps g c = g.V.ValueStack.keeps_on c.args.stacks.now.values c.lexemes.stacks.values c.advance_to.new.stacks.values c.lexemes.invariant.keeps c.in_ok-advance_to.ensures.keeps
