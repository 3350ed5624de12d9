use Rattle.std.proofs.Common.{◌+◌, ◌*◌, [], length, drop, refl, ap, arith}
use Rattle.std.proofs.lemmas.List.{length-map, length-reverse}
use Rattle.cfg_theory.specs.Grammar.{end_token}
use Rattle.state_table.specs.Graphs.{GraphValue}
use Rattle.state_table.specs.Tables.{automaton_of}
use Rattle.lrpar.specs.Reducing.{states_of, stack_of}
use Rattle.parse_trees.specs.Lex.{token_by}
use Rattle.lrpar.specs.Run.{token_of}
use Rattle.lrpar.proofs.Room.{room_less, still_short, bounded}
use Rattle.lrpar.proofs.Joining.{goes_none, goes_more, accepts_more, fails_now, rest_same}
use Rattle.lrpar.proofs.NextLexeme.{next_on}
use Rattle.lrpar.proofs.run.advance_to.Goals as goal

pub turns-init : goal.turns-init
turns-init g c =
    let number = g.S.IndexStorage.number in
    let states = c.args.stacks.now.states in
    let v = c.args.machine.now.stable.now in
    let level = c.requires.stacks.some in
    let turned = length-reverse (states_of number states.items) in
    let same = length-map states.items (λ q. number q.0) in
    record {
      stacks = c.requires.stacks;
      keeps = g.V.ValueStack.keeps_all c.args.stacks.now.values;
      starts = λ index up. up;
      short = λ x. bounded c.args.machine.now.grm.now.grammar (automaton_of x v) c.args.machine.now.limit (token_of (token_by g.L.Lexeme.lex) (end_token c.args.machine.now.grm.now.grammar) c.args.next) (length states.items) (stack_of number states.items) (c.args.machine.now.chains x) (omega (arith, level)) (omega (arith, turned, same));
      on =
          let x = c.args.machine.now.sgraph.now in
          λ input d stand rest.
          (0, goes_none number g.L.Lexeme.lex c.args.machine.now.grm.now.grammar x v _ input d c.args.stacks.now d.rest stand refl);
    }

pub take_turn-requires-clause-stand : goal.take_turn-requires-clause-stand
take_turn-requires-clause-stand g c =
    let h = c.requires.stand in
    let k = c.turns.invariant.on h.0 h.1 h.2 h.3 in
    (h.0, k.1.config, k.1.stand, next_on c.args.next h.1.rest k.1.config.rest k.1.rest_is h.3)

pub turns-smaller : goal.turns-smaller
turns-smaller g c =
    let x : GraphValue = record { start = 0; cores = []; closed = []; edges = [] } in
    room_less c.args.machine.now.grm.now.grammar (automaton_of x c.args.machine.now.stable.now) (token_of (token_by g.L.Lexeme.lex) (end_token c.args.machine.now.grm.now.grammar) c.args.next) (length c.args.stacks.now.states.items * (c.args.machine.now.limit + 1)) _ _ (c.turns.invariant.short x) (rw c.in-Reduced.is at (c.in_ok-take_turn.ensures.reduces x))

pub turns-preserved : goal.turns-preserved
turns-preserved g c =
    let number = g.S.IndexStorage.number in
    let G = c.args.machine.now.grm.now.grammar in
    let v = c.args.machine.now.stable.now in
    record {
      stacks = rw c.in-Reduced.is at c.in_ok-take_turn.ensures.stacks;
      keeps = g.V.ValueStack.keeps_on c.args.stacks.now.values c.turns.stacks.values c.take_turn.new.stacks.values c.turns.invariant.keeps c.in_ok-take_turn.ensures.keeps;
      starts = λ index up. (rw c.in-Reduced.is at c.in_ok-take_turn.ensures.starts) index (c.turns.invariant.starts index up);
      short = λ x. still_short G (automaton_of x v) (token_of (token_by g.L.Lexeme.lex) (end_token G) c.args.next) (length c.args.stacks.now.states.items * (c.args.machine.now.limit + 1)) _ _ (c.turns.invariant.short x) (rw c.in-Reduced.is at (c.in_ok-take_turn.ensures.reduces x));
      on =
          let x = c.args.machine.now.sgraph.now in
          λ input d stand rest.
          let k = c.turns.invariant.on input d stand rest in
          let j = rw c.in-Reduced.is at (c.in_ok-take_turn.ensures.turned input k.1.config k.1.stand (next_on c.args.next d.rest k.1.config.rest k.1.rest_is rest)) in
          (k.0 + 1, goes_more number g.L.Lexeme.lex G x v _ input k.0 d c.turns.stacks d.rest k.1 1 c.take_turn.new.stacks d.rest (rest_same number g.L.Lexeme.lex G x v _ input 1 k.1.config c.take_turn.new.stacks k.1.config.rest d.rest k.1.rest_is j));
    }

pub returns-in-Shifted-clause-advanced : goal.returns-in-Shifted-clause-advanced
returns-in-Shifted-clause-advanced g c =
    let x = c.args.machine.now.sgraph.now in
    λ input d stand rest.
    let number = g.S.IndexStorage.number in
    let k = c.turns.invariant.on input d stand rest in
    let j = rw c.in-Shifted.is at (c.in_ok-take_turn.ensures.turned input k.1.config k.1.stand (next_on c.args.next d.rest k.1.config.rest k.1.rest_is rest)) in
    (k.0 + 1, goes_more number g.L.Lexeme.lex c.args.machine.now.grm.now.grammar x c.args.machine.now.stable.now _ input k.0 d c.turns.stacks d.rest k.1 1 c.take_turn.new.stacks (drop 1 d.rest) (rest_same number g.L.Lexeme.lex c.args.machine.now.grm.now.grammar x c.args.machine.now.stable.now _ input 1 k.1.config c.take_turn.new.stacks (drop 1 k.1.config.rest) (drop 1 d.rest) (ap (drop 1) k.1.rest_is) j))

pub returns-in-Accepted-clause-advanced : goal.returns-in-Accepted-clause-advanced
returns-in-Accepted-clause-advanced g c =
    let x = c.args.machine.now.sgraph.now in
    λ input d stand rest.
    let number = g.S.IndexStorage.number in
    let k = c.turns.invariant.on input d stand rest in
    let j = rw c.in-Accepted.is at (c.in_ok-take_turn.ensures.turned input k.1.config k.1.stand (next_on c.args.next d.rest k.1.config.rest k.1.rest_is rest)) in
    (j.0, (k.0 + 1, accepts_more number g.L.Lexeme.lex c.args.machine.now.grm.now.grammar x c.args.machine.now.stable.now _ input k.0 d c.turns.stacks d.rest k.1 1 c.take_turn.new.stacks.values j.1))

pub returns-in-Failed-clause-advanced : goal.returns-in-Failed-clause-advanced
returns-in-Failed-clause-advanced g c =
    let x = c.args.machine.now.sgraph.now in
    λ input d stand rest.
    let number = g.S.IndexStorage.number in
    let k = c.turns.invariant.on input d stand rest in
    let j = rw c.in-Failed.is at (c.in_ok-take_turn.ensures.turned input k.1.config k.1.stand (next_on c.args.next d.rest k.1.config.rest k.1.rest_is rest)) in
    (k.0 + 1, fails_now number g.L.Lexeme.lex c.args.machine.now.grm.now.grammar x c.args.machine.now.stable.now _ input k.0 d c.turns.stacks d.rest k.1 c.take_turn.new.stacks j.0 j.1)

pub returns-in-Shifted-clause-keeps : goal.returns-in-Shifted-clause-keeps
returns-in-Shifted-clause-keeps g c = g.V.ValueStack.keeps_on c.args.stacks.now.values c.turns.stacks.values c.take_turn.new.stacks.values c.turns.invariant.keeps c.in_ok-take_turn.ensures.keeps

pub returns-in-Accepted-clause-keeps : goal.returns-in-Accepted-clause-keeps
returns-in-Accepted-clause-keeps g c = g.V.ValueStack.keeps_on c.args.stacks.now.values c.turns.stacks.values c.take_turn.new.stacks.values c.turns.invariant.keeps c.in_ok-take_turn.ensures.keeps

pub returns-in-Failed-clause-keeps : goal.returns-in-Failed-clause-keeps
returns-in-Failed-clause-keeps g c = g.V.ValueStack.keeps_on c.args.stacks.now.values c.turns.stacks.values c.take_turn.new.stacks.values c.turns.invariant.keeps c.in_ok-take_turn.ensures.keeps
