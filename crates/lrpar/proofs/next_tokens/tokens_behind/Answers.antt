use Rattle.std.proofs.Common.{◌≡◌, [], subst, arith}
use Rattle.state_table.specs.Graphs.{GraphValue}
use Rattle.state_table.specs.Tables.{automaton_of}
use Rattle.lrpar.specs.NextStates.{TellBelow}
use Rattle.lrpar.specs.Reducing.{stack_of}
use Rattle.lrpar.proofs.NextTold.{told_more}
use Rattle.lrpar.proofs.next_tokens.tokens_behind.Goals as goal

pub set-requires : goal.set-requires
set-requires g c =
    let x : GraphValue = record { start = 0; cores = []; closed = []; edges = [] } in
    let count = (c.tokens.invariant x).count in
    let lt = c.tokens-test.true in
    let value = c.to_usize-count.ensures.value in
    let len = c.tokens_len.ensures in
    omega (arith, count, lt, value, len)

pub tokens-preserved : goal.tokens-preserved
tokens-preserved g c = λ x.
    let lt = c.tokens-test.true in
    let value = c.to_usize-count.ensures.value in
    let len = c.tokens_len.ensures in
    told_more c.args.machine.now.grm.now.grammar (automaton_of x c.args.machine.now.stable.now) (stack_of g.S.IndexStorage.number c.args.base.now) c.tokens.number c.tokens.bits.bits c.set.new.self.bits c.in_ok-told.told (omega (arith, lt, value, len)) c.set.ensures.bits
    (rw c.token_at-tidx.ensures at (c.in_ok-told.ensures x)) (c.tokens.invariant x)

pub returns : goal.returns
returns g c = λ x.
    let ge = c.tokens-test.false in
    let le = c.tokens.auto.number-end in
    let value = c.to_usize-count.ensures.value in
    let len = c.tokens_len.ensures in
    let all : c.tokens.number ≡ c.args.machine.now.grm.now.grammar.tokens = omega (arith, ge, le, value, len) in
    subst (λ n. TellBelow c.args.machine.now.grm.now.grammar (automaton_of x c.args.machine.now.stable.now) (stack_of g.S.IndexStorage.number c.args.base.now) n c.tokens.bits.bits) all (c.tokens.invariant x)
