use Rattle.std.proofs.Common.{◌≡◌, [], ◌∷◌, length, sym, ap, ◌∙◌, subst, refl, arith}
use Rattle.std.proofs.lemmas.List.{drop_all}
use Rattle.state_table.specs.Tables.{automaton_of}
use Rattle.lrpar.specs.NextTokens.{Reaches}
use Rattle.lrpar.specs.Reducing.{AreStates, stack_of}
use Rattle.lrpar.specs.Replay.{overlaid}
use Rattle.parse_trees.specs.Lex.{token_by}
use Rattle.lrpar.specs.declared.overlay.Overlay.{Overlay}
use Rattle.lrpar.proofs.NextTold.{over_one, over_nothing, one_state, comes_first, comes_on, stops_here}
use Rattle.lrpar.proofs.Turning.{slice_read}
use Rattle.lrpar.proofs.next_tokens.states_behind.Goals as goal

pub lexemes-init : goal.lexemes-init
lexemes-init g c =
    let number = g.S.IndexStorage.number in
    let v = c.args.machine.now.stable.now in
    let o : Overlay g.row.S.Denot = record { kept = 0; over = c.push.new.self } in
    let q = c.start_state.result in
    let items : c.push.new.self.items ≡ q ∷ [] = rw c.new-over.ensures.items at c.in_ok-push.ensures.items in
    let e : overlaid number c.new-base.result.items o ≡ number q.0 ∷ [] = over_one number c.new-base.result.items o q refl items in
    let value = c.start_state.ensures.value in
    let within = c.start_state.ensures.within in
    let n = ap length e in
    record {
      over = record { within = omega arith; are_states = subst (AreStates v) (sym e) (one_state v (number q.0) (omega (arith, value, within))); some = omega (arith, n) };
      comes = comes_first c.args.machine.now.grm.now.grammar v (token_by g.L.Lexeme.lex) c.args.lexemes.now (overlaid number c.new-base.result.items o) (e ∙ ap (λ s. s ∷ []) value);
    }

pub shift_on-requires-clause-token : goal.shift_on-requires-clause-token
shift_on-requires-clause-token g c =
    let y = c.index-lexemes-index.result in
    let lt = c.requires.inside c.lexemes.index y (slice_read c.args.lexemes.now c.lexemes.index y c.lexemes-test.true c.index-lexemes-index.is) in
    let same = c.args.machine.now.table.tokens in
    let is = c.tok_id.ensures in
    omega (arith, lt, same, is)

pub returns-then-not-branch-clause-reaches : goal.returns-then-not-branch-clause-reaches
returns-then-not-branch-clause-reaches g c =
    let number = g.S.IndexStorage.number in
    let y = c.index-lexemes-index.result in
    let base = c.new-base.result.items in
    stops_here c.args.machine.now.grm.now.grammar c.args.machine.now.stable.now (token_by g.L.Lexeme.lex) c.args.machine.now.table c.args.lexemes.now c.requires.inside c.lexemes.index (number c.tok_id.result) y (overlaid number base c.lexemes.overlay) (overlaid number base c.shift_on.new.overlay) c.lexemes.invariant.comes
    (slice_read c.args.lexemes.now c.lexemes.index y c.lexemes-test.true c.index-lexemes-index.is) c.tok_id.ensures (λ x. rw (c.if-not-branch.true, c.as_slice.ensures.value) at (c.in_ok-shift_on.ensures.shifts x)) c.args.machine.now.sgraph.now c.args.machine.now.pair.safe c.args.machine.now.pair.counts.start

pub lexemes-preserved : goal.lexemes-preserved
lexemes-preserved g c =
    let number = g.S.IndexStorage.number in
    let y = c.index-lexemes-index.result in
    let base = c.new-base.result.items in
    record {
      over = rw c.as_slice.ensures.value at c.in_ok-shift_on.ensures.over;
      comes = comes_on c.args.machine.now.grm.now.grammar c.args.machine.now.stable.now (token_by g.L.Lexeme.lex) c.args.machine.now.table c.args.lexemes.now c.requires.inside c.lexemes.index (number c.tok_id.result) y (overlaid number base c.lexemes.overlay) (overlaid number base c.shift_on.new.overlay) c.lexemes.invariant.comes
          (slice_read c.args.lexemes.now c.lexemes.index y c.lexemes-test.true c.index-lexemes-index.is) c.tok_id.ensures (λ x. rw (c.if-not-branch.false, c.as_slice.ensures.value) at (c.in_ok-shift_on.ensures.shifts x));
    }

-- the overlay is over nothing
same : (g : _) (c : goal.After-drop-base-2 g) → overlaid g.S.IndexStorage.number c.new-base.result.items c.lexemes.overlay ≡ stack_of g.S.IndexStorage.number c.lexemes.overlay.over.items
same g c = ap (λ l. overlaid g.S.IndexStorage.number l c.lexemes.overlay) c.new-base.ensures.items ∙ over_nothing g.S.IndexStorage.number c.lexemes.overlay

pub returns-clause-reaches : goal.returns-clause-reaches
returns-clause-reaches g c =
    let x = c.args.machine.now.sgraph.now in
    let h = c.lexemes.invariant.comes x c.args.machine.now.pair.safe c.args.machine.now.pair.counts.start in
    let end = drop_all c.lexemes.index c.args.lexemes.now (omega (arith, c.lexemes-test.false)) in
    (h.0, subst (λ l. Reaches c.args.machine.now.grm.now.grammar (automaton_of x c.args.machine.now.stable.now) (token_by g.L.Lexeme.lex) c.args.lexemes.now l h.0) end h.1, h.2 ∙ same g c)

pub returns-clause-states : goal.returns-clause-states
returns-clause-states g c = subst (AreStates c.args.machine.now.stable.now) (same g c) c.lexemes.invariant.over.are_states
