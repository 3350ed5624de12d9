use Rattle.std.proofs.Common.{◌≡◌, ◌-◌, suc, length, drop, List, None, refl, sym, ap, ◌∙◌, arith}
use Rattle.std.proofs.lemmas.List.{length-map}
use Rattle.cfg_theory.specs.Grammar.{end_token}
use Rattle.lr_theory.specs.Automaton.{Safe, shift, reduce, accept}
use Rattle.lr_theory.specs.Machine.{Config, next_or, act, step}
use Rattle.state_table.specs.Graphs.{GraphValue}
use Rattle.state_table.specs.TableValues.{action_at}
use Rattle.state_table.specs.CellViews.{action_of}
use Rattle.state_table.specs.declared.stidx.StIdx.{StIdx}
use Rattle.state_table.specs.declared.cells.Action.TheVariants as actions
use Rattle.state_table.specs.Tables.{automaton_of}
use Rattle.lrpar.specs.Reducing.{states_of, stack_of}
use Rattle.lrpar.specs.Run.{StandFor, token_of, NextOf}
use Rattle.parse_trees.specs.Lex.{token_by}
use Rattle.lrpar.proofs.Reduced.{number_at, state_in}
use Rattle.lrpar.proofs.Turning.{reduction_by, are_shifted, reduction_holds, stack_some, stepped, reduction_goes, turned_reduce, turned_shift, turned_accept}
use Rattle.lrpar.proofs.NextLexeme.{next_is, token_within, end_is_none}
use Rattle.lrpar.proofs.run.take_turn.Goals as goal
use Rattle.lrpar.proofs.run.take_turn.Goals.{After-action}

pub action-requires-clause-state : goal.action-requires-clause-state
action-requires-clause-state g c =
    let states = c.args.stacks.now.states in
    let level = c.requires.stacks.some in
    state_in g.S.IndexStorage.number c.args.machine.now.stable.now states.items (c.len.result - 1) c.index-top.result.now c.requires.stacks.are_states (omega (arith, level, states.ok.0)) c.index-top.ensures

pub action-requires-clause-token : goal.action-requires-clause-token
action-requires-clause-token g c =
    let within = token_within c.args.machine.now.grm.now.grammar g.L.Lexeme.lex c.args.next c.requires.inside in
    let is = c.requires.token in
    let tokens = c.args.machine.now.table.tokens in
    let some = c.args.machine.now.table.well_formed.end_token in
    omega (arith, within, is, tokens, some)

-- the step is the action that the code found
found : (g : _) (c : After-action g) (x : GraphValue) (input : List g.row.L.Denot) (d : Config g.row.L.Denot) → Safe c.args.machine.now.grm.now.grammar (automaton_of x c.args.machine.now.stable.now) →
    StandFor g.S.IndexStorage.number g.L.Lexeme.lex c.args.machine.now.grm.now.grammar x c.args.machine.now.stable.now (g.V.ValueStack.stands c.args.machine.now.grm.now.grammar) input c.args.stacks.now d → NextOf c.args.next d.rest →
    step c.args.machine.now.grm.now.grammar (automaton_of x c.args.machine.now.stable.now) (token_by g.L.Lexeme.lex) d ≡ act c.args.machine.now.grm.now.grammar (automaton_of x c.args.machine.now.stable.now) (action_of g.S.IndexStorage.number c.action.result) (stack_of g.S.IndexStorage.number c.args.stacks.now.states.items) d.trees d.rest
found g c x input d safe stand rest =
    let number = g.S.IndexStorage.number in
    let states = c.args.stacks.now.states in
    let G = c.args.machine.now.grm.now.grammar in
    let v = c.args.machine.now.stable.now in
    let top = number c.index-top.result.now.0 in
    let level = c.requires.stacks.some in
    let same : length (states_of number states.items) ≡ length states.items = length-map states.items (λ q. number q.0) in
    let len : suc (c.len.result - 1) ≡ length (states_of number states.items) = omega (arith, same, level, states.ok.0) in
    let next : number c.args.tidx.0 ≡ next_or (token_by g.L.Lexeme.lex) (end_token G) d.rest = c.requires.token ∙ sym (next_is (token_by g.L.Lexeme.lex) (end_token G) c.args.next d.rest rest) in
    let cell : action_at v top (next_or (token_by g.L.Lexeme.lex) (end_token G) d.rest) ≡ action_of number c.action.result = sym (c.action.ensures ∙ ap (action_at v top) next) in
    stepped number g.L.Lexeme.lex G x v _ input c.args.machine.now.table.well_formed safe c.args.stacks.now d (c.len.result - 1) top (action_of number c.action.result) stand len (number_at number states.items (c.len.result - 1) c.index-top.result.now c.index-top.ensures) cell

-- a shift has a lexeme
has_lexeme : (g : _) (c : After-action g) (target : StIdx g.row.S.Denot) → c.action.result ≡ actions.Shift target → c.args.next ≡ None → ⊥
has_lexeme g c target e nothing =
    let number = g.S.IndexStorage.number in
    let G = c.args.machine.now.grm.now.grammar in
    let v = c.args.machine.now.stable.now in
    let safe = c.args.machine.now.pair.safe in
    let cell : action_at v (number c.index-top.result.now.0) (number c.args.tidx.0) ≡ shift (number target.0) = sym c.action.ensures ∙ ap (action_of number) e in
    (safe.shifts (number c.index-top.result.now.0) (number c.args.tidx.0) (number target.0) cell).1 (c.requires.token ∙ ap (token_of (token_by g.L.Lexeme.lex) (end_token G)) nothing)

pub reduce_onto-requires-clause-goes : goal.reduce_onto-requires-clause-goes
reduce_onto-requires-clause-goes g c = λ y.
    let number = g.S.IndexStorage.number in
    let h = c.requires.stand in
    reduction_goes number g.L.Lexeme.lex c.args.machine.now.grm.now.grammar c.args.machine.now.sgraph.now c.args.machine.now.stable.now _ h.0 c.args.machine.now.table.well_formed c.args.machine.now.pair.safe c.args.stacks.now h.1 h.2 (number c.in-Reduce.pidx.0)
    (found g (goal.at.reduce_onto-requires-clause-goes g c).After-action c.args.machine.now.sgraph.now h.0 h.1 c.args.machine.now.pair.safe h.2 h.3 ∙ rw c.in-Reduce.is refl)

pub unreachable-requires : goal.unreachable-requires
unreachable-requires g c = has_lexeme g (goal.at.unreachable-requires g c).After-action c.in-Shift.target c.in-Shift.is c.in-None.is

pub returns-in_ok-reduce_onto-in-Reduce-clause-reduces : goal.returns-in_ok-reduce_onto-in-Reduce-clause-reduces
returns-in_ok-reduce_onto-in-Reduce-clause-reduces g c = λ x.
    let number = g.S.IndexStorage.number in
    let states = c.args.stacks.now.states in
    let v = c.args.machine.now.stable.now in
    let G = c.args.machine.now.grm.now.grammar in
    let top = number c.index-top.result.now.0 in
    let level = c.requires.stacks.some in
    let same : length (states_of number states.items) ≡ length states.items = length-map states.items (λ q. number q.0) in
    let len : suc (c.len.result - 1) ≡ length (states_of number states.items) = omega (arith, same, level, states.ok.0) in
    let cell : action_at v top (token_of (token_by g.L.Lexeme.lex) (end_token G) c.args.next) ≡ reduce (number c.in-Reduce.pidx.0) = sym (c.action.ensures ∙ ap (action_at v top) c.requires.token) ∙ ap (action_of number) c.in-Reduce.is in
    reduction_by {L = g.row.L.Denot} G (automaton_of x v) (token_by g.L.Lexeme.lex) (c.len.result - 1) top (number c.in-Reduce.pidx.0) (token_of (token_by g.L.Lexeme.lex) (end_token G) c.args.next) (states_of number states.items) len (number_at number states.items (c.len.result - 1) c.index-top.result.now c.index-top.ensures) cell ∙ c.in_ok-reduce_onto-in-Reduce.ensures.goes x

pub returns-in_ok-shift_onto-in-Some-clause-stacks : goal.returns-in_ok-shift_onto-in-Some-clause-stacks
returns-in_ok-shift_onto-in-Some-clause-stacks g c =
    let number = g.S.IndexStorage.number in
    let cell : action_at c.args.machine.now.stable.now (number c.index-top.result.now.0) (number c.args.tidx.0) ≡ shift (number c.in-Shift.target.0) = sym c.action.ensures ∙ ap (action_of number) c.in-Shift.is in
    record {
      are_states = are_shifted c.args.machine.now.stable.now (states_of number c.args.stacks.now.states.items) _ (number c.in-Shift.target.0) c.requires.stacks.are_states (c.args.machine.now.table.is_table.shifts _ _ _ cell) c.in_ok-shift_onto-in-Some.ensures.states;
      some = stack_some number _ c.in_ok-shift_onto-in-Some.ensures.states;
    }

pub returns-in_ok-reduce_onto-in-Reduce-clause-turned : goal.returns-in_ok-reduce_onto-in-Reduce-clause-turned
returns-in_ok-reduce_onto-in-Reduce-clause-turned g c =
    let x = c.args.machine.now.sgraph.now in
    let safe = c.args.machine.now.pair.safe in
    λ input d stand rest.
    let number = g.S.IndexStorage.number in
    let G = c.args.machine.now.grm.now.grammar in
    let at = (goal.at.returns-in_ok-reduce_onto-in-Reduce-clause-turned g c).After-action in
    (turned_reduce number g.L.Lexeme.lex G x c.args.machine.now.stable.now _ input c.args.machine.now.table.well_formed safe c.args.stacks.now d stand (number c.in-Reduce.pidx.0) c.reduce_onto.new.stacks
    (found g at x input d safe stand rest ∙ rw c.in-Reduce.is refl) (c.in_ok-reduce_onto-in-Reduce.ensures.goes x) c.in_ok-reduce_onto-in-Reduce.ensures.held)

pub returns-in_ok-shift_onto-in-Some-clause-turned : goal.returns-in_ok-shift_onto-in-Some-clause-turned
returns-in_ok-shift_onto-in-Some-clause-turned g c =
    let x = c.args.machine.now.sgraph.now in
    let safe = c.args.machine.now.pair.safe in
    λ input d stand rest.
    let number = g.S.IndexStorage.number in
    let at = (goal.at.returns-in_ok-shift_onto-in-Some-clause-turned g c).After-action in
    let next = rw c.in-Some.is at rest in
    turned_shift number g.L.Lexeme.lex c.args.machine.now.grm.now.grammar x c.args.machine.now.stable.now _ input c.args.machine.now.table.well_formed safe c.args.stacks.now d stand (number c.in-Shift.target.0) c.in-Some.lexeme (drop 1 d.rest) c.shift_onto.new.stacks
    (found g at x input d safe stand rest ∙ rw c.in-Shift.is refl) next c.in_ok-shift_onto-in-Some.ensures.states (c.in_ok-shift_onto-in-Some.ensures.held c.args.machine.now.grm.now.grammar)

pub reduce_onto-requires-clause-held : goal.reduce_onto-requires-clause-held
reduce_onto-requires-clause-held g c =
    let number = g.S.IndexStorage.number in
    let h = c.requires.stand in
    reduction_holds number g.L.Lexeme.lex c.args.machine.now.grm.now.grammar c.args.machine.now.sgraph.now c.args.machine.now.stable.now _ h.0 c.args.machine.now.table.well_formed c.args.machine.now.pair.safe c.args.stacks.now h.1 h.2 (number c.in-Reduce.pidx.0)
    (found g (goal.at.reduce_onto-requires-clause-held g c).After-action c.args.machine.now.sgraph.now h.0 h.1 c.args.machine.now.pair.safe h.2 h.3 ∙ rw c.in-Reduce.is refl)

pub returns-in-Accept-clause-turned : goal.returns-in-Accept-clause-turned
returns-in-Accept-clause-turned g c =
    let x = c.args.machine.now.sgraph.now in
    let safe = c.args.machine.now.pair.safe in
    λ input d stand rest.
    let number = g.S.IndexStorage.number in
    let cell : action_at c.args.machine.now.stable.now (number c.index-top.result.now.0) (number c.args.tidx.0) ≡ accept = sym c.action.ensures ∙ ap (action_of number) c.in-Accept.is in
    let is_end = (safe.accepts (number c.index-top.result.now.0) (number c.args.tidx.0) cell).1 in (
      end_is_none c.args.machine.now.grm.now.grammar g.L.Lexeme.lex c.args.next c.requires.inside (sym c.requires.token ∙ is_end),
      turned_accept number g.L.Lexeme.lex c.args.machine.now.grm.now.grammar x c.args.machine.now.stable.now _ input c.args.machine.now.table.well_formed safe c.args.stacks.now d stand
          (found g (goal.at.returns-in-Accept-clause-turned g c).After-action x input d safe stand rest ∙ rw c.in-Accept.is refl),
    )

pub shift_onto-requires-clause-held : goal.shift_onto-requires-clause-held
shift_onto-requires-clause-held g c = let h = c.requires.stand in (c.args.machine.now.grm.now.grammar, h.1.trees, h.2.held)

pub returns-in-Accept-clause-keeps : goal.returns-in-Accept-clause-keeps
returns-in-Accept-clause-keeps g c = g.V.ValueStack.keeps_all c.args.stacks.now.values

pub returns-in-Error-clause-keeps : goal.returns-in-Error-clause-keeps
returns-in-Error-clause-keeps g c = g.V.ValueStack.keeps_all c.args.stacks.now.values
