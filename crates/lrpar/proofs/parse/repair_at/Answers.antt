use Rattle.std.proofs.Common.{sym, ap, ◌∙◌}
use Rattle.state_table.specs.Tables.{automaton_of}
use Rattle.lrpar.specs.Made.{made_by, end_of}
use Rattle.lrpar.specs.Reducing.{stack_of}
use Rattle.parse_trees.specs.Lex.{token_by}
use Rattle.parse_trees.specs.Edits.{sequences_of}
use Rattle.lrpar.proofs.Mending.{first_taken, none_listed}
use Rattle.lrpar.proofs.parse.repair_at.Goals as goal

pub apply_steps-applied-requires-clause-stand : goal.apply_steps-applied-requires-clause-stand
apply_steps-applied-requires-clause-stand g c =
    let h = c.requires.stand in
    let number = g.S.IndexStorage.number in
    let found = c.in_ok-found.ensures h.0 h.1 h.2.stands (h.2.states ∙ ap (stack_of number) (sym c.as_slice.ensures.value)) h.3 in
    let first = first_taken number c.args.machine.now.grm.now.grammar (automaton_of c.args.machine.now.sgraph.now c.args.machine.now.stable.now) (token_by g.L.Lexeme.lex) (made_by g.L.Lexeme.faulty_of g.L.Lexeme.lex (end_of g.L.Lexeme.lex c.args.lexemes.now)) h.1 found.offered c.in_ok-found.found.repairs.items c.deref.result.now c.in-Some.steps.now c.as_slice-in-Some.result.now found.told.are_repairs c.deref.ensures.value c.in-Some.ensures.value c.as_slice-in-Some.ensures.value in
    (h.0, h.1, h.2, h.3, first.takes)

pub returns-in-Ok-clause-mended : goal.returns-in-Ok-clause-mended
returns-in-Ok-clause-mended g c =
    let x = c.args.machine.now.sgraph.now in
    λ input d stand rest.
    let number = g.S.IndexStorage.number in
    let found = c.in_ok-found.ensures input d stand.stands (stand.states ∙ ap (stack_of number) (sym c.as_slice.ensures.value)) rest in
    let first = first_taken number c.args.machine.now.grm.now.grammar (automaton_of x c.args.machine.now.stable.now) (token_by g.L.Lexeme.lex) (made_by g.L.Lexeme.faulty_of g.L.Lexeme.lex (end_of g.L.Lexeme.lex c.args.lexemes.now)) d found.offered c.in_ok-found.found.repairs.items c.deref.result.now c.in-Some.steps.now c.as_slice-in-Some.result.now found.told.are_repairs c.deref.ensures.value c.in-Some.ensures.value c.as_slice-in-Some.ensures.value in
    let k = c.in-Ok.ensures.applied input d stand rest first.takes in
    record {
      offered = found.offered;
      told = found.told;
      resumes = record { edits = _; first = first; input = _; steps = k.steps; goes = record { config = k.goes.config; goes = k.goes.goes; stand = k.goes.stand; rest_is = k.goes.rest_is ∙ k.left_is } };
    }

pub returns-in-None-clause-mended : goal.returns-in-None-clause-mended
returns-in-None-clause-mended g c =
    λ input d stand rest.
    let number = g.S.IndexStorage.number in
    let found = c.in_ok-found.ensures input d stand.stands (stand.states ∙ ap (stack_of number) (sym c.as_slice.ensures.value)) rest in
    record {
      offered = found.offered;
      told = found.told;
      resumes = ap (sequences_of number) (sym c.deref.ensures.value) ∙ none_listed number c.deref.result.now c.in-None.ensures.value;
    }

pub returns-in-None-clause-keeps : goal.returns-in-None-clause-keeps
returns-in-None-clause-keeps g c = g.V.ValueStack.keeps_all c.args.stacks.now.values
