use Rattle.std.proofs.Common.{◌≡◌, ◌∷◌, ◌+◌, ◌++◌, ◌≤◌, [], length, drop, refl, ap, arith}
use Rattle.std.proofs.lemmas.List.{drop_all}
use Rattle.lr_theory.specs.Repair.{with_rest}
use Rattle.lr_theory.specs.Stack.{stack_yield}
use Rattle.lrpar.specs.Made.{made_by, end_of}
use Rattle.parse_trees.specs.Edits.{edit_of, edits_of}
use Rattle.lrpar.proofs.Applying.{way_begun, way_named, way_on, way_ended, edits_from}
use Rattle.lrpar.proofs.apply.apply_steps.Goals as goal

pub steps-init : goal.steps-init
steps-init g c = record {
  keeps = g.V.ValueStack.keeps_all c.args.stacks.now.values;
  within = c.requires.index;
  stacks = c.requires.stacks;
  starts = c.requires.starts;
  on =
      let x = c.args.machine.now.sgraph.now in
      λ input d stand rest k.
      (0, with_rest d (k.put ++ k.left), refl, way_begun g.S.IndexStorage.number g.L.Lexeme.lex c.args.machine.now.grm.now.grammar x c.args.machine.now.stable.now (g.V.ValueStack.stands c.args.machine.now.grm.now.grammar) (made_by g.L.Lexeme.faulty_of g.L.Lexeme.lex (end_of g.L.Lexeme.lex c.args.lexemes.now)) input d c.args.stacks.now (edits_of g.S.IndexStorage.number c.args.steps.now) (drop c.args.at c.args.lexemes.now) stand rest k);
}

pub apply_step-requires-clause-on : goal.apply_step-requires-clause-on
apply_step-requires-clause-on g c =
    let h = c.requires.stand in
    let k = h.4 in
    let w = c.steps.invariant.on h.0 h.1 h.2 h.3 k in
    let j = way_named g.S.IndexStorage.number g.L.Lexeme.lex c.args.machine.now.grm.now.grammar c.args.machine.now.sgraph.now c.args.machine.now.stable.now (g.V.ValueStack.stands c.args.machine.now.grm.now.grammar) (made_by g.L.Lexeme.faulty_of g.L.Lexeme.lex (end_of g.L.Lexeme.lex c.args.lexemes.now)) (stack_yield h.1.trees ++ (k.put ++ k.left)) (with_rest h.1 (k.put ++ k.left)) c.steps.stacks (drop c.steps.index c.args.lexemes.now) (edits_of g.S.IndexStorage.number (drop c.steps.number c.args.steps.now)) (edit_of g.S.IndexStorage.number c.step_at-step.result ∷ (edits_of g.S.IndexStorage.number (drop (c.steps.number + 1) c.args.steps.now))) k.left (edits_from g.S.IndexStorage.number c.args.steps.now c.steps.number c.step_at-step.result c.step_at-step.ensures) w in
    (stack_yield h.1.trees ++ (k.put ++ k.left), j.1, (edits_of g.S.IndexStorage.number (drop (c.steps.number + 1) c.args.steps.now)), k.left, j.3)

pub steps-preserved : goal.steps-preserved
steps-preserved g c = record {
  keeps = g.V.ValueStack.keeps_on c.args.stacks.now.values c.steps.stacks.values c.apply_step.new.stacks.values c.steps.invariant.keeps c.in_ok-index.ensures.keeps;
  within = c.in_ok-index.ensures.index;
  stacks = c.in_ok-index.ensures.stacks;
  starts = c.in_ok-index.ensures.starts;
  on =
      let x = c.args.machine.now.sgraph.now in
      λ input d stand rest k.
      let w = c.steps.invariant.on input d stand rest k in
      let j = way_named g.S.IndexStorage.number g.L.Lexeme.lex c.args.machine.now.grm.now.grammar x c.args.machine.now.stable.now (g.V.ValueStack.stands c.args.machine.now.grm.now.grammar) (made_by g.L.Lexeme.faulty_of g.L.Lexeme.lex (end_of g.L.Lexeme.lex c.args.lexemes.now)) (stack_yield d.trees ++ (k.put ++ k.left)) (with_rest d (k.put ++ k.left)) c.steps.stacks (drop c.steps.index c.args.lexemes.now) (edits_of g.S.IndexStorage.number (drop c.steps.number c.args.steps.now)) (edit_of g.S.IndexStorage.number c.step_at-step.result ∷ (edits_of g.S.IndexStorage.number (drop (c.steps.number + 1) c.args.steps.now))) k.left (edits_from g.S.IndexStorage.number c.args.steps.now c.steps.number c.step_at-step.result c.step_at-step.ensures) w in
      way_on g.S.IndexStorage.number g.L.Lexeme.lex c.args.machine.now.grm.now.grammar x c.args.machine.now.stable.now (g.V.ValueStack.stands c.args.machine.now.grm.now.grammar) (made_by g.L.Lexeme.faulty_of g.L.Lexeme.lex (end_of g.L.Lexeme.lex c.args.lexemes.now)) (stack_yield d.trees ++ (k.put ++ k.left)) (with_rest d (k.put ++ k.left)) c.steps.stacks c.apply_step.new.stacks (drop c.steps.index c.args.lexemes.now) (drop c.in_ok-index.index c.args.lexemes.now) (edit_of g.S.IndexStorage.number c.step_at-step.result ∷ (edits_of g.S.IndexStorage.number (drop (c.steps.number + 1) c.args.steps.now))) (edits_of g.S.IndexStorage.number (drop (c.steps.number + 1) c.args.steps.now)) k.left j
      (c.in_ok-index.ensures.on (stack_yield d.trees ++ (k.put ++ k.left)) j.1 (edits_of g.S.IndexStorage.number (drop (c.steps.number + 1) c.args.steps.now)) k.left j.3);
}

pub returns-clause-applied : goal.returns-clause-applied
returns-clause-applied g c =
    let x = c.args.machine.now.sgraph.now in
    λ input d stand rest k.
    let le : length c.args.steps.now ≤ c.steps.number = omega arith in
    let none : edits_of g.S.IndexStorage.number (drop c.steps.number c.args.steps.now) ≡ [] = ap (edits_of g.S.IndexStorage.number) (drop_all c.steps.number c.args.steps.now le) in
    let w = c.steps.invariant.on input d stand rest k in
    way_ended g.S.IndexStorage.number g.L.Lexeme.lex c.args.machine.now.grm.now.grammar x c.args.machine.now.stable.now (g.V.ValueStack.stands c.args.machine.now.grm.now.grammar) (made_by g.L.Lexeme.faulty_of g.L.Lexeme.lex (end_of g.L.Lexeme.lex c.args.lexemes.now)) input d c.steps.stacks (edits_of g.S.IndexStorage.number c.args.steps.now) (drop c.steps.index c.args.lexemes.now) k
    (way_named g.S.IndexStorage.number g.L.Lexeme.lex c.args.machine.now.grm.now.grammar x c.args.machine.now.stable.now (g.V.ValueStack.stands c.args.machine.now.grm.now.grammar) (made_by g.L.Lexeme.faulty_of g.L.Lexeme.lex (end_of g.L.Lexeme.lex c.args.lexemes.now)) (stack_yield d.trees ++ (k.put ++ k.left)) (with_rest d (k.put ++ k.left)) c.steps.stacks (drop c.steps.index c.args.lexemes.now) (edits_of g.S.IndexStorage.number (drop c.steps.number c.args.steps.now)) [] k.left none w)
