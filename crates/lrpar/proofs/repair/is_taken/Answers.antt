use Rattle.std.proofs.Common.{◌+◌, drop, arith, subst, ap}
use Rattle.std.proofs.lemmas.List.{drop_all}
use Rattle.lrpar.specs.Reducing.{stack_of}
use Rattle.lrpar.specs.Replay.{overlaid}
use Rattle.parse_trees.specs.Lex.{token_by}
use Rattle.parse_trees.specs.Edits.{edit_of, edits_of}
use Rattle.lrpar.proofs.Tested.{Follows, follows_on, follows_not, follows_end}
use Rattle.parse_trees.proofs.ListsAt.{drop_at}
use Rattle.lrpar.proofs.repair.is_taken.Goals as goal

pub returns-in_default : goal.returns-in_default
returns-in_default g c =
    let number = g.S.IndexStorage.number in
    let tok = token_by g.L.Lexeme.lex in
    let ss = stack_of number c.args.base.now in
    let rest = drop c.args.index c.args.lexemes.now in
    let here = overlaid number c.args.base.now c.steps.overlay in
    let left = drop c.steps.at c.args.lexemes.now in
    let next = ap (edits_of number) (drop_at c.args.steps.now c.steps.number c.step_at-step.result c.step_at-step.ensures) in
    let so = subst (λ fs. Follows g.S.IndexStorage.MAX c.args.machine.now.grm.now.grammar c.args.machine.now.stable.now tok (edits_of number c.args.steps.now) ss rest fs here left) next c.steps.invariant.follows in
    follows_not g.S.IndexStorage.MAX c.args.machine.now.grm.now.grammar c.args.machine.now.stable.now tok c.args.machine.now.table (edits_of number c.args.steps.now) ss rest (edit_of number c.step_at-step.result) (edits_of number (drop (c.steps.number + 1) c.args.steps.now)) here (overlaid number c.args.base.now c.take_step.new.overlay) left c.args.lexemes.now so (rw c.in_default.is at c.in_ok-next.ensures.tells)

pub steps-preserved : goal.steps-preserved
steps-preserved g c =
    let number = g.S.IndexStorage.number in
    let tok = token_by g.L.Lexeme.lex in
    let ss = stack_of number c.args.base.now in
    let rest = drop c.args.index c.args.lexemes.now in
    let here = overlaid number c.args.base.now c.steps.overlay in
    let left = drop c.steps.at c.args.lexemes.now in
    let next = ap (edits_of number) (drop_at c.args.steps.now c.steps.number c.step_at-step.result c.step_at-step.ensures) in
    let so = subst (λ fs. Follows g.S.IndexStorage.MAX c.args.machine.now.grm.now.grammar c.args.machine.now.stable.now tok (edits_of number c.args.steps.now) ss rest fs here left) next c.steps.invariant.follows in
    record {
      within = rw c.in-Some.is at c.in_ok-next.ensures.index;
      over = c.in_ok-next.ensures.over;
      follows = follows_on g.S.IndexStorage.MAX c.args.machine.now.grm.now.grammar c.args.machine.now.stable.now tok c.args.machine.now.table (edits_of number c.args.steps.now) ss rest (edit_of number c.step_at-step.result) (edits_of number (drop (c.steps.number + 1) c.args.steps.now)) here (overlaid number c.args.base.now c.take_step.new.overlay) left c.args.lexemes.now c.in-Some.next so (rw c.in-Some.is at c.in_ok-next.ensures.tells);
    }

pub returns : goal.returns
returns g c =
    let number = g.S.IndexStorage.number in
    let tok = token_by g.L.Lexeme.lex in
    let ss = stack_of number c.args.base.now in
    let rest = drop c.args.index c.args.lexemes.now in
    let here = overlaid number c.args.base.now c.steps.overlay in
    let left = drop c.steps.at c.args.lexemes.now in
    let end = ap (edits_of number) (drop_all c.steps.number c.args.steps.now (omega arith)) in
    let so = subst (λ fs. Follows g.S.IndexStorage.MAX c.args.machine.now.grm.now.grammar c.args.machine.now.stable.now tok (edits_of number c.args.steps.now) ss rest fs here left) end c.steps.invariant.follows in
    follows_end g.S.IndexStorage.MAX c.args.machine.now.grm.now.grammar c.args.machine.now.stable.now tok c.args.machine.now.table (edits_of number c.args.steps.now) ss rest here left c.in_ok-taken.taken so c.in_ok-taken.ensures
