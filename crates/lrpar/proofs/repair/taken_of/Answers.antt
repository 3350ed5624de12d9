use Rattle.std.proofs.Common.{drop, sym, subst, ◌∙◌}
use Rattle.std.proofs.lemmas.Iterator.Consumers.{YieldsList-end}
use Rattle.std.proofs.lemmas.Iterator.Adapters.{YieldsList-from_vec}
use Rattle.lrpar.specs.Reducing.{stack_of}
use Rattle.parse_trees.specs.Lex.{token_by}
use Rattle.parse_trees.specs.Edits.{sequences_of}
use Rattle.lrpar.specs.Taking.{ListTells}
use Rattle.lrpar.proofs.Listed.{listed_none, listed_kept, listed_dropped, same_list}
use Rattle.lrpar.proofs.repair.taken_of.Goals as goal

pub sequences-init : goal.sequences-init
sequences-init g c =
    listed_none g.S.IndexStorage.number g.S.IndexStorage.MAX c.args.machine.now.grm.now.grammar c.args.machine.now.stable.now (token_by g.L.Lexeme.lex) (stack_of g.S.IndexStorage.number c.args.base.now) (drop c.args.index c.args.lexemes.now) c.new-taken.result.items c.new-taken.ensures.items

pub sequences-preserved-in-Continue-branch-2 : goal.sequences-preserved-in-Continue-branch-2
sequences-preserved-in-Continue-branch-2 g c =
    listed_kept g.S.IndexStorage.number g.S.IndexStorage.MAX c.args.machine.now.grm.now.grammar c.args.machine.now.stable.now (token_by g.L.Lexeme.lex) (stack_of g.S.IndexStorage.number c.args.base.now) (drop c.args.index c.args.lexemes.now) c.sequences.yielded c.sequences.taken.items c.push.new.self.items c.in-Some.steps c.sequences.invariant (rw (c.if-branch.true, c.as_slice.ensures.value) at c.in_ok-is_taken.ensures) c.in_ok-push.ensures.items

pub sequences-preserved : goal.sequences-preserved
sequences-preserved g c =
    listed_dropped g.S.IndexStorage.number g.S.IndexStorage.MAX c.args.machine.now.grm.now.grammar c.args.machine.now.stable.now (token_by g.L.Lexeme.lex) (stack_of g.S.IndexStorage.number c.args.base.now) (drop c.args.index c.args.lexemes.now) c.sequences.yielded c.sequences.taken.items c.in-Some.steps c.sequences.invariant (rw (c.if-branch.false, c.as_slice.ensures.value) at c.in_ok-is_taken.ensures)

pub returns : goal.returns
returns g c =
    let number = g.S.IndexStorage.number in
    let gives = c.into_iter-steps-iterator.ensures.into_iter_gives in
    let e = YieldsList-end (YieldsList-from_vec {s = c.into_iter-steps-iterator.result} c.args.offered.items gives.0 (gives.1 ∙ c.args.offered.ok.0)) c.sequences.yielded c.sequences.steps-iterator c.sequences.yielded_by _ c.next.new.self c.in-None.is c.next.ensures.steps in
    subst (λ l. ListTells g.S.IndexStorage.MAX c.args.machine.now.grm.now.grammar c.args.machine.now.stable.now (token_by g.L.Lexeme.lex) (stack_of number c.args.base.now) (drop c.args.index c.args.lexemes.now) (sequences_of number l) (sequences_of number c.sequences.taken.items)) (sym (same_list c.sequences.yielded) ∙ e.0) c.sequences.invariant
