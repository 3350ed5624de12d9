use Rattle.std.proofs.Common.{◌==◌, length, map, arith, lit<}
use Rattle.std.proofs.lemmas.Iterator.Consumers.{YieldsList-at, YieldsList-turn, YieldsList-end}
use Rattle.std.proofs.lemmas.Iterator.Splits.{YieldsList-from_str_split}
use Rattle.std.proofs.lemmas.List.{length_push}
use Rattle.std.specs.List.{slice_split}
use Rattle.lex_files.specs.LexFiles.{condition_value, declare_part, declare_words}
use Rattle.lex_files.proofs.Folds.{fold_next, fold_tells, fold_end}
use Rattle.lex_files.proofs.conditions.declare_words.Goals as goal

pub parts-preserved : goal.parts-preserved
parts-preserved c =
    let turn = YieldsList-turn (YieldsList-at c.into_iter-part-iterator.ensures.into_iter_gives (YieldsList-from_str_split 32 c.args.words.now (lit< tt) c.split-part-items.ensures.text c.split-part-items.ensures.has_more c.split-part-items.ensures.pattern)) c.parts.yielded _ c.parts.yielded_by _ _ c.in-Some.part c.in-Some.is c.next.ensures.steps in
    rw length_push (fold_next (declare_part c.args.exclusive c.args.at) (declare_words c.args.exclusive c.args.at (map condition_value c.args.conditions.now.items) c.args.words.now) (map condition_value c.parts.conditions.items) (slice_split (λ b. b == 32) c.args.words.now) (length c.parts.yielded) c.in-Some.part.now (map condition_value c.declare_part.new.conditions.items) c.parts.invariant turn c.in-Ok.ensures.ok)

pub returns-in-Err-clause-err : goal.returns-in-Err-clause-err
returns-in-Err-clause-err c =
    let turn = YieldsList-turn (YieldsList-at c.into_iter-part-iterator.ensures.into_iter_gives (YieldsList-from_str_split 32 c.args.words.now (lit< tt) c.split-part-items.ensures.text c.split-part-items.ensures.has_more c.split-part-items.ensures.pattern)) c.parts.yielded _ c.parts.yielded_by _ _ c.in-Some.part c.in-Some.is c.next.ensures.steps in
    fold_tells (declare_part c.args.exclusive c.args.at) (declare_words c.args.exclusive c.args.at (map condition_value c.args.conditions.now.items) c.args.words.now) (map condition_value c.parts.conditions.items) (slice_split (λ b. b == 32) c.args.words.now) (length c.parts.yielded) c.in-Some.part.now c.in-Err.e c.parts.invariant turn c.in-Err.ensures.err

pub returns-clause-ok : goal.returns-clause-ok
returns-clause-ok c =
    let e = YieldsList-end (YieldsList-at c.into_iter-part-iterator.ensures.into_iter_gives (YieldsList-from_str_split 32 c.args.words.now (lit< tt) c.split-part-items.ensures.text c.split-part-items.ensures.has_more c.split-part-items.ensures.pattern)) c.parts.yielded _ c.parts.yielded_by _ _ c.in-None.is c.next.ensures.steps in
    fold_end (declare_part c.args.exclusive c.args.at) (declare_words c.args.exclusive c.args.at (map condition_value c.args.conditions.now.items) c.args.words.now) (map condition_value c.parts.conditions.items) (slice_split (λ b. b == 32) c.args.words.now) (length c.parts.yielded) c.parts.invariant (omega (arith, e.1))
