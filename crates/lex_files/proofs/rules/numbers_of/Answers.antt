use Rattle.std.proofs.Common.{◌==◌, length, map, arith, lit<}
use Rattle.std.proofs.lemmas.Iterator.Consumers.{YieldsList-at, YieldsList-turn, YieldsList-end}
use Rattle.std.proofs.lemmas.Iterator.Splits.{YieldsList-from_str_split}
use Rattle.std.proofs.lemmas.List.{length_push}
use Rattle.std.specs.List.{slice_split}
use Rattle.lex_files.specs.LexFiles.{condition_value, add_number, numbers_of}
use Rattle.lex_files.proofs.Folds.{fold_next, fold_tells, fold_end}
use Rattle.lex_files.proofs.rules.numbers_of.Goals as goal

pub names-preserved : goal.names-preserved
names-preserved c =
    let turn = YieldsList-turn (YieldsList-at c.into_iter-name-iterator.ensures.into_iter_gives (YieldsList-from_str_split 44 c.args.names.now (lit< tt) c.split-name-items.ensures.text c.split-name-items.ensures.has_more c.split-name-items.ensures.pattern)) c.names.yielded _ c.names.yielded_by _ _ c.in-Some.name c.in-Some.is c.next.ensures.steps in
    rw length_push (fold_next (add_number (map condition_value c.args.conditions.now) c.args.at) (numbers_of (map condition_value c.args.conditions.now) c.args.at c.args.names.now) (c.names.numbers.items) (slice_split (λ b. b == 44) c.args.names.now) (length c.names.yielded) c.in-Some.name.now (c.push_number.new.numbers.items) c.names.invariant turn c.in-Ok.ensures.ok)

pub returns-in-Err-clause-err : goal.returns-in-Err-clause-err
returns-in-Err-clause-err c =
    let turn = YieldsList-turn (YieldsList-at c.into_iter-name-iterator.ensures.into_iter_gives (YieldsList-from_str_split 44 c.args.names.now (lit< tt) c.split-name-items.ensures.text c.split-name-items.ensures.has_more c.split-name-items.ensures.pattern)) c.names.yielded _ c.names.yielded_by _ _ c.in-Some.name c.in-Some.is c.next.ensures.steps in
    fold_tells (add_number (map condition_value c.args.conditions.now) c.args.at) (numbers_of (map condition_value c.args.conditions.now) c.args.at c.args.names.now) (c.names.numbers.items) (slice_split (λ b. b == 44) c.args.names.now) (length c.names.yielded) c.in-Some.name.now c.in-Err.e c.names.invariant turn c.in-Err.ensures.err

pub returns-clause-ok : goal.returns-clause-ok
returns-clause-ok c =
    let e = YieldsList-end (YieldsList-at c.into_iter-name-iterator.ensures.into_iter_gives (YieldsList-from_str_split 44 c.args.names.now (lit< tt) c.split-name-items.ensures.text c.split-name-items.ensures.has_more c.split-name-items.ensures.pattern)) c.names.yielded _ c.names.yielded_by _ _ c.in-None.is c.next.ensures.steps in
    fold_end (add_number (map condition_value c.args.conditions.now) c.args.at) (numbers_of (map condition_value c.args.conditions.now) c.args.at c.args.names.now) (c.names.numbers.items) (slice_split (λ b. b == 44) c.args.names.now) (length c.names.yielded) c.names.invariant (omega (arith, e.1))
