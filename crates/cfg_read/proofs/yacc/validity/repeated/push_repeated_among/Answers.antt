use Rattle.std.proofs.Common.{◌++◌, sym, ap, ◌∙◌}
use Rattle.cfg_read.specs.ErrorModels.{failures_in, repeated_failure}
use Rattle.cfg_read.proofs.Grouping.{append-nil}
use Rattle.cfg_read.proofs.yacc.validity.repeated.push_repeated_among.Goals as goal

pub returns-then-all_differ : goal.returns-then-all_differ
returns-then-all_differ c = λ named.
    let base = failures_in c.args.errors.now.items in
    sym (append-nil base) ∙ ap (λ l. base ++ l) (sym (c.all_differ.ensures c.if-all_differ.true named (repeated_failure c.args.what)))
