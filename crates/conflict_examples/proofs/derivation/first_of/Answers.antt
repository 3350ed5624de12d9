use Rattle.std.proofs.Common.{arith}
use Rattle.cfg_numbered.specs.Symbols.{sym_of}
use Rattle.conflict_examples.proofs.StepLists.{last_first}
use Rattle.conflict_examples.proofs.derivation.first_of.Goals as goal

pub returns : goal.returns
returns g c = last_first (sym_of g.S.IndexStorage.number) c.args.form.now c.index-form-form.result c.index-form-form.is (λ e. grind (arith, c.if-is_empty.false, c.is_empty.ensures, e))
