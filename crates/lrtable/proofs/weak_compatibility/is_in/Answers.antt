use Rattle.std.proofs.Common.{Option, false, ap, sym, ◌∙◌}
use Rattle.std.specs.Prelude.{Bool, unwrap_or}
use Rattle.std.proofs.lemmas.Option.{unwrap_or-slice_get}
use Rattle.lrtable.proofs.weak_compatibility.is_in.Goals as goal

pub returns : goal.returns
returns c = λ e. sym (c.unwrap_or.ensures ∙ (ap (λ (o : Option Bool). unwrap_or o false) c.get.ensures ∙ unwrap_or-slice_get c.args.looks.now.bits c.args.token false)) ∙ e
