use Rattle.std.proofs.Common.{sym, subst}
use Rattle.lrkit.specs.RunKits.{IsRunKit}
use Rattle.lrkit.proofs.running.kit_of.Goals as goal

pub returns-in-Ok-clause-kit : goal.returns-in-Ok-clause-kit
returns-in-Ok-clause-kit c =
    let (kind, is_kind, is_kit) = c.in-Ok.ensures.kit in
    subst (IsRunKit c.args.text.now) (sym c.into_kit.ensures) (record { kind = kind; is_kind = is_kind; kept = c.in-Ok.kit.kept; is_kit = is_kit })

pub returns-in-Err-clause-refused : goal.returns-in-Err-clause-refused
returns-in-Err-clause-refused c = record { refused = c.in-Err.ensures.refused; cause = c.in-Err.ensures.crowded }
