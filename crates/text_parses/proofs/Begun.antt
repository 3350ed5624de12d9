-- Messages that go on.
use Rattle.std.proofs.Common.{◌≡◌, ℕ, List, ◌++◌, ap, ◌∙◌, append_assoc}
use Rattle.cfg_base.specs.SpanModel.{SpanModel}
use Rattle.text_messages.specs.Places.{BeginsWith, SourceValue, heading}
use Rattle.text_messages.specs.declared.source.Severity.TheVariants as severities
use Rattle.text_parses.specs.Parses.{TellsAt}

pub tells_more_of : (source : SourceValue) (span : SpanModel) (message told more new : List ℕ) → BeginsWith (heading source severities.Error span message) told → new ≡ told ++ more → TellsAt source span new
tells_more_of source span message told more new (rest, is) e = record {
  message = message;
  begins = (rest ++ more, e ∙ ap (λ t. t ++ more) is ∙ append_assoc (heading source severities.Error span message) rest more);
}
