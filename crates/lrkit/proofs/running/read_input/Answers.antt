use Rattle.std.proofs.Common.{sym}
use Rattle.std.proofs.lemmas.Str.{IsUtf8-string_bytes}
use Rattle.lrkit.proofs.running.read_input.Goals as goal

pub returns-in-Ok-clause-ok : goal.returns-in-Ok-clause-ok
returns-in-Ok-clause-ok g c = record {
  whole = c.in-Ok.ensures.whole;
  short = rw (sym c.as_bytes-bytes.ensures.value, c.as_bytes-bytes.ensures.len) c.in-Ok.ensures.short;
  utf8 = IsUtf8-string_bytes c.in-Ok.text;
}
