use Rattle.std.specs.Prelude.{string_bytes}
use Rattle.text_parses.proofs.errors.write_lex_error.Goals as goal

pub returns : goal.returns
returns g c = record {
  told = string_bytes c.in_ok-text.text;
  begins = record { message = c.lex_message.result.now; begins = rw c.span_in_source-span.ensures at c.in_ok-text.ensures };
  written = rw c.as_bytes.ensures.value at c.in_ok-write_all.ensures.ok;
}
