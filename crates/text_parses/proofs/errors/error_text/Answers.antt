use Rattle.std.specs.Prelude.{string_bytes}
use Rattle.text_parses.proofs.Begun.{tells_more_of}
use Rattle.text_parses.specs.Parses.{placed}
use Rattle.text_parses.proofs.errors.error_text.Goals as goal

pub returns : goal.returns
returns c = tells_more_of c.args.shown.source.now (placed c.args.shown.start c.args.error.now.lexeme.span) c.as_str.result.now (string_bytes c.in_ok-text.text) c.as_str-2.result.now (string_bytes c.push_str.new.self) (rw c.span_in_source-span.ensures at c.in_ok-text.ensures) c.in_ok-push_str.ensures.bytes
