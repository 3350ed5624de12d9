use Rattle.std.proofs.Common.{arith}
use Rattle.std.specs.String.{string_bytes}
use Rattle.parse_trees.proofs.ErrorParts.{repairs_put}
use Rattle.parse_trees.proofs.error_texts.push_repairs.Goals as goal

pub returns : goal.returns
returns c = repairs_put string_bytes c.args.sequences.now (string_bytes c.args.text.now) (string_bytes c.push_str-2.new.self) (string_bytes c.push_sequences.new.text) (omega arith) c.in_ok-push_str-2.ensures.bytes c.in_ok-push_sequences.ensures
