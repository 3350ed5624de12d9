use Rattle.std.proofs.Common.{◌∙◌, sym}
use Rattle.parse_trees.specs.ErrorTexts.{seen_as}
use Rattle.parse_trees.proofs.ErrorParts.{seen_push}
use Rattle.parse_trees.proofs.error_texts.push_deletion.Goals as goal

pub returns-in_default : goal.returns-in_default
returns-in_default g c = seen_push (seen_as g.S.IndexStorage.number) c.args.pieces.now.items c.push.new.self.items _ c.in_ok-push.ensures.items ∙ sym ((rw c.as_slice.ensures.value at c.in_default.ensures) c.args.start)
