-- The values of a parse have as many errors as it.
use Rattle.std.proofs.Common.{◌≡◌, List, [], Option, None, Some, ap, length, sym, ◌∙◌}
use Rattle.std.proofs.lemmas.List.{length-map}
use Rattle.cfg_numbered.specs.Value.{GrammarValue}
use Rattle.report_forms.specs.declared.parse_values.TextError.{TextError}
use Rattle.report_forms.specs.declared.parse_values.TreeNode.{TreeNode}
use Rattle.text_parses.specs.ParseObjects.{HasFound}
use Rattle.text_parses.specs.Parses.{Asked}
use Rattle.text_parses.specs.declared.parsing.Parsed.{Parsed}
use Rattle.text_parses.specs.declared.parsing.Parsed.TheVariants as found
use Rattle.text_server.specs.Found.{error_count}

pub counted : (g : GrammarValue) (a : Asked) (parsed : Parsed) (errors : List TextError) (tree : Option (List TreeNode)) → HasFound g a parsed errors tree → length errors ≡ error_count parsed
counted g a (found.Tree v) errors None has = absurd has
counted g a (found.Tree v) errors (Some nodes) has = ap length has.0
counted g a (found.Unlexed e) errors tree has = sym (length-map errors _) ∙ ap length has.1
counted g a (found.Unparsed es) errors tree has = sym (length-map errors _) ∙ (ap length has.1 ∙ length-map es.items _)
