use Rattle.std.proofs.lemmas.Result.{IfOk-weaker}
use Rattle.lex_files.specs.LexFiles.{file_value}
use Rattle.lrlex.specs.LexTexts.{AreRulesOf, ReadsRules}
use Rattle.lrlex.proofs.rules.LexRules.from_text.Goals as goal

pub returns-in-Ok : goal.returns-in-Ok
returns-in-Ok c =
    IfOk-weaker c.rules_of_file.result (AreRulesOf (file_value c.in-Ok.file)) (ReadsRules c.args.text.now)
    (λ r h. record { file = file_value c.in-Ok.file; reads = c.in-Ok.ensures.ok; are = h }) c.rules_of_file.ensures
