use Rattle.std.proofs.Common.{◌∙◌, subst}
use Rattle.std.specs.Str.Parse.{ParsesUnsigned}
use Rattle.cfg_read.proofs.Parts.{number_is}
use Rattle.cfg_read.proofs.yacc.parser.scan.Scanner.number_value.Goals as goal

pub returns : goal.returns
returns c = c.ok.ensures.value ∙ number_is c.args.self.now.text.now c.args.start c.args.end c.requires.run c.requires.word.more c.requires.word.within _ (subst (λ ds. ParsesUnsigned 64 10 ds c.parse.result) c.range.ensures.value c.parse.ensures.value.0)
