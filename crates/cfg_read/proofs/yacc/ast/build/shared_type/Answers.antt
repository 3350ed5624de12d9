use Rattle.std.proofs.Common.{ap, ◌∙◌}
use Rattle.cfg_read.specs.Asts.{text_of}
use Rattle.cfg_read.specs.SyntaxModels.{word_of}
use Rattle.std.proofs.Common.{option_map}
use Rattle.cfg_read.proofs.RuleLemmas.{word_there, last_is}
use Rattle.cfg_read.proofs.yacc.ast.build.shared_type.Goals as goal

pub returns : goal.returns
returns c = ap text_of (word_there c.last.result) ∙ ap (λ o. text_of (option_map word_of o)) c.last.ensures.value ∙ last_is c.args.words.now
