use Rattle.std.proofs.Common.{subst}
use Rattle.lrpar.specs.Checked.{ParserValue}
use Rattle.cfg_sets.specs.Productive.{EachProductive}
use Rattle.cfg_theory.specs.Decides.{Decides}
use Rattle.parser_kit.proofs.grammar_kit.GrammarKit.tells_productive.Goals as goal

pub returns : goal.returns
returns g c = subst (λ (d : ParserValue). Decides (EachProductive d.grammar.grammar) c.self.inside.all_productive) c.self.view_is c.self.invariant.1
