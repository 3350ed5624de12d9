use Rattle.std.proofs.Common.{subst}
use Rattle.std.specs.Prelude.{IfOk}
use Rattle.cfg_numbered.specs.Value.{GrammarValue}
use Rattle.cfg_sentences.specs.Sentences.{AreAnswers}
use Rattle.cfgrammar.proofs.yacc.grammar.YaccGrammar.sentence_generator.Goals as goal

pub returns-clause-costs : goal.returns-clause-costs
returns-clause-costs g c =
    subst (λ (v : GrammarValue). IfOk c.new.result (λ s. AreAnswers g.S.IndexStorage.number (λ x r. g.F.Fn.post c.args.f (x, tt) r) v.grammar.tokens s.costs)) c.self.view_is c.new.ensures.costs
