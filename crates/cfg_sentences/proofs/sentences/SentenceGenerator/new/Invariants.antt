use Rattle.cfg_sentences.specs.Sentences.{AreAnswers}
use Rattle.cfg_sentences.proofs.sentences.SentenceGenerator.new.Given as goal

abbrev pub invariant-tokens : goal.invariant-tokens
invariant-tokens g l = AreAnswers g.S.IndexStorage.number (λ x r. g.F.Fn.post l.f (x, tt) r) l.number l.costs.items
