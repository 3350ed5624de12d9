use Rattle.std.proofs.Common.{◌≡◌, ℕ, sym, ◌∙◌, subst, arith}
use Rattle.cfg_sentences.specs.Sentences.{AreAnswers}
use Rattle.cfg_sentences.proofs.CostSteps.{answers_none_yet, answers_push}
use Rattle.cfg_sentences.proofs.sentences.SentenceGenerator.new.Goals as goal

pub tokens-init : goal.tokens-init
tokens-init g c = answers_none_yet g.S.IndexStorage.number (λ x r. g.F.Fn.post c.args.f (x, tt) r) c.new-costs.result.items c.new-costs.ensures.items

pub tokens-preserved : goal.tokens-preserved
tokens-preserved g c = answers_push g.S.IndexStorage.number (λ x r. g.F.Fn.post c.args.f (x, tt) r) c.tokens.number c.tokens.costs.items _ c.f.result c.push.new.self.items c.tokens.invariant c.token_at.ensures c.f.ensures c.in_ok-push.ensures.items

pub returns-clause-costs : goal.returns-clause-costs
returns-clause-costs g c =
    let number = g.S.IndexStorage.number in
    let tokens = c.args.grm.now.grammar.tokens in
    let le = c.tokens.auto.number-end in
    let ge = c.tokens-test.false in
    let end = c.to_usize-number-end.ensures.value ∙ c.tokens_len.ensures in
    let all : c.tokens.number ≡ tokens = omega (arith, le, ge, end) in
    subst (AreAnswers number (λ x r. g.F.Fn.post c.args.f (x, tt) r) tokens) (sym c.in_ok-made.ensures.costs)
    (subst (λ (n : ℕ). AreAnswers number (λ x r. g.F.Fn.post c.args.f (x, tt) r) n c.tokens.costs.items) all c.tokens.invariant)
