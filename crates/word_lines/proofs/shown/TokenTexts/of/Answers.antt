use Rattle.std.proofs.Common.{sym, ◌∙◌}
use Rattle.word_lines.proofs.ShownNames.{named, unnamed}
use Rattle.word_lines.proofs.shown.TokenTexts.of.Goals as goal

pub returns-then-not-has_token : goal.returns-then-not-has_token
returns-then-not-has_token g c = unnamed c.args.self.grm.now (g.S.IndexStorage.number c.args.token.0) (λ lt. let e = sym c.if-not-has_token.true ∙ c.has_token.ensures.1 lt in cc)

pub returns : goal.returns
returns g c = named c.args.self.grm.now (g.S.IndexStorage.number c.args.token.0) c.token_epp.result (c.has_token.ensures.0 c.if-not-has_token.false) c.token_epp.ensures.text
