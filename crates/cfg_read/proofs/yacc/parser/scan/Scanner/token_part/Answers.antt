use Rattle.std.proofs.Common.{true, false, ◌+◌, sym, subst, ◌∙◌}
use Rattle.cfg_base.specs.SpanModel.{SpanModel}
use Rattle.cfg_read.specs.SyntaxUpdates.{token_text}
use Rattle.cfg_read.specs.Reading.{IsToken, name, quoted}
use Rattle.cfg_read.proofs.Symbols.{span_is}
use Rattle.cfg_read.proofs.yacc.parser.scan.Scanner.token_part.Goals as goal

pub returns-in-Name-clause-ok : goal.returns-in-Name-clause-ok
returns-in-Name-clause-ok c =
    subst (λ (s : SpanModel). IsToken c.args.self.now.text.now c.args.offset (token_text c.args.self.now.text.now false s) c.in-Name.end) (sym (span_is c.new.result c.args.offset c.in-Name.end c.new.ensures.start c.new.ensures.end)) (name (c.requires.kind ∙ c.in-Name.is))

pub returns-in-Quoted-clause-ok : goal.returns-in-Quoted-clause-ok
returns-in-Quoted-clause-ok c =
    subst (λ (s : SpanModel). IsToken c.args.self.now.text.now c.args.offset (token_text c.args.self.now.text.now true s) (c.in-Quoted.end + 1)) (sym (span_is c.new-in-Quoted.result (c.args.offset + 1) c.in-Quoted.end c.new-in-Quoted.ensures.start c.new-in-Quoted.ensures.end)) (quoted (c.requires.kind ∙ c.in-Quoted.is))
