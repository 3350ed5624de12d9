use Rattle.std.proofs.Common.{◌≡◌, ◌<◌, ◌≤◌, ◌++◌, Bor, ap, ◌∙◌, arith}
use Rattle.cfg_base.specs.SpanModel.{SpanModel}
use Rattle.cfg_read.specs.declared.yacc.parser.syntax.Symbol.{Symbol}
use Rattle.cfg_read.specs.Names.{words_in}
use Rattle.cfg_read.specs.SyntaxModels.{symbol_of}
use Rattle.cfg_read.specs.NameModels.{symbols_at}
use Rattle.cfg_read.proofs.ByOffset.{put_step, put_stop}
use Rattle.cfg_read.proofs.yacc.names.push_before.Goals as goal

pub scan-preserved : goal.scan-preserved
scan-preserved c = record {
  within = omega arith;
  same = λ v rest e.
      let x = c.index-symbols-at.result in
      let span : c.span.result.start ≡ (symbol_of x.now).word.span.start = ap (λ (s : SpanModel). s.start) c.span.ensures in
      let before : (symbol_of x.now).word.span.start < v.span.start = omega (arith, c.start.ensures.value, span) in
      put_step (λ (s : Bor Symbol). symbol_of s.now) c.scan.found.items c.push.new.self.items c.args.symbols.now c.scan.at x v rest (omega arith) c.index-symbols-at.is c.in_ok-push.ensures.items before
      ∙ c.scan.invariant.same v rest e;
}

pub returns-then-start-offset-clause-put_by_offset : goal.returns-then-start-offset-clause-put_by_offset
returns-then-start-offset-clause-put_by_offset c = λ v rest e.
    let x = c.index-symbols-at.result in
    let span : c.span.result.start ≡ (symbol_of x.now).word.span.start = ap (λ (s : SpanModel). s.start) c.span.ensures in
    let behind : v.span.start ≤ (symbol_of x.now).word.span.start = omega (arith, c.start.ensures.value, span) in
    ap (λ t. words_in (symbols_at c.scan.found.items) ++ t) (put_stop (λ (s : Bor Symbol). symbol_of s.now) c.args.symbols.now c.scan.at x v rest (omega arith) c.index-symbols-at.is behind)
    ∙ c.scan.invariant.same v rest e
