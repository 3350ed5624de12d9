use Rattle.std.proofs.Common.{◌≡◌, ◌≤◌, ◌+◌, ◌++◌, drop, length, Bor, refl, sym, ap, ◌∙◌, arith}
use Rattle.std.proofs.lemmas.List.{map-append, drop_all, take_rest, length-map}
use Rattle.cfg_base.specs.SpanModel.{SpanModel}
use Rattle.cfg_read.specs.declared.yacc.parser.syntax.Symbol.{Symbol}
use Rattle.cfg_read.specs.SyntaxTexts.{SymbolText}
use Rattle.cfg_read.specs.Names.{words_in, by_offset}
use Rattle.cfg_read.specs.SyntaxModels.{symbol_of, symbols_of}
use Rattle.cfg_read.specs.NameModels.{symbols_at}
use Rattle.cfg_read.proofs.ByOffset.{place_turn, drop_seen}
use Rattle.cfg_read.proofs.yacc.names.by_offset.Goals as goal

pub symbols-preserved : goal.symbols-preserved
symbols-preserved c =
    let x = c.symbol-item.result in
    let i = c.symbols.symbol-index in
    let start : (symbol_of x).word.span.start ≡ c.start.result = sym (c.start.ensures.value ∙ ap (λ (s : SpanModel). s.start) c.span.ensures) in
    record {
      within = c.in_ok-next.ensures.within;
      same = place_turn (λ (s : Bor Symbol). symbol_of s.now) symbol_of c.symbols.found.items c.push_before.new.found.items c.push.new.self.items c.args.symbols.now c.args.others.now i c.symbols.next c.in_ok-next.next x _ _ refl (omega arith) c.symbol-item.is c.in_ok-push.ensures.items
          (c.in_ok-next.ensures.put_by_offset (symbol_of x).word (by_offset (drop (i + 1) (words_in (symbols_of c.args.symbols.now)))) start)
          c.symbols.invariant.same;
    }

pub returns : goal.returns
returns c =
    let xs = c.args.symbols.now in
    let ys = c.args.others.now in
    let found = c.symbols.found.items in
    let ended : length (words_in (symbols_of xs)) ≤ c.symbols.symbol-index = omega (arith, length-map xs symbol_of, length-map (symbols_of xs) (λ (s : SymbolText). s.word)) in
    ap words_in c.in_ok-push_refs.ensures
    ∙ ap (λ l. words_in (symbols_at found ++ symbols_at l)) (take_rest ys c.symbols.next)
    ∙ map-append (λ (s : SymbolText). s.word) (symbols_at found) (symbols_at (drop c.symbols.next ys))
    ∙ ap (λ t. words_in (symbols_at found) ++ t) (sym (drop_seen (λ (s : Bor Symbol). symbol_of s.now) c.symbols.next ys))
    ∙ ap (λ l. words_in (symbols_at found) ++ by_offset l (drop c.symbols.next (words_in (symbols_at ys)))) (sym (drop_all c.symbols.symbol-index (words_in (symbols_of xs)) ended))
    ∙ c.symbols.invariant.same
