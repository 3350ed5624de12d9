use Rattle.std.proofs.Common.{ℕ, List, Bor, fold, ap, ◌∙◌, arith}
use Rattle.std.proofs.lemmas.List.{take_all}
use Rattle.cfg_base.specs.SpanModel.{SpanModel}
use Rattle.cfg_read.specs.declared.yacc.parser.syntax.Symbol.{Symbol}
use Rattle.cfg_read.specs.SyntaxTexts.{SymbolText}
use Rattle.cfg_read.specs.Names.{words_in}
use Rattle.cfg_read.specs.SyntaxModels.{symbol_of}
use Rattle.cfg_read.specs.NameModels.{symbols_at}
use Rattle.cfg_read.specs.NameTables.{known_of, with_token}
use Rattle.cfg_read.proofs.KnownLemmas.{fold_turn}
use Rattle.cfg_read.proofs.yacc.names.note_tokens.Goals as goal

pub symbols-preserved : goal.symbols-preserved
symbols-preserved c =
    let x = c.symbol-item.result in
    let s = symbol_of x.now in
    let old = known_of c.symbols.table in
    fold_turn with_token (λ (r : Bor Symbol). symbol_of r.now) (λ (s : SymbolText). s.word) (known_of c.args.table.now) old (known_of c.note_token.new.self) c.args.symbols.now c.symbols.symbol-index x (omega arith) c.symbol-item.is c.symbols.invariant
    (c.in_ok-note_token.ensures
    ∙ ap (λ (t : List ℕ). with_token old (record { text = t; span = c.span.result })) c.name.ensures
    ∙ ap (λ (a : SpanModel). with_token old (record { text = s.word.text; span = a })) c.span.ensures)

pub returns : goal.returns
returns c = c.symbols.invariant ∙ ap (λ l. fold with_token (known_of c.args.table.now) (words_in (symbols_at l))) (take_all c.symbols.symbol-index c.args.symbols.now (omega arith))
