use Rattle.std.proofs.Common.{ℕ, List, fold, ap, ◌∙◌, arith}
use Rattle.std.proofs.lemmas.List.{take_all}
use Rattle.cfg_read.specs.SyntaxTexts.{SymbolText}
use Rattle.cfg_read.specs.Names.{words_in}
use Rattle.cfg_read.specs.SyntaxModels.{symbol_of, symbols_of}
use Rattle.cfg_read.specs.NameTables.{known_of, with_declared}
use Rattle.cfg_read.proofs.KnownLemmas.{fold_turn}
use Rattle.cfg_read.proofs.yacc.names.note_declared.Goals as goal

pub symbols-preserved : goal.symbols-preserved
symbols-preserved c =
    let x = c.symbol-item.result in
    let s = symbol_of x in
    let old = known_of c.symbols.table in
    fold_turn with_declared symbol_of (λ (s : SymbolText). s.word) (known_of c.args.table.now) old (known_of c.note_declared.new.self) c.args.symbols.now c.symbols.symbol-index x (omega arith) c.symbol-item.is c.symbols.invariant
    (c.in_ok-note_declared.ensures s.word.span ∙ ap (λ (t : List ℕ). with_declared old (record { text = t; span = s.word.span })) c.name.ensures)

pub returns : goal.returns
returns c = c.symbols.invariant ∙ ap (λ l. fold with_declared (known_of c.args.table.now) (words_in (symbols_of l))) (take_all c.symbols.symbol-index c.args.symbols.now (omega arith))
