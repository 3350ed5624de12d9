use Rattle.std.proofs.Common.{[], map, take, sym, ap, ◌∙◌, arith}
use Rattle.std.proofs.lemmas.List.{take_all}
use Rattle.cfg_read.specs.Asts.{SymbolAst}
use Rattle.cfg_read.specs.AstModels.{ast_symbol_of}
use Rattle.cfg_read.specs.WarningModels.{with_name, with_symbol_names, is_any_symbol}
use Rattle.cfg_read.proofs.WarningLemmas.{added, has, has_set, has_symbols, symbols_more}
use Rattle.cfg_read.proofs.AstSymbols.{by_quotes}
use Rattle.cfg_read.proofs.yacc.ast.warnings.expected_tokens.Goals as goal

pub symbols-preserved : goal.symbols-preserved
symbols-preserved c =
    let xs = c.args.symbols.now in
    let i = c.symbols.symbol-index in
    let x = c.symbol-item.result in
    let names = with_symbol_names is_any_symbol [] (map ast_symbol_of (take i xs)) in
    added c.symbols.names.keys c.insert.new.self.keys c.as_str.result names _ c.in_ok-insert.ensures.keys c.symbols.invariant c.as_str.ensures
    ∙ ap (with_name names) (c.name.ensures ∙ sym (ap (λ (s : SymbolAst). s.word.text) (by_quotes x)))
    ∙ sym (symbols_more is_any_symbol [] xs i x c.symbols-test.true c.symbol-item.is)

pub returns : goal.returns
returns c = λ name.
    has_set c.symbols.names.keys name
    ∙ ap (λ ns. has ns name) (c.symbols.invariant ∙ ap (λ xs. with_symbol_names is_any_symbol [] (map ast_symbol_of xs)) (take_all c.symbols.symbol-index c.args.symbols.now (omega arith)))
    ∙ has_symbols is_any_symbol [] (map ast_symbol_of c.args.symbols.now) name
