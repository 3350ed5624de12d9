use Rattle.std.proofs.Common.{◌≡◌, map, take, sym, ap, ◌∙◌}
use Rattle.cfg_read.specs.AstModels.{ast_symbol_of}
use Rattle.cfg_read.specs.NameModels.{names_in}
use Rattle.cfg_read.specs.WarningModels.{with_symbol_name, with_symbol_names, is_rule_symbol}
use Rattle.cfg_read.proofs.WarningLemmas.{added, symbols_more}
use Rattle.cfg_read.proofs.yacc.ast.warnings.insert_rules.Goals as goal
use Rattle.cfg_read.proofs.yacc.ast.warnings.insert_rules.Goals.{in-Rule+in_ok-insert, in_default}

pub symbols-preserved : goal.symbols-preserved
symbols-preserved c =
    let xs = c.args.symbols.now in
    let i = c.symbols.symbol-index in
    let x = c.symbol-item.result in
    let names = with_symbol_names is_rule_symbol (names_in c.args.names.now) (map ast_symbol_of (take i xs)) in
    let step : names_in c.match-symbol.names ≡ with_symbol_name is_rule_symbol names (ast_symbol_of x) = elim c.match-symbol.branch [
      | in-Rule+in_ok-insert w ↦
          ap names_in w.names-is
          ∙ added c.symbols.names.keys w.insert.new.self.keys w.as_str.result names _ w.in_ok-insert.ensures.keys c.symbols.invariant w.as_str.ensures
          ∙ ap (λ y. with_symbol_name is_rule_symbol names (ast_symbol_of y)) (sym w.in-Rule.is)
      | in_default w ↦ ap names_in w.names-is ∙ c.symbols.invariant ∙ ap (λ y. with_symbol_name is_rule_symbol names (ast_symbol_of y)) (sym w.in_default.is)
    ] in
    step ∙ sym (symbols_more is_rule_symbol (names_in c.args.names.now) xs i x c.symbols-test.true c.symbol-item.is)
