use Rattle.std.proofs.Common.{◌≡◌, take}
use Rattle.cfg_read.specs.NameModels.{names_in}
use Rattle.cfg_read.specs.WarningModels.{with_symbol_names, is_rule_symbol, symbols_of_all}
use Rattle.cfg_read.proofs.yacc.ast.GrammarAST.insert_all_rules.Given as goal

abbrev pub invariant-pidxs : goal.invariant-pidxs
invariant-pidxs l = names_in l.names ≡ with_symbol_names is_rule_symbol (names_in l.fn.names) (symbols_of_all (l.self.productions) (take l.number-index l.numbers))
