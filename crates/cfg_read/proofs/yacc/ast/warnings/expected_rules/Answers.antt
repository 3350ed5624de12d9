use Rattle.std.proofs.Common.{List, ℕ, [], map, ap, ◌∙◌, Bor}
use Rattle.cfg_read.specs.AstModels.{ast_symbol_of}
use Rattle.cfg_read.specs.WarningModels.{is_rule_symbol, with_symbol_names}
use Rattle.cfg_read.proofs.WarningLemmas.{has, has_set, has_symbols}
use Rattle.cfg_read.proofs.yacc.ast.warnings.expected_rules.Goals as goal

pub returns : goal.returns
returns c = λ name.
    let ss = map ast_symbol_of c.args.symbols.now in
    has_set c.insert_rules.new.names.keys name
    ∙ ap (λ ns. has ns name) (c.in_ok-insert_rules.ensures ∙ ap (λ (ks : List (Bor (List ℕ))). with_symbol_names is_rule_symbol (map (λ (k : Bor (List ℕ)). k.now) ks) ss) c.with_hasher-names.ensures.empty)
    ∙ has_symbols is_rule_symbol [] ss name
