use Rattle.std.proofs.Common.{◌≡◌, map, take, length, get_or, slice_get, Some, None, refl, sym, ap, ◌∙◌}
use Rattle.std.proofs.lemmas.Option.{slice_get_read, slice_get_past}
use Rattle.cfg_read.specs.Asts.{Ast}
use Rattle.cfg_read.specs.AstModels.{ast_symbol_of}
use Rattle.cfg_read.specs.NameModels.{names_in}
use Rattle.cfg_read.specs.WarningModels.{with_symbol_names, is_token_symbol, production_symbols, symbols_of_all}
use Rattle.cfg_read.proofs.WarningLemmas.{numbers_more, symbols_found}
use Rattle.cfg_read.proofs.yacc.ast.GrammarAST.insert_all_tokens.Goals as goal
use Rattle.cfg_read.proofs.yacc.ast.GrammarAST.insert_all_tokens.Goals.{in-Some+in_ok-insert_tokens, in_default}

pub pidxs-preserved : goal.pidxs-preserved
pidxs-preserved c =
    let ps = c.args.self.now.productions in
    let ns = c.args.numbers.now in
    let i = c.pidxs.number-index in
    let n = get_or ns i 0 in
    let view = ap (λ (a : Ast). a.productions) c.self.view_is in
    let names = with_symbol_names is_token_symbol (names_in c.args.names.now) (symbols_of_all ps (take i ns)) in
    let step : names_in c.match-get.names ≡ with_symbol_names is_token_symbol names (production_symbols ps n) = elim c.match-get.branch [
      | in-Some+in_ok-insert_tokens w ↦
          let at = w.in-Some.ensures.lookup in
          let is : slice_get c.deref.result.now n ≡ Some w.in-Some.production.now = slice_get_read c.deref.result.now (length c.deref.result.now) n w.in-Some.production.now refl at.3.0 at.1 in
          let found = symbols_found c.self.inside.prods.items ps n (Some w.in-Some.production.now) view (ap (λ xs. slice_get xs n) (sym c.deref.ensures.value) ∙ is) in
          ap names_in w.names-is
          ∙ w.in_ok-insert_tokens.ensures
          ∙ ap (λ ns. with_symbol_names is_token_symbol ns (map ast_symbol_of w.symbols.result.now)) c.pidxs.invariant
          ∙ ap (with_symbol_names is_token_symbol names) w.symbols.ensures
          ∙ ap (with_symbol_names is_token_symbol names) found
      | in_default w ↦
          let is : slice_get c.deref.result.now n ≡ None = slice_get_past c.deref.result.now n w.in_default.ensures.lookup.3 in
          let found = symbols_found c.self.inside.prods.items ps n None view (ap (λ xs. slice_get xs n) (sym c.deref.ensures.value) ∙ is) in
          ap names_in w.names-is ∙ c.pidxs.invariant ∙ ap (with_symbol_names is_token_symbol names) found
    ] in
    step ∙ sym (numbers_more is_token_symbol (names_in c.args.names.now) ps ns i c.pidxs-test.true)
