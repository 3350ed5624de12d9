use Rattle.std.proofs.Common.{◌≡◌, [], ◌∷◌, Option, Contains, IfSome, OnOk, option_map, sym, ap, ◌∙◌, subst}
use Rattle.std.specs.Map.Iter.{deref_pair}
use Rattle.std.specs.String.{string_bytes}
use Rattle.cfg_theory.specs.Grammar.{Production, rule, token}
use Rattle.cfg_read.specs.SyntaxTexts.{WordText}
use Rattle.cfg_read.specs.Names.{texts}
use Rattle.cfg_read.specs.AstModels.{named_span}
use Rattle.cfg_read.specs.WellFormedAst.{names_of_tokens}
use Rattle.cfgrammar.specs.FromAst.{implicit_production, token_number}
use Rattle.cfg_numbered.specs.Symbols.{syms_of}
use Rattle.cfgrammar.specs.AddedProductions.{Adds}
use Rattle.cfgrammar.proofs.FromAstLookups.{entry_at, entry_in, all_at}
use Rattle.cfgrammar.proofs.yacc.from_ast.productions.push_implicit.Goals as goal

pub token_named-requires-clause-known : goal.token_named-requires-clause-known
token_named-requires-clause-known g c =
    let ast = c.args.ast.now in
    let e = deref_pair c.unwrap.result in
    let at = entry_at named_span (λ (w : WordText). w.text) c.implicit_tokens.result.now.entries ast.implicit_tokens c.args.index (option_map deref_pair c.get_index.result) e c.implicit_tokens.ensures c.get_index.ensures.entry (ap (option_map deref_pair) c.unwrap.ensures) in
    subst (Contains (names_of_tokens ast)) (sym c.as_str.ensures.value) (all_at (Contains (names_of_tokens ast)) (texts ast.implicit_tokens) c.args.index (string_bytes e.0) c.requires.named at)

pub returns : goal.returns
returns g c =
    let ast = c.args.ast.now in
    let number = g.S.IndexStorage.number in
    let e = deref_pair c.unwrap.result in
    let w = named_span e in
    let at = entry_in named_span c.implicit_tokens.result.now.entries ast.implicit_tokens c.args.index (option_map deref_pair c.get_index.result) e c.implicit_tokens.ensures c.get_index.ensures.entry (ap (option_map deref_pair) c.unwrap.ensures) in
    let head = c.tilde-rule.ensures in
    let name = c.token_named.ensures ∙ ap (token_number ast) c.as_str.ensures.value in
    let body = c.in_ok-symbols.ensures ∙ (λ i. token (name i) ∷ rule (head i) ∷ []) in
    let made : Production = record { head = number c.tilde-rule.result.0; body = syms_of number c.in_ok-symbols.symbols.items } in
    let is : made ≡ implicit_production ast w = λ i. record { head = head i; body = body i } in
    subst (λ (o : Option WordText). OnOk c.push_added.result (IfSome o (λ (v : WordText). Adds number c.args.made.now.items c.push_added.new.made.items (implicit_production ast v ∷ [])))) (sym at)
    (subst (λ (p : Production). OnOk c.push_added.result (Adds number c.args.made.now.items c.push_added.new.made.items (p ∷ []))) is c.push_added.ensures)
