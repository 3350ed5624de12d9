use Rattle.std.proofs.Common.{◌≡◌, sym, ap, ◌∙◌, subst}
use Rattle.cfg_theory.specs.Grammar.{token}
use Rattle.cfg_read.specs.AstModels.{ast_symbol_of}
use Rattle.cfg_read.specs.NameTexts.{name_text}
use Rattle.cfg_read.specs.WellFormedAst.{NamesOne, names_of_tokens}
use Rattle.cfgrammar.specs.FromAst.{index_in, sym_of}
use Rattle.cfgrammar.proofs.FromAstLookups.{some_of}
use Rattle.cfgrammar.proofs.FromAstNames.{same_some}
use Rattle.cfgrammar.proofs.FromAstTokens.{found_name}
use Rattle.cfgrammar.proofs.yacc.from_ast.numbers.to_symbol.Goals as goal

pub unwrap-index-requires : goal.unwrap-index-requires
unwrap-index-requires g c =
    let known = subst (λ s. NamesOne c.args.ast.now (ast_symbol_of s)) c.in-Token.is c.requires.known in
    some_of _ (c.token_number.ensures ∙ found_name (names_of_tokens c.args.ast.now) (name_text c.in-Token.name) known)

pub returns-in-Token : goal.returns-in-Token
returns-in-Token g c =
    let names = names_of_tokens c.args.ast.now in
    let q = name_text c.in-Token.name in
    let known = subst (λ s. NamesOne c.args.ast.now (ast_symbol_of s)) c.in-Token.is c.requires.known in
    let at = c.token_number.ensures ∙ found_name names q known in
    let is : c.unwrap-index.result ≡ index_in names q = same_some _ _ (sym c.unwrap-index.ensures ∙ at) in
    subst (λ s. token (g.S.IndexStorage.number c.index_of.result) ≡ sym_of c.args.ast.now (ast_symbol_of s)) (sym c.in-Token.is) (ap token (c.index_of.ensures ∙ is))
