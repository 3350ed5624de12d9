use Rattle.std.proofs.Common.{◌≡◌, sym, ap, ◌∙◌, Some, slice_get, arith}
use Rattle.std.proofs.lemmas.List.{length-map}
use Rattle.cfg_read.specs.SyntaxTexts.{WordText}
use Rattle.cfg_read.specs.NameTexts.{name_text}
use Rattle.cfg_read.specs.WellFormedAst.{names_of_tokens}
use Rattle.cfgrammar.specs.FromAst.{index_in}
use Rattle.cfgrammar.proofs.FromAstLookups.{some_of}
use Rattle.cfgrammar.proofs.FromAstNames.{index_in_within, same_some}
use Rattle.cfgrammar.proofs.FromAstTokens.{found_name, name_there, levels_count, level_at}
use Rattle.cfgrammar.proofs.yacc.from_ast.productions.token_precedence.Goals as goal

pub unwrap-number-requires : goal.unwrap-number-requires
unwrap-number-requires c = some_of _ (c.token_number.ensures ∙ found_name (names_of_tokens c.args.ast.now) (name_text c.args.name.now) c.requires.known)

pub level_of-requires : goal.level_of-requires
level_of-requires c =
    let names = names_of_tokens c.args.ast.now in
    let q = name_text c.args.name.now in
    let is : c.unwrap-number.result ≡ index_in names q = same_some _ _ (sym c.unwrap-number.ensures ∙ c.token_number.ensures ∙ found_name names q c.requires.known) in
    let within = index_in_within names q c.requires.known in
    let many = length-map c.args.ast.now.tokens (λ (w : WordText). w.text) in
    let count = levels_count c.args.ast.now c.args.levels.now c.requires.told in
    omega (arith, is, within, many, count)

pub returns : goal.returns
returns c =
    let names = names_of_tokens c.args.ast.now in
    let q = name_text c.args.name.now in
    let at = c.token_number.ensures ∙ found_name names q c.requires.known in
    let is : c.unwrap-number.result ≡ index_in names q = same_some _ _ (sym c.unwrap-number.ensures ∙ at) in
    let there : slice_get names c.unwrap-number.result ≡ Some q = ap (slice_get names) is ∙ name_there names q c.requires.known in
    level_at c.args.ast.now c.args.levels.now c.unwrap-number.result c.level_of.result q c.requires.told c.level_of.ensures there
