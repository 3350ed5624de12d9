use Rattle.std.proofs.Common.{◌≡◌, ℕ, ◌+◌, sym, ap, ◌∙◌}
use Rattle.cfg_read.specs.NameTexts.{name_text}
use Rattle.cfg_read.specs.WellFormedAst.{names_of_rules}
use Rattle.cfgrammar.specs.FromAst.{index_in}
use Rattle.cfgrammar.proofs.FromAstLookups.{some_of, one_more}
use Rattle.cfgrammar.proofs.FromAstNames.{same_some}
use Rattle.cfgrammar.proofs.FromAstTokens.{found_name}
use Rattle.cfgrammar.proofs.yacc.from_ast.numbers.rule_of.Goals as goal

pub unwrap-index-requires : goal.unwrap-index-requires
unwrap-index-requires g c = some_of _ (c.rule_number.ensures ∙ found_name (names_of_rules c.args.ast.now) (name_text c.args.name.now) c.requires.known)

pub returns : goal.returns
returns g c =
    let names = names_of_rules c.args.ast.now in
    let q = name_text c.args.name.now in
    let at = c.rule_number.ensures ∙ found_name names q c.requires.known in
    let is : c.unwrap-index.result ≡ index_in names q = same_some _ _ (sym c.unwrap-index.ensures ∙ at) in
    c.index_of.ensures ∙ ap (λ (n : ℕ). n + 1) is ∙ one_more (index_in names q)
