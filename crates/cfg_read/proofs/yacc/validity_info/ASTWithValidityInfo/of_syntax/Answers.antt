use Rattle.std.proofs.Common.{◌≡◌, refl, sym, subst}
use Rattle.cfg_read.specs.SyntaxModels.{syntax_of}
use Rattle.cfg_read.specs.ErrorModels.{failures_in}
use Rattle.cfg_read.specs.ValidityInfo.{read_as, is_valid, IsWellMade}
use Rattle.cfg_read.proofs.OneAnswer.{made, made_as}
use Rattle.cfg_read.proofs.WellMade.{read_well}
use Rattle.cfg_read.proofs.yacc.validity_info.ASTWithValidityInfo.of_syntax.Goals as goal

pub invariant_of-result : goal.invariant_of-result
invariant_of-result c =
    let x = syntax_of c.args.x in
    let es = failures_in c.in_ok-ast.errors.items in
    let is : made c.args.yacc_kind c.in_ok-ast.ast es ≡ read_as c.args.yacc_kind x =
    made_as c.args.yacc_kind x c.in_ok-ast.ast (is_valid es) es c.in_ok-ast.ensures.errors refl c.in_ok-ast.ensures.ast in
    subst IsWellMade (sym is) (read_well c.args.yacc_kind x c.requires)
