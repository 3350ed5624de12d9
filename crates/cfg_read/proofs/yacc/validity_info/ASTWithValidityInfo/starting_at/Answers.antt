use Rattle.std.proofs.Common.{◌≡◌, ℕ, List, Some, ap, ◌∙◌}
use Rattle.std.specs.String.{string_bytes}
use Rattle.cfg_read.specs.SyntaxTexts.{WordText}
use Rattle.cfg_read.specs.Asts.{Ast}
use Rattle.cfg_read.specs.AstChanges.{with_start}
use Rattle.cfg_read.specs.ErrorModels.{failures_in}
use Rattle.cfg_read.specs.ValidityInfo.{CheckedAst, heading_at}
use Rattle.cfg_read.proofs.WellMade.{start_kept}
use Rattle.cfg_read.proofs.yacc.validity_info.ASTWithValidityInfo.starting_at.Goals as goal

pub invariant_of-result : goal.invariant_of-result
invariant_of-result c =
    let heading : heading_at c.self.inside.ast.rules c.args.name.now ≡ Some c.args.span =
    ap (λ (d : CheckedAst). heading_at d.ast.rules c.args.name.now) c.self.view_is ∙ c.requires in
    let at : List ℕ → WordText = λ text. record { text = text; span = c.args.span } in
    let is : c.set_start.new.self ≡ with_start c.self.inside.ast (at c.args.name.now) =
    c.set_start.ensures ∙ (ap (λ (a : Ast). with_start a (at (string_bytes c.in_ok-name.name))) c.in_ok-ast.ensures.cases ∙ ap (λ text. with_start c.self.inside.ast (at text)) c.in_ok-name.ensures.ok) in
    let same : failures_in c.in_ok-errors.errors.items ≡ failures_in c.self.inside.errors.items = c.in_ok-errors.ensures ∙ ap failures_in c.as_slice.ensures.value in
    start_kept c.self.inside.yacc_kind c.self.inside.ast c.set_start.new.self (failures_in c.self.inside.errors.items) (failures_in c.in_ok-errors.errors.items) c.args.name.now c.args.span heading c.self.invariant is same
