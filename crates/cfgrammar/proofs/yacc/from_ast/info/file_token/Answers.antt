use Rattle.std.proofs.Common.{◌≡◌, List, Some, refl, sym, ap, ◌∙◌}
use Rattle.cfg_read.specs.SyntaxTexts.{WordText}
use Rattle.cfg_read.specs.Names.{is_among}
use Rattle.cfg_read.specs.AstModels.{named_span}
use Rattle.cfgrammar.proofs.FromAstLookups.{found_any}
use Rattle.cfgrammar.proofs.yacc.from_ast.info.file_token.Goals as goal

pub returns-clause-token : goal.returns-clause-token
returns-clause-token c = λ from key named avoided printed level.
    let q = c.args.name.now in
    let epp = c.take_epp.ensures.text ∙ printed in
    let avoid : c.contains_key.result ≡ is_among from.avoid_insert q =
    c.contains_key.ensures
    ∙ found_any named_span (λ (w : WordText). w.text) (λ e. refl) c.avoid_insert.result.now.entries q
    ∙ ap (λ (ws : List WordText). is_among ws q) (c.avoid_insert.ensures ∙ sym avoided) in
    λ i. record {
      name = Some (named i);
      span = Some c.args.span;
      epp = epp i;
      precedence = level i;
      is_avoided = avoid i;
    }
