use Rattle.std.proofs.Common.{map, subst, arith}
use Rattle.std.proofs.lemmas.List.{take_all}
use Rattle.std.specs.List.{AllByRecursion}
use Rattle.parse_trees.specs.Shown.{shown_of, shown_lists}
use Rattle.parse_trees.specs.ErrorTexts.{EditFits}
use Rattle.diagnostic_rows.proofs.OneMore.{one_more}
use Rattle.diagnostic_rows.proofs.fitting.lists_fit.Goals as goal

pub lists-preserved : goal.lists-preserved
lists-preserved g c =
    let number = g.S.IndexStorage.number in
    let fits = EditFits c.args.text.now g.L.Lexeme.lex in
    one_more (AllByRecursion fits) (λ r. map (shown_of number) r.items) c.args.lists.now c.lists.i c.index-lists-i.result (omega arith) c.index-lists-i.is c.lists.invariant
    (subst (λ l. AllByRecursion fits (map (shown_of number) l)) c.as_slice.ensures.value (c.sequence_fits.ensures c.if-not-sequence_fits.false))

pub returns : goal.returns
returns g c = λ h. subst (λ l. AllByRecursion (AllByRecursion (EditFits c.args.text.now g.L.Lexeme.lex)) (shown_lists g.S.IndexStorage.number l)) (take_all c.lists.i c.args.lists.now (omega arith)) c.lists.invariant
