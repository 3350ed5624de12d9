use Rattle.std.proofs.Common.{map, subst, arith}
use Rattle.std.proofs.lemmas.List.{take_all}
use Rattle.std.specs.List.{AllByRecursion}
use Rattle.parse_trees.specs.Shown.{shown_of}
use Rattle.parse_trees.specs.ErrorTexts.{EditFits}
use Rattle.diagnostic_rows.proofs.OneMore.{one_more}
use Rattle.diagnostic_rows.proofs.fitting.sequence_fits.Goals as goal

pub repairs-preserved : goal.repairs-preserved
repairs-preserved g c = one_more (EditFits c.args.text.now g.L.Lexeme.lex) (shown_of g.S.IndexStorage.number) c.args.repairs.now c.repairs.i c.index-repairs-i.result (omega arith) c.index-repairs-i.is c.repairs.invariant (c.step_fits.ensures c.if-not-step_fits.false)

pub returns : goal.returns
returns g c = λ h. subst (λ l. AllByRecursion (EditFits c.args.text.now g.L.Lexeme.lex) (map (shown_of g.S.IndexStorage.number) l)) (take_all c.repairs.i c.args.repairs.now (omega arith)) c.repairs.invariant
