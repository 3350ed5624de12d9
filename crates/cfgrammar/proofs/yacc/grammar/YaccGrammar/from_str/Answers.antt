use Rattle.std.proofs.Common.{Err, refl, sym, subst}
use Rattle.cfg_read.specs.ErrorModels.{failures_in}
use Rattle.cfg_read.specs.Files.{LacksKind, IsFailure}
use Rattle.cfgrammar.specs.declared.yacc.from_ast.YaccGrammarMakeError.TheVariants as errors
use Rattle.cfgrammar.specs.FromAst.{MakesFile, of_kind, without_kind}
use Rattle.cfgrammar.proofs.FromAstTexts.{file_memory}
use Rattle.cfgrammar.proofs.yacc.grammar.YaccGrammar.from_str.Goals as goal

pub returns-in-Ok : goal.returns-in-Ok
returns-in-Ok g c = of_kind c.in-Ok.info.kind c.in-Ok.ensures.kind (record { kept = c.in-Ok.info; checked = c.in-Ok.ensures.ok; answer = c.of_kept.ensures })

pub returns-in-Err-Memory : goal.returns-in-Err-Memory
returns-in-Err-Memory g c = file_memory g.S.IndexStorage.MAX c.args.text.now c.in-Err-Memory.e (c.one_kind.ensures.some c.args.text.now) (λ kind. c.one_file.ensures.some kind c.args.text.now)

pub returns-in-Err-Invalid : goal.returns-in-Err-Invalid
returns-in-Err-Invalid g c =
    let es = c.in-Err-Invalid.errors in
    subst (λ es. MakesFile g.S.IndexStorage.MAX c.args.text.now (Err (errors.Invalid es))) (sym c.in-Err-Invalid.errors-is)
    (without_kind (failures_in es.items) (subst (IsFailure (LacksKind c.args.text.now)) c.in-Err-Invalid.field-0-is c.in-Err-Invalid.ensures.err) refl)
