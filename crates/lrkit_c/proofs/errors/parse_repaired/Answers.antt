use Rattle.std.proofs.Common.{sym, subst}
use Rattle.lrkit_c.proofs.Answered.{parse_status}
use Rattle.lrkit_c.specs.Errors.{IsParseStatus}
use Rattle.lrkit_c.specs.declared.status.Status.{Status}
use Rattle.lrkit_c.proofs.errors.parse_repaired.Goals as goal

pub returns-in-Err : goal.returns-in-Err
returns-in-Err c =
    let P : Status → Type 0 = λ s. IsParseStatus c.args.kit.now.parser.grammar.grammar c.args.lexer.now.items s in
    record {
      parsed = tt;
      refused = subst P (sym c.status_of.ensures) (parse_status c.args.kit.now.parser.grammar.grammar c.args.lexer.now.items c.in-Err.refusal c.in-Err.ensures.refused);
    }
