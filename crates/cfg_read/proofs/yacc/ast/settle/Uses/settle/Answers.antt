use Rattle.std.proofs.Common.{ap, sym}
use Rattle.cfg_read.specs.AstModels.{ast_symbol_of}
use Rattle.cfg_read.specs.SyntaxModels.{symbol_of}
use Rattle.cfg_read.specs.NameTables.{known_of}
use Rattle.cfg_read.specs.Settling.{uses_of, unknown_words, named_fresh}
use Rattle.cfg_read.proofs.Settled.{settled_optional}
use Rattle.cfg_read.proofs.yacc.ast.settle.Uses.settle.Goals as goal

pub returns-in_ok-symbol-in-Some-clause-uses : goal.returns-in_ok-symbol-in-Some-clause-uses
returns-in_ok-symbol-in-Some-clause-uses c =
    let old = uses_of c.args.self.now in
    let plain = c.settle_plain-in-Some.new.self in
    let done = c.note_fresh.new.self in
    let inner = c.settle_plain-in-Some.new.symbol in
    settled_optional old (uses_of plain) (known_of done.table) (unknown_words done.unknown.items) (named_fresh done.fresh)
    (symbol_of c.args.symbol.now) (symbol_of c.in_ok-inner-in-Some.inner) (ast_symbol_of inner) c.in-Some.span
    (sym c.in-Some.ensures)
    c.in_ok-inner-in-Some.ensures
    c.in_ok-settle_plain-in-Some.ensures.symbol
    c.in_ok-settle_plain-in-Some.ensures.known
    c.in_ok-settle_plain-in-Some.ensures.unknown
    (ap named_fresh c.in_ok-settle_plain-in-Some.ensures.fresh)
    (ap known_of c.in_ok-symbol-in-Some.ensures.known)
    (ap (λ us. unknown_words us.items) c.in_ok-symbol-in-Some.ensures.unknown)
    c.in_ok-symbol-in-Some.ensures.noted
