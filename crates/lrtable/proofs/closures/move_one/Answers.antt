use Rattle.std.proofs.Common.{sym, ◌∙◌, subst}
use Rattle.cfg_theory.specs.Grammar.{IsNext}
use Rattle.cfg_numbered.specs.Symbols.{sym_of}
use Rattle.lr_theory.proofs.Place.{same_symbol_true}
use Rattle.lrtable.proofs.Exact.{dot_within}
use Rattle.lrtable.proofs.Moved.{moves}
use Rattle.lrtable.proofs.closures.move_one.Goals as goal

pub dot_behind-requires-clause-dot : goal.dot_behind-requires-clause-dot
dot_behind-requires-clause-dot g c =
    let number = g.S.IndexStorage.number in
    dot_within c.args.grm.now.grammar (number c.args.pidx.0) c.args.dot (sym_of number c.in-Some.next) c.in-Some.ensures

pub returns-in_ok-add-in-Some : goal.returns-in_ok-add-in-Some
returns-in_ok-add-in-Some g c =
    let number = g.S.IndexStorage.number in
    let G = c.args.grm.now.grammar in
    let p = number c.args.pidx.0 in
    let X = sym_of number c.args.symbol in
    let same = same_symbol_true (sym_of number c.in-Some.next) X (sym c.same_symbols.ensures ∙ c.if-not-same_symbols.false) in
    moves number G p c.args.dot c.args.looks.now.bits X c.args.moved.now c.add.new.self (number c.dot_behind.result.0) c.dot_behind.ensures (subst (IsNext G p c.args.dot) same c.in-Some.ensures) c.in_ok-add-in-Some.ensures.added
