use Rattle.std.proofs.Common.{of_calls}
use Rattle.lrpar.specs.declared.parse_actions.AStackType.TheVariants as args
use Rattle.lrpar.proofs.FoldsOver.{told_acted, acted_at, ok_same}
use Rattle.lrpar.proofs.parse_actions.parse_acted.Goals as goal

pub returns-in-Parsed-clause-parsed : goal.returns-in-Parsed-clause-parsed
returns-in-Parsed-clause-parsed g c =
    let x = c.args.machine.now.sgraph.now in
    let number = g.T.StorageT.IndexStorage.number in
    let G = c.args.machine.now.grm.now.grammar in
    let o = rw c.in-Parsed.is at c.in_ok-fault.ensures.parsed in
    told_acted number g.T.LexemeT.Lexeme.lex g.T.LexemeT.Lexeme.faulty_of G x c.args.machine.now.stable.now (g.R.Recoverer.answers c.args.recoverer.now) c.args.items.now
    _ (g.A.Actions.answers c.args.actions.now c.args.lexer.now) c.in-Parsed.value c.answer_of.result c.in-Parsed.errors.items o c.args.machine.now.table.well_formed c.answer_of.ensures
    (λ y u k. let w = k.1 in ok_same u (args.Lexeme y) (search of_calls))
    (λ p r s us u k. let w = k.1.8 in acted_at number (g.A.Actions.answers c.args.actions.now c.args.lexer.now) p r s us u k.1.0 k.1.1 k.1.2 k.1.3 k.1.4 k.1.5 k.1.6 k.1.7 (search of_calls))
