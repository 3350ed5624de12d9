use Rattle.std.proofs.Common.{Option, ◌∙◌}
use Rattle.std.specs.Prelude.{Vec, IfSome}
use Rattle.std.specs.declared.alloc.Global.{Global}
use Rattle.lrpar.specs.FlatParses.{IsFlatParse}
use Rattle.parse_trees.specs.FlatTrees.{FlatValue, IsFlatTree}
use Rattle.parse_trees.specs.Lex.{token_by, span_by}
use Rattle.lrpar.specs.declared.parse_error.ParseError.{ParseError}
use Rattle.lrpar.proofs.FlatsLeft.{tree_of}
use Rattle.lrpar.proofs.Instances.{within_weaker}
use Rattle.lrpar.proofs.builder.RTParserBuilder.parse_flat.Goals as goal

pub returns-clause-parsed : goal.returns-clause-parsed
returns-clause-parsed g c =
    let items = c.as_slice-items.ensures.value ∙ c.iter.ensures in
    rw (c.machine.ensures.grammar, c.machine.ensures.graph, c.machine.ensures.table, items) at c.parse_flat.ensures.parsed

pub returns-clause-tree : goal.returns-clause-tree
returns-clause-tree g c =
    let checked = c.args.self.now.checked.now in
    let G = checked.grammar.grammar in
    let number = g.T.StorageT.IndexStorage.number in
    let lex = g.T.LexemeT.Lexeme.lex in
    let faulty = g.T.LexemeT.Lexeme.faulty_of in
    let answers = g.R.Recoverer.answers c.args.self.now.recoverer.now in
    let items = g.X.Lexer.lexed c.args.lexer.now in
    within_weaker {X = Option (FlatValue g.row.T-LexemeT.Denot) × Vec (ParseError g.row.T-LexemeT.Denot g.row.T-StorageT.Denot) Global} (λ p. IsFlatParse number lex faulty G checked.graph checked.table answers items p.0 p.1.items) (λ p. IfSome p.0 (IsFlatTree G (token_by lex) (span_by lex))) (λ p is. tree_of number lex faulty G checked.graph checked.table answers items p.0 p.1.items is) _ (returns-clause-parsed g c)
