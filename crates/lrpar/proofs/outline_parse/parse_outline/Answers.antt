use Rattle.std.proofs.Common.{ap, ◌∙◌, map}
use Rattle.state_table.specs.Tables.{automaton_of}
use Rattle.lrpar.specs.OutlineParses.{HasOutline}
use Rattle.lrpar.specs.Made.{end_of, made_by}
use Rattle.lrpar.specs.Parsing.{errors_of}
use Rattle.parse_trees.specs.Lex.{token_by}
use Rattle.lrpar.specs.Told.{as_told}
use Rattle.lrpar.proofs.Valued.{parse_gives}
use Rattle.lrpar.proofs.outline_parse.parse_outline.Goals as goal

pub outline_left-outline-requires : goal.outline_left-outline-requires
outline_left-outline-requires g c =
    let o = rw c.in-Parsed.is at c.in_ok-fault.ensures.parsed in
    (o.2.parsed.tree, o.2.parsed.gives_tree)

pub returns-in-Ok-tell_errors-clause-parsed : goal.returns-in-Ok-tell_errors-clause-parsed
returns-in-Ok-tell_errors-clause-parsed g c =
    let x = c.args.machine.now.sgraph.now in
    let number = g.S.IndexStorage.number in
    let lex = g.L.Lexeme.lex in
    let G = c.args.machine.now.grm.now.grammar in
    let p = c.in-Parsed.parsed in
    let lexemes = c.in-Parsed.lexemes in
    let found = errors_of number p.errors.items in
    let o = rw c.in-Parsed.is at c.in_ok-fault.ensures.parsed in
    let told = c.in-Ok-tell_errors.ensures ∙ ap (λ es. map (as_told lexemes) (errors_of number es)) c.as_slice.ensures.value in
    record {
      lexemes = lexemes;
      are_items = o.0;
      are_lexemes = o.1;
      found = found;
      parse = parse_gives G (automaton_of x c.args.machine.now.stable.now) (token_by lex) (made_by g.L.Lexeme.faulty_of lex (end_of lex lexemes)) (g.R.Recoverer.answers c.args.recoverer.now) _ (HasOutline c.outline_left-outline.result) lexemes found
          (λ tree h. c.outline_left-outline.ensures tree h) o.2;
      told = told;
    }
