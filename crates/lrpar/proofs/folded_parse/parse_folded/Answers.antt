use Rattle.std.proofs.Common.{ap, ◌∙◌, subst, map}
use Rattle.state_table.specs.Tables.{automaton_of}
use Rattle.lrpar.specs.Made.{end_of, made_by}
use Rattle.lrpar.specs.Parses.{HasValue}
use Rattle.lrpar.specs.Parsing.{errors_of}
use Rattle.parse_trees.specs.Lex.{token_by, span_by}
use Rattle.parse_trees.specs.Stacks.{values_by}
use Rattle.lrpar.specs.Told.{as_told}
use Rattle.lrpar.proofs.Valued.{parse_gives}
use Rattle.lrpar.proofs.folded_parse.parse_folded.Goals as goal

pub parse_items-requires-clause-empty : goal.parse_items-requires-clause-empty
parse_items-requires-clause-empty g c = c.no_folds-values.ensures.stands c.args.machine.now.grm.now.grammar

pub returns-in-Ok-clause-parsed : goal.returns-in-Ok-clause-parsed
returns-in-Ok-clause-parsed g c =
    let x = c.args.machine.now.sgraph.now in
    let number = g.S.IndexStorage.number in
    let lex = g.L.Lexeme.lex in
    let G = c.args.machine.now.grm.now.grammar in
    let p = c.in-Parsed.parsed in
    let lexemes = c.in-Parsed.lexemes in
    let found = errors_of number p.errors.items in
    let value = c.value_left-value.result in
    let o = rw c.in-Parsed.is at c.in_ok-fault.ensures.parsed in
    let k = rw c.in-Parsed.is at c.in_ok-fault.ensures.keeps in
    let term = k.0 ∙ c.no_folds-values.ensures.term in
    let nonterm = k.1 ∙ c.no_folds-values.ensures.nonterm in
    let told = c.in-Ok.ensures ∙ ap (λ es. map (as_told lexemes) (errors_of number es)) c.as_slice.ensures.value in
    record {
      lexemes = lexemes;
      are_items = o.0;
      are_lexemes = o.1;
      found = found;
      parse = parse_gives G (automaton_of x c.args.machine.now.stable.now) (token_by lex) (made_by g.L.Lexeme.faulty_of lex (end_of lex lexemes)) (g.R.Recoverer.answers c.args.recoverer.now) _ (HasValue G (values_by number (goal.F-post g c.args.fterm.now) (goal.H-post g c.args.fnonterm.now)) (span_by lex) value) lexemes found
          (λ tree h.
          subst (λ r. HasValue G (values_by number (goal.F-post g c.args.fterm.now) (goal.H-post g r)) (span_by lex) value tree) nonterm
          (subst (λ f. HasValue G (values_by number (goal.F-post g f) (goal.H-post g p.values.fnonterm.now)) (span_by lex) value tree) term (c.value_left-value.ensures G tree h)))
          o.2;
      told = told;
    }
