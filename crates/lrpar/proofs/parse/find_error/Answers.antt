use Rattle.std.proofs.Common.{sym, ap, get_or, ◌∙◌}
use Rattle.lrpar.specs.Made.{made_by, end_of, next_lexeme}
use Rattle.parse_trees.specs.Edits.{sequences_of}
use Rattle.lrpar.proofs.Mending.{top_is, makes_tokens}
use Rattle.lrpar.proofs.parse.find_error.Goals as goal

pub returns : goal.returns
returns g c =
    let x = c.args.machine.now.sgraph.now in
    let safe = c.args.machine.now.pair.safe in
    λ input d stands states rest.
    let number = g.S.IndexStorage.number in
    let lex = g.L.Lexeme.lex in
    let faulty = g.L.Lexeme.faulty_of in
    record {
      offered = sequences_of number c.in_ok-offered.offered.items;
      told = record {
        state = top_is number c.args.states.now c.index-states-states.result c.requires.some c.index-states-states.is ∙ ap (λ ss. get_or ss 0 0) (sym states);
        lexeme = c.lexeme_or_end-lexeme.ensures ∙ ap (next_lexeme c.args.machine.now.grm.now.grammar (made_by faulty lex (end_of lex c.args.lexemes.now))) (sym rest);
        within = c.requires.index;
        index = rest;
        handed_in = c.in_ok-offered.ensures;
        are_repairs = c.in_ok-repairs.ensures x (made_by faulty lex (end_of lex c.args.lexemes.now)) input d safe (makes_tokens lex faulty g.S.IndexStorage.MAX (end_of lex c.args.lexemes.now) g.met.L.Lexeme.faulty_is) stands states rest;
      };
    }
