use Rattle.std.proofs.Common.{map, refl, sym, ap, ◌∙◌, subst, arith}
use Rattle.std.proofs.lemmas.List.{take_all}
use Rattle.std.specs.List.{AllByRecursion}
use Rattle.std.specs.String.{string_bytes}
use Rattle.parse_trees.specs.Shown.{shown_of, shown_lists}
use Rattle.parse_trees.specs.ErrorTexts.{sequence_text, EditFits}
use Rattle.parse_trees.proofs.ErrorParts.{all_read, texts_more}
use Rattle.parse_trees.proofs.error_texts.sequences_of.Goals as goal

pub sequence_of-requires : goal.sequence_of-requires
sequence_of-requires g c = λ k.
    let number = g.T.StorageT.IndexStorage.number in
    let fits = EditFits (g.X.NonStreamingLexer.text c.args.lexer.now) g.T.LexemeT.Lexeme.lex in (
      (refl, tt),
      (
        c.requires.names,
        subst (λ l. AllByRecursion fits (map (shown_of number) l)) (sym c.as_slice.ensures.value)
            (all_read (AllByRecursion fits) (λ r. map (shown_of number) r.items) c.args.repairs.now c.repairs.i c.index-repairs-i.result c.requires.fits (omega arith) c.index-repairs-i.is),
      ),
    )

pub repairs-preserved : goal.repairs-preserved
repairs-preserved g c = λ names answers.
    let number = g.T.StorageT.IndexStorage.number in
    let text = sequence_text names (g.X.NonStreamingLexer.text c.args.lexer.now) g.T.LexemeT.Lexeme.lex in
    texts_more string_bytes text (λ r. map (shown_of number) r.items) c.args.repairs.now c.repairs.i c.index-repairs-i.result c.repairs.sequences.items c.push.new.self.items c.in_ok-sequence.sequence (omega arith) c.index-repairs-i.is (c.repairs.invariant names answers)
    (c.in_ok-sequence.ensures names answers ∙ ap (λ l. text (map (shown_of number) l)) c.as_slice.ensures.value) c.in_ok-push.ensures.items

pub returns : goal.returns
returns g c = λ names answers.
    c.repairs.invariant names answers ∙ ap (λ l. map (sequence_text names (g.X.NonStreamingLexer.text c.args.lexer.now) g.T.LexemeT.Lexeme.lex) (shown_lists g.T.StorageT.IndexStorage.number l)) (take_all c.repairs.i c.args.repairs.now (omega arith))
