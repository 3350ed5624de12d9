use Rattle.std.proofs.Common.{◌≡◌, filter, length, OnOk, subst}
use Rattle.cfg_read.specs.SyntaxModels.{syntax_of}
use Rattle.grammar_index.specs.Occurrences.{is_within, occurrences_of}
use Rattle.grammar_index.proofs.index.fill_from.Goals as goal

pub returns-in-Some-clause-reading : goal.returns-in-Some-clause-reading
returns-in-Some-clause-reading c = λ x reads.
    let e : syntax_of c.in-Some.syntax ≡ x = rw c.in-Some.is at c.in_ok-syntax.ensures x reads in
    subst (λ y. OnOk c.fill.result (c.fill.new.index.names.items ≡ filter (is_within (length c.args.text.now)) (occurrences_of y))) e c.fill.ensures.names

pub returns-in-None-clause-reading : goal.returns-in-None-clause-reading
returns-in-None-clause-reading c = λ x reads. absurd (rw c.in-None.is at c.in_ok-syntax.ensures x reads)
