use Rattle.std.proofs.Common.{◌≡◌, ◌∙◌, List, ℕ, ◌++◌, ap, append_assoc, subst}
use Rattle.std.proofs.lemmas.Result.{err_from_is_err_and}
use Rattle.std.specs.List.{flat_map}
use Rattle.byte_streams.specs.Sink.{BeginningWritten, IsOutBut}
use Rattle.word_lines.specs.LineTexts.{error_line, value_text}
use Rattle.lrkit.specs.Output.{id, parsed_text}
use Rattle.lrkit.proofs.ShownLines.{some_or_none}
use Rattle.lrkit.proofs.answering.write_parsed.Goals as goal

pub returns-in_err-write_tree-clause-begins : goal.returns-in_err-write_tree-clause-begins
returns-in_err-write_tree-clause-begins g c = λ t has.
    let p = err_from_is_err_and c.from_residual-in_err-write_tree.result c.from_residual-in_err-write_tree.ensures.1 in
    let grammar = c.args.answers.now.kit.now.grammar in
    let line = c.args.lexed.now.line.now in
    let v = value_text id grammar line t in
    let added = rw (c.requires.line, c.grm-grm.ensures) at c.in_ok-push_errors.ensures in
    let same : c.push_errors.new.text.items ++ v ≡ c.args.text.now.items ++ parsed_text grammar line c.args.errors.items t = ap (λ x. x ++ v) added ∙ append_assoc c.args.text.now.items (flat_map (error_line id grammar line) c.args.errors.items) v in
    let P : List ℕ → Type 0 = λ x. BeginningWritten (g.W.Sink.known c.args.out.now) (g.W.Sink.known c.write_tree.new.out) x in
    rw p.1 (subst P same (rw c.grm-grm.ensures at c.in_err-write_tree.ensures.begins t has))

pub returns-clause-ok : goal.returns-clause-ok
returns-clause-ok g c = λ t has.
    let grammar = c.args.answers.now.kit.now.grammar in
    let line = c.args.lexed.now.line.now in
    let v = value_text id grammar line t in
    let added = rw (c.requires.line, c.grm-grm.ensures) at c.in_ok-push_errors.ensures in
    let same : c.push_errors.new.text.items ++ v ≡ c.args.text.now.items ++ parsed_text grammar line c.args.errors.items t = ap (λ x. x ++ v) added ∙ append_assoc c.args.text.now.items (flat_map (error_line id grammar line) c.args.errors.items) v in
    let P : List ℕ → Type 0 = λ x. IsOutBut (g.W.Sink.known c.args.out.now) (g.W.Sink.known c.write_tree.new.out) x c.write_tree.new.text.items in
    record {
      out_but = subst P same (rw c.grm-grm.ensures at c.in_ok-write_tree.ensures.ok t has);
      faulty_is = some_or_none c.args.errors.items _ _ c.is_empty-faulty.ensures c.args.errors.ok.0;
    }
