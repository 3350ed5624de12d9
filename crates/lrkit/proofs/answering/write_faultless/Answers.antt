use Rattle.std.proofs.Common.{◌∙◌, refl, subst, sym}
use Rattle.std.proofs.lemmas.Result.{on_err_weaker, on_ok_weaker}
use Rattle.word_lines.specs.NodeRows.{AreNamed}
use Rattle.lrkit.specs.Output.{id}
use Rattle.lrkit.proofs.Faultless.{faultless_items, faultless_shows, faultless_writes, faultless_begins}
use Rattle.lrkit.proofs.answering.write_faultless.Goals as goal

pub write_outline-requires-clause-can : goal.write_outline-requires-clause-can
write_outline-requires-clause-can g c =
    let k = c.args.answers.now.kit.now in
    let repairs = c.args.answers.now.repairs.now in
    let line = c.args.line.now in
    let f = rw c.requires.items at c.requires.faultless in
    let items = c.as_slice.ensures.value ∙ c.iter.ensures ∙ c.requires.items ∙ faultless_items k repairs line c.args.outline.now f in
    let shows = faultless_shows k repairs line c.args.outline.now f c.stays_tabled.ensures.well_formed c.utf8.line (c.parses_can_be_shown.ensures repairs) c.items_are_parts_of_their_line.ensures.lexemes in
    rw c.args.answers.now.same (f.tree, items, f.outline, shows)

pub write_outline-requires-clause-named : goal.write_outline-requires-clause-named
write_outline-requires-clause-named g c =
    let k = c.args.answers.now.kit.now in
    let line = c.args.line.now in
    let items = c.as_slice.ensures.value ∙ c.iter.ensures ∙ c.requires.items in
    rw c.args.answers.now.same (subst (AreNamed id k.grammar line) (sym items) (c.lexemes_of_lines_are_named.ensures k.grammar line (λ t. refl)))

pub returns-clause-ok : goal.returns-clause-ok
returns-clause-ok g c =
    let k = c.args.answers.now.kit.now in
    let repairs = c.args.answers.now.repairs.now in
    let line = c.args.line.now in
    let f = rw c.requires.items at c.requires.faultless in
    let items = c.as_slice.ensures.value ∙ c.iter.ensures ∙ c.requires.items ∙ faultless_items k repairs line c.args.outline.now f in
    on_ok_weaker c.write_outline.result (faultless_writes k repairs line c.args.outline.now f (g.W.Sink.known c.args.out.now) (g.W.Sink.known c.write_outline.new.out) c.args.text.now.items c.write_outline.new.text.items) (rw c.args.answers.now.same at c.write_outline.ensures.ok f.tree items f.outline)

pub returns-clause-begins : goal.returns-clause-begins
returns-clause-begins g c =
    let k = c.args.answers.now.kit.now in
    let repairs = c.args.answers.now.repairs.now in
    let line = c.args.line.now in
    let f = rw c.requires.items at c.requires.faultless in
    let items = c.as_slice.ensures.value ∙ c.iter.ensures ∙ c.requires.items ∙ faultless_items k repairs line c.args.outline.now f in
    on_err_weaker c.write_outline.result (faultless_begins k repairs line c.args.outline.now f (g.W.Sink.known c.args.out.now) (g.W.Sink.known c.write_outline.new.out) c.args.text.now.items) (rw c.args.answers.now.same at c.write_outline.ensures.begins f.tree items f.outline)
