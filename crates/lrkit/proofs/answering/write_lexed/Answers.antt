use Rattle.std.proofs.lemmas.Result.{IfOk-weaker, on_err_weaker}
use Rattle.lrkit.proofs.ShownLines.{errors_can_be_shown, tree_can_be_shown, writes_parsed, begins_parsed, writes_fault, begins_fault}
use Rattle.lrkit.proofs.answering.write_lexed.Goals as goal

pub write_parsed-requires-clause-errors : goal.write_parsed-requires-clause-errors
write_parsed-requires-clause-errors g c =
    let well_formed = c.stays_tabled.ensures.well_formed in
    let parse = rw (c.in-Ok-Ok.field-0-is, c.requires.items) at c.in-Ok-Ok.ensures.parsed in
    errors_can_be_shown c.args.answers.now.kit.now c.args.answers.now.repairs.now c.args.line.now well_formed c.utf8.line (c.flat_parses_can_be_shown.ensures c.args.answers.now.repairs.now) c.items_are_parts_of_their_line.ensures.lexemes c.in-Ok-Ok.tree c.in-Ok-Ok.errors.items parse

pub write_parsed-requires-clause-tree : goal.write_parsed-requires-clause-tree
write_parsed-requires-clause-tree g c =
    let well_formed = c.stays_tabled.ensures.well_formed in
    let parse = rw (c.in-Ok-Ok.field-0-is, c.requires.items) at c.in-Ok-Ok.ensures.parsed in
    tree_can_be_shown c.args.answers.now.kit.now c.args.answers.now.repairs.now c.args.line.now well_formed c.utf8.line (c.flat_parses_can_be_shown.ensures c.args.answers.now.repairs.now) c.items_are_parts_of_their_line.ensures.lexemes c.in-Ok-Ok.tree c.in-Ok-Ok.errors.items parse

pub returns-in-Ok-Ok-clause-ok : goal.returns-in-Ok-Ok-clause-ok
returns-in-Ok-Ok-clause-ok g c =
    let parse = rw (c.in-Ok-Ok.field-0-is, c.requires.items) at c.in-Ok-Ok.ensures.parsed in
    let tree = parse.exact.parse.parsed in
    IfOk-weaker _ _ _ (writes_parsed c.args.answers.now.kit.now c.args.answers.now.repairs.now c.args.line.now (g.W.Sink.known c.args.out.now) (g.W.Sink.known c.write_parsed.new.out) c.args.text.now.items c.write_parsed.new.text.items c.in-Ok-Ok.tree c.in-Ok-Ok.errors.items parse) (c.write_parsed.ensures.ok tree.tree tree.gives_tree)

pub returns-in-Ok-Ok-clause-begins : goal.returns-in-Ok-Ok-clause-begins
returns-in-Ok-Ok-clause-begins g c =
    let parse = rw (c.in-Ok-Ok.field-0-is, c.requires.items) at c.in-Ok-Ok.ensures.parsed in
    let tree = parse.exact.parse.parsed in
    on_err_weaker c.write_parsed.result (begins_parsed c.args.answers.now.kit.now c.args.answers.now.repairs.now c.args.line.now (g.W.Sink.known c.args.out.now) (g.W.Sink.known c.write_parsed.new.out) c.args.text.now.items c.in-Ok-Ok.tree c.in-Ok-Ok.errors.items parse) (c.write_parsed.ensures.begins tree.tree tree.gives_tree)

pub returns-in-Ok-Err-clause-ok : goal.returns-in-Ok-Err-clause-ok
returns-in-Ok-Err-clause-ok g c =
    let is = rw (c.in-Ok-Err.field-0-is, c.requires.items) at c.in-Ok-Err.ensures.fault in
    IfOk-weaker _ _ _ (writes_fault c.args.answers.now.kit.now c.args.answers.now.repairs.now c.args.line.now (g.W.Sink.known c.args.out.now) (g.W.Sink.known c.write_first_fault.new.out) c.args.text.now.items c.write_first_fault.new.text.items c.in-Ok-Err.error is) (rw c.requires.line at c.write_first_fault.ensures.ok)

pub returns-in-Ok-Err-clause-begins : goal.returns-in-Ok-Err-clause-begins
returns-in-Ok-Err-clause-begins g c =
    let is = rw (c.in-Ok-Err.field-0-is, c.requires.items) at c.in-Ok-Err.ensures.fault in
    on_err_weaker c.write_first_fault.result (begins_fault c.args.answers.now.kit.now c.args.answers.now.repairs.now c.args.line.now (g.W.Sink.known c.args.out.now) (g.W.Sink.known c.write_first_fault.new.out) c.args.text.now.items c.in-Ok-Err.error is) (rw c.requires.line at c.write_first_fault.ensures.begins)
