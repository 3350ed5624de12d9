use Rattle.std.proofs.Common.{codes}
use Rattle.std.proofs.lemmas.Result.{on_ok_weaker}
use Rattle.std.specs.String.{string_bytes}
use Rattle.grammar_names.specs.Names.{prod_text}
use Rattle.refused_tables.specs.ExampleTexts.{reduction_text}
use Rattle.refused_tables.proofs.AddedTexts.{adds_action, twice}
use Rattle.refused_tables.proofs.examples.push_reduction.Goals as goal

pub returns : goal.returns
returns c =
    let v = c.args.grm.now in
    let p = c.args.pidx.0 in
    let old = string_bytes c.args.text.now in
    let mid = string_bytes c.push_prod.new.text in
    let named = twice old (codes "  reduce ") (prod_text v p) (string_bytes c.push_str.new.self) mid c.in_ok-push_str.ensures.bytes c.in_ok-push_prod.ensures in
    on_ok_weaker c.push_action.result (adds_action v (reduction_text v p) c.args.action.now old mid (string_bytes c.push_action.new.text) named) c.push_action.ensures
