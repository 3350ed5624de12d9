use Rattle.std.proofs.Common.{◌≡◌, ◌+◌, ◌∙◌, None, ap, length, option_map}
use Rattle.std.proofs.lemmas.Result.{on_ok_weaker}
use Rattle.text_parses.specs.AskedTexts.{asked_of, shown_in}
use Rattle.text_server.specs.Found.{error_count}
use Rattle.text_server.proofs.Counts.{counted}
use Rattle.text_server.proofs.diagnostics.push_unparsed.Goals as goal

pub returns : goal.returns
returns c =
    let all : length c.as_slice.result.now ≡ error_count c.args.parsed.now = ap length c.as_slice.ensures.value ∙ counted c.args.kit.now.parser.grammar (shown_in c.in_ok-source.source 0 None (asked_of c.input_of-input.result)) c.args.parsed.now c.in_ok-value.value.errors.items (option_map (λ v. v.items) c.in_ok-value.value.tree) c.in_ok-value.ensures.found in
    on_ok_weaker c.push_each-pushed.result (λ h. h ∙ ap (λ n. length c.args.found.now.items + n) all) c.push_each-pushed.ensures
