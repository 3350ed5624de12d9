use Rattle.std.proofs.Common.{◌≡◌, ◌++◌, cond, codes, sym, ap, ◌∙◌}
use Rattle.std.proofs.lemmas.Bool.{eq-eqb, ne_eqb}
use Rattle.std.proofs.lemmas.Result.{on_ok_weaker}
use Rattle.std.specs.String.{string_bytes}
use Rattle.cfg_theory.specs.Grammar.{end_token}
use Rattle.grammar_names.specs.Names.{spaced, token_text}
use Rattle.refused_tables.specs.ExampleTexts.{shift_text}
use Rattle.refused_tables.proofs.AddedTexts.{adds_action, twice}
use Rattle.refused_tables.proofs.examples.push_shift.Goals as goal
use Rattle.refused_tables.proofs.examples.push_shift.Goals.{then-example-eof_token_idx+in_ok-push_str, else-example-eof_token_idx+in_ok-push_str-2+in_ok-push_token}

pub returns : goal.returns
returns c =
    let v = c.args.grm.now in
    let t = c.args.example.now.token.0 in
    let old = string_bytes c.args.text.now in
    let mid = string_bytes c.if-example-eof_token_idx.text in
    let shift = codes "  shift" ++ spaced (token_text v t) in
    let end = c.eof_token_idx.ensures.value in
    let named : mid ≡ old ++ shift_text v t = elim c.if-example-eof_token_idx.branch [
      | then-example-eof_token_idx+in_ok-push_str w ↦
          ap string_bytes w.text-is ∙ w.in_ok-push_str.ensures.bytes ∙ ap (λ b. old ++ cond b (codes "  accept") shift) (sym (eq-eqb t (end_token v.grammar) (w.if-example-eof_token_idx.true ∙ end)))
      | else-example-eof_token_idx+in_ok-push_str-2+in_ok-push_token w ↦
          ap string_bytes w.text-is
          ∙ twice old (codes "  shift") (spaced (token_text v t)) (string_bytes w.push_str-else-example-eof_token_idx.new.self) (string_bytes w.push_token.new.text) w.in_ok-push_str-2.ensures.bytes w.in_ok-push_token.ensures
          ∙ ap (λ b. old ++ cond b (codes "  accept") shift) (sym (ne_eqb t (end_token v.grammar) (λ e. w.if-example-eof_token_idx.false (e ∙ sym end))))
    ] in
    on_ok_weaker c.push_action.result (adds_action v (shift_text v t) c.args.example.now.first old mid (string_bytes c.push_action.new.text) named) c.push_action.ensures
