use Rattle.std.proofs.Common.{◌≡◌, ◌++◌, length, vec_len, codes, sym, ap, ◌∙◌, arith}
use Rattle.std.proofs.lemmas.Bool.{eqb-false, eqb-true}
use Rattle.std.proofs.lemmas.Result.{on_ok_weaker}
use Rattle.std.specs.String.{string_bytes}
use Rattle.cfg_numbered.specs.Symbols.{syms_of}
use Rattle.grammar_names.specs.Names.{symbols_text}
use Rattle.refused_tables.specs.ExampleTexts.{rest_text}
use Rattle.refused_tables.proofs.AddedTexts.{added_if, rest_none, rest_some}
use Rattle.refused_tables.proofs.examples.push_string.Goals as goal
use Rattle.refused_tables.proofs.examples.push_string.Goals.{then-is_empty+in_ok-push_token, else-is_empty+in_ok-push_symbols-2}

pub returns : goal.returns
unfolding lib.Utf8.encode
returns c =
    let v = c.args.grm.now in
    let t = c.args.example.now.token.0 in
    let behind = c.in_ok-rest.rest in
    let len : length behind.items ≡ vec_len behind = omega (arith, behind.ok.0) in
    let shown = symbols_text v (syms_of (λ n. n) c.args.example.now.symbols.items) in
    let rest = rest_text v t (syms_of (λ n. n) behind.items) in
    let begun = string_bytes c.push_str.new.self in
    let symbols = string_bytes c.push_symbols.new.text in
    let dot = string_bytes c.push_word.new.text in
    let mid = string_bytes c.if-is_empty.text in
    let seen : symbols ≡ begun ++ shown = c.in_ok-push_symbols.ensures ∙ ap (λ Ys. begun ++ symbols_text v (syms_of (λ n. n) Ys)) c.as_slice.ensures.value in
    let dotted : dot ≡ symbols ++ codes " ." = c.in_ok-push_word.ensures in
    let ended : mid ≡ dot ++ rest = elim c.if-is_empty.branch [
      | then-is_empty+in_ok-push_token w ↦
          let none = len ∙ eqb-true (vec_len behind) 0 (sym c.is_empty.ensures ∙ w.if-is_empty.true) in
          ap string_bytes w.text-is ∙ w.in_ok-push_token.ensures ∙ ap (λ l. dot ++ l) (sym (rest_none v t behind.items none))
      | else-is_empty+in_ok-push_symbols-2 w ↦
          let some = eqb-false (vec_len behind) 0 (sym c.is_empty.ensures ∙ w.if-is_empty.false) in
          ap string_bytes w.text-is ∙ w.in_ok-push_symbols-2.ensures ∙ ap (λ Ys. dot ++ symbols_text v (syms_of (λ n. n) Ys)) w.as_slice-else-is_empty.ensures.value
          ∙ ap (λ l. dot ++ l) (sym (rest_some v t behind.items (λ e. some (sym len ∙ e))))
    ] in
    let line = dotted ∙ ap (λ l. l ++ codes " .") (seen ∙ ap (λ l. l ++ shown) c.in_ok-push_str.ensures.bytes) in
    on_ok_weaker c.push.result (λ h. (syms_of (λ n. n) behind.items, h ∙ ap (λ l. l ++ codes "\n") (ended ∙ ap (λ l. l ++ rest) line)))
    (added_if c.push.result (string_bytes c.push.new.self) mid (codes "\n") c.push.ensures.bytes)
