use Rattle.std.proofs.Common.{◌≡◌, ◌++◌, ◌∷◌, [], ℕ, List, map, ap, ◌∙◌, arith}
use Rattle.std.proofs.lemmas.List.{take_all}
use Rattle.cfg_base.specs.SpanModel.{SpanModel}
use Rattle.cfg_read.specs.SyntaxTexts.{WordText}
use Rattle.cfg_read.specs.SyntaxModels.{symbol_of}
use Rattle.cfg_read.specs.Names.{is_among}
use Rattle.cfg_read.specs.ErrorModels.{failures_in}
use Rattle.cfg_read.specs.Validity.{unknown_by, UnknownToken}
use Rattle.cfg_read.proofs.LineNames.{item_word, words_of_items}
use Rattle.cfg_read.proofs.UnknownLemmas.{unknown_turn}
use Rattle.cfg_read.proofs.yacc.validity.unknown.push_unknown_items.Goals as goal

pub symbols-preserved : goal.symbols-preserved
symbols-preserved c =
    let x = c.symbol-item.result in
    let w : WordText = (symbol_of x.now).word in
    let tokens = is_among c.args.table.now.tokens in
    let old = failures_in c.symbols.errors.items in
    let b = c.entry-is_known.result.is_token in
    let text : c.as_str.result.now ≡ w.text = c.as_str.ensures ∙ c.name-name.ensures in
    let told : List ℕ → SpanModel → WordText = λ t s. record { text = t; span = s } in
    let turn : failures_in c.push_if_unknown.new.errors.items ≡ old ++ unknown_by UnknownToken (λ q. b) (w ∷ []) =
    c.in_ok-push_if_unknown.ensures
    ∙ ap (λ (t : List ℕ). old ++ unknown_by UnknownToken (λ q. b) (told t c.span.result ∷ [])) text
    ∙ ap (λ (s : SpanModel). old ++ unknown_by UnknownToken (λ q. b) (told w.text s ∷ [])) c.span.ensures in
    unknown_turn UnknownToken tokens item_word (failures_in c.args.errors.now.items) old (failures_in c.push_if_unknown.new.errors.items) c.args.symbols.now c.symbols.symbol-index x b (omega arith) c.symbol-item.is
    c.symbols.invariant (c.entry-is_known.ensures.token ∙ ap tokens c.name-name.ensures) turn

pub returns : goal.returns
returns c =
    let base = failures_in c.args.errors.now.items in
    let tokens = is_among c.args.table.now.tokens in
    c.symbols.invariant
    ∙ ap (λ ss. base ++ unknown_by UnknownToken tokens (map item_word ss)) (take_all c.symbols.symbol-index c.args.symbols.now (omega arith))
    ∙ ap (λ ws. base ++ unknown_by UnknownToken tokens ws) (words_of_items c.args.symbols.now)
