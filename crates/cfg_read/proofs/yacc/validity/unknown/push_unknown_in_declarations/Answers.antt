use Rattle.std.proofs.Common.{◌≡◌, ◌++◌, List, map, ap, ◌∙◌}
use Rattle.std.specs.List.{flat_map}
use Rattle.cfg_read.proofs.Joined.{joined}
use Rattle.cfg_read.specs.SyntaxTexts.{WordText, SymbolText, SyntaxText}
use Rattle.cfg_read.specs.Names.{is_among, avoided_tokens}
use Rattle.cfg_read.specs.SyntaxModels.{line_of, syntax_of}
use Rattle.cfg_read.specs.NameModels.{symbols_at}
use Rattle.cfg_read.specs.NameTables.{known_of}
use Rattle.cfg_read.specs.ErrorModels.{failures_in}
use Rattle.cfg_read.specs.Validity.{epp_tokens, UnknownEPP, UnknownToken, unknown_symbols_by, known_by, expected_symbols, unknown_by}
use Rattle.cfg_read.proofs.yacc.validity.unknown.push_unknown_in_declarations.Goals as goal

pub returns : goal.returns
returns c =
    let x : SyntaxText = syntax_of c.args.x.now in
    let rules = (known_of c.args.table.now).rules in
    let told : List WordText = c.args.table.now.tokens in
    let base = failures_in c.args.errors.now.items in
    let a = unknown_by UnknownEPP (is_among told) (epp_tokens x) in
    let b = unknown_by UnknownToken (is_among told) (avoided_tokens x) in
    let d = unknown_symbols_by (known_by rules (is_among told)) (expected_symbols x) in
    let one = failures_in c.push_unknown_epps.new.errors.items in
    let two = failures_in c.push_unknown_tokens.new.errors.items in
    let three = failures_in c.push_unknown_symbols.new.errors.items in
    let listed : symbols_at c.deref-2.result.now ≡ expected_symbols x =
    ap symbols_at c.deref-2.ensures.value
    ∙ c.in_ok-symbols.ensures
    ∙ ap (λ ls. flat_map (λ (p : List SymbolText). p) (map line_of ls)) c.deref.ensures.value in
    let epps : one ≡ base ++ a =
    c.in_ok-push_unknown_epps.ensures ∙ ap (λ ws. base ++ unknown_by UnknownEPP (is_among ws) (epp_tokens x)) c.tokens-tokens.ensures in
    let tokens : two ≡ one ++ b =
    c.in_ok-push_unknown_tokens.ensures in
    let symbols : three ≡ two ++ d =
    c.in_ok-push_unknown_symbols.ensures
    ∙ ap (λ ws. two ++ unknown_symbols_by (known_by rules (is_among ws)) (symbols_at c.deref-2.result.now)) c.tokens-tokens.ensures
    ∙ ap (λ (l : List SymbolText). two ++ unknown_symbols_by (known_by rules (is_among told)) l) listed in
    joined base one three a (b ++ d) epps (joined one two three b d tokens symbols)
