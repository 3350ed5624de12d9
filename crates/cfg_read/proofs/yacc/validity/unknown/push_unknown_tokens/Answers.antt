use Rattle.std.proofs.Common.{◌≡◌, ◌++◌, List, map, ap, ◌∙◌}
use Rattle.std.specs.List.{flat_map}
use Rattle.cfg_read.specs.SyntaxTexts.{SymbolText}
use Rattle.cfg_read.specs.Names.{is_among, words_in, avoided_tokens}
use Rattle.cfg_read.specs.SyntaxModels.{line_of, syntax_of}
use Rattle.cfg_read.specs.NameModels.{symbols_at}
use Rattle.cfg_read.specs.ErrorModels.{failures_in}
use Rattle.cfg_read.specs.Validity.{unknown_by, UnknownToken}
use Rattle.cfg_read.proofs.KnownLemmas.{words_of_lines}
use Rattle.cfg_read.proofs.yacc.validity.unknown.push_unknown_tokens.Goals as goal

pub returns : goal.returns
returns c =
    let base = failures_in c.args.errors.now.items in
    let tokens = is_among c.args.table.now.tokens in
    let listed : words_in (symbols_at c.deref-2.result.now) ≡ avoided_tokens (syntax_of c.args.x.now) =
    ap (λ ss. words_in (symbols_at ss)) c.deref-2.ensures.value
    ∙ ap words_in (c.in_ok-symbols.ensures ∙ ap (λ ls. flat_map (λ (l : List SymbolText). l) (map line_of ls)) c.deref.ensures.value)
    ∙ words_of_lines (map line_of c.args.x.now.avoid_insert.items) in
    c.in_ok-push_unknown_items.ensures ∙ ap (λ ws. base ++ unknown_by UnknownToken tokens ws) listed
