use Rattle.std.proofs.Common.{◌≡◌, ◌++◌, length, map, sym, ap, ◌∙◌}
use Rattle.std.specs.List.{flat_map}
use Rattle.std.proofs.lemmas.List.{length-map}
use Rattle.cfg_read.specs.Names.{words_in, distinct, implicit_tokens_of}
use Rattle.cfg_read.specs.SyntaxModels.{line_of, syntax_of}
use Rattle.cfg_read.specs.AstModels.{named_span}
use Rattle.cfg_read.specs.ErrorModels.{failures_in}
use Rattle.cfg_read.specs.Validity.{DuplicateImplicitTokensDeclaration}
use Rattle.cfg_read.proofs.Grouping.{append-nil, as_many}
use Rattle.cfg_read.proofs.yacc.validity.repeated.push_repeated_implicit.Goals as goal

pub returns-then-have_so_many_items : goal.returns-then-have_so_many_items
returns-then-have_so_many_items c =
    let ws = implicit_tokens_of (syntax_of c.args.x.now) in
    let base = failures_in c.args.errors.now.items in
    let counted : length ws ≡ c.len.result =
    sym (ap (λ ls. length (flat_map words_in (map line_of ls))) c.deref.ensures.value)
    ∙ c.have_so_many_items.ensures c.if-have_so_many_items.true in
    let kept : c.len.result ≡ length (distinct ws) =
    c.len.ensures.len ∙ sym (length-map c.args.lines.now.implicit_tokens.entries named_span) ∙ ap length c.requires.implicit_is in
    sym (append-nil base) ∙ ap (λ l. base ++ l) (sym (as_many DuplicateImplicitTokensDeclaration ws (sym (counted ∙ kept))))
