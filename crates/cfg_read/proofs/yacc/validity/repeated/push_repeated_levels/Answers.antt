use Rattle.std.proofs.Common.{◌≡◌, ◌++◌, length, map, sym, ap, ◌∙◌}
use Rattle.std.specs.List.{flat_map}
use Rattle.std.proofs.lemmas.List.{length-map}
use Rattle.cfg_read.specs.SyntaxTexts.{LevelText}
use Rattle.cfg_read.specs.Names.{words_in, distinct, level_tokens}
use Rattle.cfg_read.specs.SyntaxModels.{level_of, syntax_of}
use Rattle.cfg_read.specs.AstModels.{named_precedence}
use Rattle.cfg_read.specs.ErrorModels.{failures_in}
use Rattle.cfg_read.specs.Validity.{DuplicatePrecedence}
use Rattle.cfg_read.proofs.Grouping.{append-nil, as_many}
use Rattle.cfg_read.proofs.LineNames.{as_many_levels}
use Rattle.cfg_read.proofs.yacc.validity.repeated.push_repeated_levels.Goals as goal

pub returns-then-have_so_many_tokens : goal.returns-then-have_so_many_tokens
returns-then-have_so_many_tokens c =
    let x = syntax_of c.args.x.now in
    let base = failures_in c.args.errors.now.items in
    let counted : length (level_tokens x) ≡ c.len.result =
    sym (ap (λ ls. length (flat_map (λ (l : LevelText). words_in l.tokens) (map level_of ls))) c.deref.ensures.value)
    ∙ c.have_so_many_tokens.ensures c.if-have_so_many_tokens.true in
    let kept : c.len.result ≡ length (distinct (level_tokens x)) =
    c.len.ensures.len ∙ sym (length-map c.args.lines.now.precs.entries named_precedence) ∙ ap length c.requires.precedences_is ∙ as_many_levels x.levels in
    sym (append-nil base) ∙ ap (λ l. base ++ l) (sym (as_many DuplicatePrecedence (level_tokens x) (sym (counted ∙ kept))))
