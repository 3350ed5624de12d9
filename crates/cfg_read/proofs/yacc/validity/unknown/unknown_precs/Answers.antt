use Rattle.std.proofs.Common.{◌≡◌, ◌++◌, ℕ, Bool, List, map, ap, ◌∙◌}
use Rattle.std.specs.List.{flat_map}
use Rattle.cfg_read.specs.Asts.{has_precedence}
use Rattle.cfg_read.specs.AstModels.{named_precedences}
use Rattle.cfg_read.specs.Names.{is_among, level_tokens}
use Rattle.cfg_read.specs.SyntaxModels.{rule_of, syntax_of}
use Rattle.cfg_read.specs.NameModels.{words_at}
use Rattle.cfg_read.specs.ErrorModels.{failures_in}
use Rattle.cfg_read.specs.Validity.{unknown_by, precs_in, NoPrecForToken}
use Rattle.cfg_read.proofs.LineNames.{has_level}
use Rattle.cfg_read.proofs.yacc.validity.unknown.unknown_precs.Goals as goal

pub returns : goal.returns
returns c =
    let x = syntax_of c.args.x.now in
    let words : words_at c.deref-2.result.now ≡ flat_map precs_in x.rules =
    ap words_at c.deref-2.ensures.value ∙ c.in_ok-words.ensures ∙ ap (λ rs. flat_map precs_in (map rule_of rs)) c.deref.ensures.value in
    let known : has_precedence (named_precedences c.args.precs.now) ≡ is_among (level_tokens x) =
    ap has_precedence c.requires ∙ (λ j q. has_level x.levels q j) in
    c.in_ok-push_without_precedence.ensures
    ∙ ap (λ es. failures_in es ++ unknown_by NoPrecForToken (has_precedence (named_precedences c.args.precs.now)) (words_at c.deref-2.result.now)) c.new-errors.ensures.items
    ∙ ap (λ (p : List ℕ → Bool). unknown_by NoPrecForToken p (words_at c.deref-2.result.now)) known
    ∙ ap (unknown_by NoPrecForToken (is_among (level_tokens x))) words
