use Rattle.std.proofs.Common.{rules, ◌≡◌, ◌∷◌, ap, ◌∙◌}
use Rattle.parse_trees.specs.ErrorTexts.{seen_as, left_out}
use Rattle.parse_trees.proofs.ErrorParts.{last_seen}
use Rattle.parse_trees.proofs.error_texts.deletion_end.Goals as goal

pub returns : goal.returns
returns g c =
    let seen = seen_as g.S.IndexStorage.number in
    let r = last_seen seen c.args.pieces.now c.in-Some.last.now c.in-Some.ensures.value in
    let same : c.in-Delete.from ≡ c.args.end = search rules in
    (r.0, r.1 ∙ ap (λ p. seen p ∷ r.0) c.in-Delete.is ∙ ap (λ j. left_out j c.in-Delete.to ∷ r.0) same)
