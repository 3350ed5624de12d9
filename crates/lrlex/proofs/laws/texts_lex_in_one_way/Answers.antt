use Rattle.std.proofs.Common.{sym, ap₂, ◌∙◌}
use Rattle.lrlex.specs.Lexing.{items_of}
use Rattle.lrlex.proofs.laws.texts_lex_in_one_way.Goals as goal

pub returns : goal.returns
returns g c = λ rules meanings text xs ys a b.
    let one = c.texts_munch_in_one_way.ensures in
    a.are
    ∙ ap₂ (items_of meanings) (one.parts rules text a.parts b.parts a.ending b.ending a.munches b.munches)
    (one.ending rules text a.parts b.parts a.ending b.ending a.munches b.munches)
    ∙ sym b.are
