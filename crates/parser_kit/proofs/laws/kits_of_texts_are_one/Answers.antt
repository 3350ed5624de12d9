use Rattle.parser_kit.proofs.Kits.{one_text_kit, same_cap, same_grammar, same_kept}
use Rattle.parser_kit.proofs.laws.kits_of_texts_are_one.Goals as goal

pub returns : goal.returns
returns c = λ top top' cap kind text k l x y.
    let one = c.one_answer.ensures.answers in
    one_text_kit k l (same_kept one top top' cap kind text k l x y)
    (c.kits_are_one.ensures top top' k.parser l.parser x.tabled y.tabled (same_grammar one top top' cap kind text k l x y) (same_cap one top top' cap kind text k l x y))
