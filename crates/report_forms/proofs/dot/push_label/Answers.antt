use Rattle.std.proofs.Common.{List, ℕ, ◌++◌, string_bytes, sym, ap, ◌∙◌, map-id}
use Rattle.std.specs.List.{flat_map}
use Rattle.std.proofs.lemmas.Iterator.{YieldsList-from_chars}
use Rattle.std.proofs.lemmas.Iterator.Consumers.{YieldsList-end}
use Rattle.report_forms.specs.DotTexts.{label_char}
use Rattle.report_forms.proofs.dot.push_label.Goals as goal

pub returns : goal.returns
returns c =
    let end = YieldsList-end (YieldsList-from_chars c.args.part.now c.utf8.part cc) c.characters.yielded _ c.characters.yielded_by _ _ c.in-None.is c.next.ensures.steps in
    c.characters.invariant ∙ ap (λ (cs : List ℕ). string_bytes c.args.text.now ++ flat_map label_char cs) (sym (map-id c.characters.yielded) ∙ end.0)
