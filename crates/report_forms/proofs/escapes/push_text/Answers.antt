use Rattle.std.proofs.Common.{List, ℕ, ◌++◌, string_bytes, sym, ap, ◌∙◌, map-id}
use Rattle.std.specs.List.{flat_map}
use Rattle.std.proofs.lemmas.Iterator.{YieldsList-from_chars}
use Rattle.std.proofs.lemmas.Iterator.Consumers.{YieldsList-end}
use Rattle.report_forms.specs.PageTexts.{page_char}
use Rattle.report_forms.proofs.escapes.push_text.Goals as goal

pub returns : goal.returns
returns c =
    let end = YieldsList-end (YieldsList-from_chars c.args.text.now c.utf8.text cc) c.characters.yielded _ c.characters.yielded_by _ _ c.in-None.is c.next.ensures.steps in
    c.characters.invariant ∙ ap (λ (cs : List ℕ). string_bytes c.args.page.now ++ flat_map page_char cs) (sym (map-id c.characters.yielded) ∙ end.0)
