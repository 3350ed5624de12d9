use Rattle.std.proofs.Common.{◌≡◌, ap, ◌∙◌, slice_get, ◌++◌, ◌∷◌, [], is_ok, if◌then◌else◌}
use Rattle.cfg_read.specs.NameTables.{is_marked, nothing}
use Rattle.cfg_read.specs.NameTexts.{name_text}
use Rattle.cfg_read.proofs.Marks.{marked_push, place_last}
use Rattle.cfg_read.proofs.yacc.name_table.add.Goals as goal

pub returns-clause-marks : goal.returns-clause-marks
returns-clause-marks c = λ mark none q.
    let pushed : c.push.new.self.items ≡ c.args.entries.now.items ++ nothing ∷ [] = c.push.ensures.items ∙ ap (λ r. if is_ok r then c.reserve.new.self.items ++ nothing ∷ [] else c.reserve.new.self.items) c.unwrap.ensures ∙ ap (λ es. es ++ nothing ∷ []) c.reserve.ensures.items in
    ap (λ ts. is_marked mark ts c.push.new.self.items q) c.in_ok-place.ensures.texts
    ∙ ap (λ es. is_marked mark (c.args.names.now ++ name_text c.args.name.now ∷ []) es q) pushed
    ∙ marked_push mark c.args.names.now c.args.entries.now.items (name_text c.args.name.now) nothing q c.requires.size none

pub returns-clause-there : goal.returns-clause-there
returns-clause-there c = ap (λ ts. slice_get ts c.in_ok-place.place) c.in_ok-place.ensures.texts ∙ place_last c.args.names.now (name_text c.args.name.now) c.in_ok-place.place c.in_ok-place.ensures.last
