use Rattle.std.proofs.Common.{length, map, sym, ap, ◌∙◌}
use Rattle.std.proofs.lemmas.List.{length-map}
use Rattle.std.specs.declared.alloc.Global.{Global}
use Rattle.std.specs.declared.vec.Vec.{Vec}
use Rattle.lrtable.specs.Fronts.{front_of}
use Rattle.lrtable.specs.declared.openers.Opener.{Opener}
use Rattle.lrtable.proofs.openers.Openers.len.Goals as goal

pub returns : goal.returns
returns c = c.len.ensures ∙ (c.self.inside.rules.ok.0 ∙ (sym (length-map c.self.inside.rules.items (λ (v : Vec Opener Global). map front_of v.items)) ∙ ap length c.self.view_is))
