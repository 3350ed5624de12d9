use Rattle.std.proofs.Common.{List, map, sym, subst}
use Rattle.std.specs.declared.alloc.Global.{Global}
use Rattle.std.specs.declared.vec.Vec.{Vec}
use Rattle.lrtable.specs.Fronts.{front_of}
use Rattle.lrtable.specs.Opening.{Front}
use Rattle.lrtable.specs.Reaching.{AreReachedBy}
use Rattle.lrtable.specs.declared.openers.Opener.{Opener}
use Rattle.lrtable.proofs.openers.Openers.with_reached.Goals as goal

pub invariant_of-result : goal.invariant_of-result
invariant_of-result c = subst (λ (l : List (List Front)). AreReachedBy l c.args.tokens (map (λ (v : Vec Opener Global). map front_of v.items) c.args.lists.items)) (sym c.self.view_is) c.requires

pub returns : goal.returns
returns c = c.self.view_is
