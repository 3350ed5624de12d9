use Rattle.std.specs.Prelude.{IfOk}
use Rattle.std.proofs.Common.{map, sym, ◌∙◌, subst}
use Rattle.std.specs.declared.alloc.Global.{Global}
use Rattle.std.specs.declared.vec.Vec.{Vec}
use Rattle.lrtable.specs.Fronts.{front_of}
use Rattle.lrtable.specs.Reachers.{HasReach}
use Rattle.lrtable.specs.Reaching.{AreReachedBy}
use Rattle.lrtable.specs.declared.openers.Opener.{Opener}
use Rattle.lrtable.proofs.left_corners.reached_lists.Goals as goal

pub lists_by-lists-requires : goal.lists_by-lists-requires
lists_by-lists-requires c =
    let made = c.in_ok-reacher.ensures in
    let r = c.in_ok-reacher.reacher in
    let t = sym made.tokens_are in
    record {
      reacher = subst (λ n. HasReach n r.opening.tokens r) c.len.ensures (subst (λ n. HasReach c.len.result n r) t made);
      fit = λ A e m. let f = c.requires A e m in record { rule = f.rule; first = f.first ∙ t };
    }

pub returns : goal.returns
returns c = subst (λ n. IfOk c.lists_by-lists.result (λ (v : Vec (Vec Opener Global) Global). AreReachedBy c.args.openers.now n (map (λ (w : Vec Opener Global). map front_of w.items) v.items))) c.in_ok-reacher.ensures.tokens_are c.lists_by-lists.ensures
