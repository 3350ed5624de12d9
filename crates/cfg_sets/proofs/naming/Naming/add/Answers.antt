use Rattle.std.proofs.Common.{ℕ, List, subst}
use Rattle.std.specs.List.{Contains}
use Rattle.cfg_sets.proofs.WorkSteps.{vec_same, vec_last}
use Rattle.cfg_sets.proofs.naming.Naming.add.Goals as goal

pub returns-then-ends_with : goal.returns-then-ends_with
returns-then-ends_with c =
    vec_same (λ l. l.items) c.self.inside.lists.items c.args.self.now c.self.view_is c.args.rule c.requires c.index_mut-list.result.now c.index_mut-list.ensures.value c.args.number
    (subst (λ (l : List ℕ). Contains l c.args.number) c.as_slice.ensures.value (c.ends_with.ensures c.if-ends_with.true))

pub returns : goal.returns
returns c =
    vec_last (λ l. l.items) c.self.inside.lists.items c.args.self.now c.self.view_is c.args.rule c.requires c.index_mut-list.result.now c.index_mut-list.ensures.value c.args.number c.push.new.self c.in_ok-push.ensures.items
