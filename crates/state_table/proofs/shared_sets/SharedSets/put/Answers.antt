use Rattle.std.proofs.Common.{◌≡◌, ◌≤◌, ℕ, length, refl, subst, arith, rules}
use Rattle.std.specs.List.{insert}
use Rattle.std.proofs.lemmas.List.{length-map}
use Rattle.std.proofs.lemmas.Result.{err_from_is_err_and}
use Rattle.state_table.specs.CoreViews.{item_of}
use Rattle.state_table.specs.declared.shared_sets.SharedItem.{SharedItem}
use Rattle.state_table.specs.declared.shared_sets.SharedSets.{SharedSets}
use Rattle.state_table.proofs.Sharing.{put_takes, pushed_keeps, pushed_lt, pushed_row, stays_pushed, newly_put}
use Rattle.state_table.proofs.shared_sets.SharedSets.put.Goals as goal

pub insert-requires : goal.insert-requires
insert-requires g c =
    let n = length-map c.args.self.now.entries.items (λ (e : SharedItem g.row.S.Denot). item_of g.S.IndexStorage.number e.item) in
    let w = c.requires.belongs.within in
    let le : c.args.index ≤ length c.args.self.now.entries.items = omega (arith, n, w) in
    search rules

pub returns-in_err-insert-clause-kept : goal.returns-in_err-insert-clause-kept
returns-in_err-insert-clause-kept g c =
    let number = g.S.IndexStorage.number in
    let old = c.args.self.now in
    let new : SharedSets g.row.S.Denot = record { entries = c.insert.new.self; sets = c.push.new.self } in
    let last : c.len-set.result ≡ length old.sets.items = search rules in
    let p = err_from_is_err_and c.from_residual-in_err-insert.result c.from_residual-in_err-insert.ensures.1 in
    rw (p.1, p.2) (stays_pushed number old new c.requires.within (pushed_keeps old.sets.items new.sets.items c.in_ok-own.own c.args.looks.now.bits c.len-set.result c.in_ok-push.ensures.items c.in_ok-own.ensures.cases last) c.in_err-insert.ensures.items)

pub returns-clause-added : goal.returns-clause-added
returns-clause-added g c =
    let number = g.S.IndexStorage.number in
    let old = c.args.self.now in
    let bits = c.args.looks.now.bits in
    let vs = old.sets.items in
    let e : SharedItem g.row.S.Denot = record { item = c.args.item; set = c.len-set.result } in
    let new : SharedSets g.row.S.Denot = record { entries = c.insert.new.self; sets = c.push.new.self } in
    let last : c.len-set.result ≡ length vs = search rules in
    let pushed = c.in_ok-push.ensures.items in
    put_takes number old new c.args.index e bits c.requires.core c.requires.within c.requires.belongs
    (pushed_keeps vs new.sets.items c.in_ok-own.own bits c.len-set.result pushed c.in_ok-own.ensures.cases last)
    (pushed_lt vs new.sets.items c.in_ok-own.own bits c.len-set.result pushed c.in_ok-own.ensures.cases last)
    (pushed_row vs new.sets.items c.in_ok-own.own bits c.len-set.result pushed c.in_ok-own.ensures.cases last)
    (subst (λ (n : ℕ). new.entries.items ≡ insert old.entries.items c.args.index (record { item = c.args.item; set = n })) c.of.ensures c.in_ok-insert.ensures.items)

pub returns-clause-grew : goal.returns-clause-grew
returns-clause-grew g c =
    let number = g.S.IndexStorage.number in
    (λ _. newly_put number c.args.self.now c.args.index (item_of number c.args.item) c.args.looks.now.bits c.requires.core c.requires.belongs, λ _. refl)
