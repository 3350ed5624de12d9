use Rattle.std.proofs.Common.{◌≡◌, ℕ, [], ◌∷◌, ◌++◌, length, rules, refl, sym, ap, ◌∙◌, subst}
use Rattle.std.specs.List.{insert}
use Rattle.std.proofs.lemmas.List.Edits.{insert_end}
use Rattle.state_table.specs.Meeting.{rows_in, row}
use Rattle.state_table.specs.Sharing.{TakesIn}
use Rattle.state_table.specs.CoreViews.{item_of}
use Rattle.state_table.specs.declared.shared_sets.SharedItem.{SharedItem}
use Rattle.state_table.specs.declared.shared_sets.SharedSets.{SharedSets}
use Rattle.state_table.proofs.CoreSteps.{row_at}
use Rattle.state_table.proofs.Sharing.{belongs, put_shares}
use Rattle.state_table.proofs.shared_sets.SharedSets.share.Goals as goal

pub returns-then-is_at : goal.returns-then-is_at
returns-then-is_at g c =
    let number = g.S.IndexStorage.number in
    let s = c.args.self.now in
    let e : c.in_ok-looks.looks.bits ≡ row (rows_in s.sets.items) c.args.set = c.in_ok-looks.ensures.cases ∙ sym (row_at s.sets.items c.args.set c.index.result.now c.requires.set c.index.ensures) in
    subst (λ b. TakesIn number (number c.args.item.pidx.0) (number c.args.item.dot.0) b s c.grow.new.self) e c.in_ok-grow.ensures.added

pub returns-then-index-len : goal.returns-then-index-len
returns-then-index-len g c =
    let number = g.S.IndexStorage.number in
    let s = c.args.self.now in
    let e : SharedItem g.row.S.Denot = record { item = c.args.item; set = c.args.set } in
    let new : SharedSets g.row.S.Denot = record { entries = c.push.new.self; sets = s.sets } in
    let len : c.index_in-index.result ≡ length s.entries.items = c.if-index-len.true ∙ search rules in
    let at = belongs (λ (e : SharedItem g.row.S.Denot). item_of number e.item) s.entries.items c.as_slice.result.now c.as_slice-2.result.now c.index_in-index.result (item_of number c.args.item) c.requires.core.ascends
    c.as_slice.ensures.value c.as_slice-2.ensures.value c.index_in-index.ensures.within c.index_in-index.ensures.below c.index_in-index.ensures.above (c.is_at.ensures.other c.if-is_at.false) in
    let pushed = subst (λ (n : ℕ). new.entries.items ≡ s.entries.items ++ record { item = c.args.item; set = n } ∷ []) c.of.ensures c.in_ok-push.ensures.items in
    put_shares number s new c.index_in-index.result e c.requires.core c.requires.within at c.requires.set refl (pushed ∙ sym (insert_end s.entries.items e) ∙ ap (λ (k : ℕ). insert s.entries.items k e) (sym len))

pub returns : goal.returns
returns g c =
    let number = g.S.IndexStorage.number in
    let s = c.args.self.now in
    let e : SharedItem g.row.S.Denot = record { item = c.args.item; set = c.args.set } in
    let new : SharedSets g.row.S.Denot = record { entries = c.insert.new.self; sets = s.sets } in
    let at = belongs (λ (e : SharedItem g.row.S.Denot). item_of number e.item) s.entries.items c.as_slice.result.now c.as_slice-2.result.now c.index_in-index.result (item_of number c.args.item) c.requires.core.ascends
    c.as_slice.ensures.value c.as_slice-2.ensures.value c.index_in-index.ensures.within c.index_in-index.ensures.below c.index_in-index.ensures.above (c.is_at.ensures.other c.if-is_at.false) in
    put_shares number s new c.index_in-index.result e c.requires.core c.requires.within at c.requires.set refl
    (subst (λ (n : ℕ). new.entries.items ≡ insert s.entries.items c.index_in-index.result (record { item = c.args.item; set = n })) c.of.ensures c.in_ok-insert.ensures.items)
