use Rattle.std.proofs.Common.{◌<◌, [], length, sym, ap, ◌∙◌, arith, rules}
use Rattle.std.proofs.lemmas.List.{drop_more}
use Rattle.lr_theory.specs.Itemset.{Entry}
use Rattle.state_table.proofs.ItemWalks.{next_entry}
use Rattle.state_table.proofs.itemset.ItemsIterator.next.Goals as goal

none : Entry
none = record { production = 0; dot = 0; lookaheads = [] }

pub returns-clause-steps : goal.returns-clause-steps
returns-clause-steps g c =
    let number = g.S.IndexStorage.number in
    let w = c.self.inside in
    let le = c.self.invariant in
    let ne = c.if-index-len.false in
    let len = c.len.ensures in
    let lt : w.index < length w.itemset.now = omega (arith, le, ne, len) in
    sym c.self.view_is ∙ next_entry w.itemset.now w.index none (number c.item_at.result.0.0) (number c.item_at.result.1.0) c.looks_at.result.now.bits lt (c.item_at.ensures.production none) (c.item_at.ensures.dot none) (c.looks_at.ensures none)

pub returns-clause-goes : goal.returns-clause-goes
returns-clause-goes g c =
    let w = c.self.inside in
    let le = c.self.invariant in
    let ne = c.if-index-len.false in
    let len = c.len.ensures in
    let lt : w.index < length w.itemset.now = omega (arith, le, ne, len) in
    let e = ap length (sym c.self.view_is ∙ drop_more w.itemset.now w.index none lt) in
    search rules
