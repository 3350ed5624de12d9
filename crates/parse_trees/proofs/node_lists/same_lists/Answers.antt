use Rattle.std.proofs.Common.{◌+◌, ◌&&◌, sym, ap, ◌∙◌, arith, map, drop}
use Rattle.std.proofs.lemmas.List.{length-map}
use Rattle.parse_trees.specs.NodeLists.{entry_of, same_entries}
use Rattle.parse_trees.proofs.NodeLists.{other_length, same_step, same_end}
use Rattle.parse_trees.proofs.node_lists.same_lists.Goals as goal

pub returns-then-one-other : goal.returns-then-one-other
returns-then-one-other g c =
    let f = entry_of g.S.IndexStorage.number in
    sym (other_length g.L.PartialEq.eq (map f c.args.one.now) (map f c.args.other.now) (λ e. omega (arith, e, length-map c.args.one.now f, length-map c.args.other.now f)))

pub returns-then-not-same_entry : goal.returns-then-not-same_entry
returns-then-not-same_entry g c =
    let number = g.S.IndexStorage.number in
    let rest = same_entries g.L.PartialEq.eq (map (entry_of number) (drop (c.entries.index + 1) c.args.one.now)) (map (entry_of number) (drop (c.entries.index + 1) c.args.other.now)) in
    sym (c.entries.invariant ∙ same_step number g.L.PartialEq.eq c.args.one.now c.args.other.now c.entries.index c.index-one-index.result c.index-other-index.result (omega arith) (omega arith) c.index-one-index.is c.index-other-index.is ∙
    ap (λ z. z && rest) (sym c.same_entry.ensures ∙ c.if-not-same_entry.true))

pub entries-preserved : goal.entries-preserved
entries-preserved g c =
    let number = g.S.IndexStorage.number in
    let rest = same_entries g.L.PartialEq.eq (map (entry_of number) (drop (c.entries.index + 1) c.args.one.now)) (map (entry_of number) (drop (c.entries.index + 1) c.args.other.now)) in
    c.entries.invariant ∙ same_step number g.L.PartialEq.eq c.args.one.now c.args.other.now c.entries.index c.index-one-index.result c.index-other-index.result (omega arith) (omega arith) c.index-one-index.is c.index-other-index.is ∙
    ap (λ z. z && rest) (sym c.same_entry.ensures ∙ c.if-not-same_entry.false)

pub returns : goal.returns
returns g c = sym (c.entries.invariant ∙ same_end g.S.IndexStorage.number g.L.PartialEq.eq c.args.one.now c.args.other.now c.entries.index (omega arith) (omega arith))
