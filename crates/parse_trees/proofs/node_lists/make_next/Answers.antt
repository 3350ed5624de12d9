use Rattle.std.proofs.Common.{arith, ap, ◌∙◌, subst, map}
use Rattle.std.specs.Prelude.{IsSome}
use Rattle.std.proofs.lemmas.List.{length-map, length-reverse}
use Rattle.parse_trees.specs.NodeLists.{shapes_on, put_entry, entry_of}
use Rattle.parse_trees.specs.Shapes.{shape_of, nothing}
use Rattle.parse_trees.proofs.NodeLists.{some_grabbed, grab_enough, entry_put, term_put}
use Rattle.parse_trees.proofs.node_lists.make_next.Goals as goal

pub join_last-requires : goal.join_last-requires
join_last-requires g c =
    let number = g.S.IndexStorage.number in
    let made = c.args.made.now.items in
    let some = subst (λ e. IsSome (put_entry (entry_of number e) (shapes_on number made))) c.in-Nonterm.is c.requires in
    let h = some_grabbed (shapes_on number made) (number c.in-Nonterm.ridx.0) c.in-Nonterm.count some in
    omega (arith, grab_enough (shapes_on number made) c.in-Nonterm.count nothing h.0 h.1 h.2, length-map made (shape_of number), length-reverse (map (shape_of number) made))

pub returns-in_ok-push-in-Term : goal.returns-in_ok-push-in-Term
returns-in_ok-push-in-Term g c =
    let number = g.S.IndexStorage.number in
    ap (λ e. put_entry (entry_of number e) (shapes_on number c.args.made.now.items)) c.in-Term.is ∙ term_put number c.args.made.now.items c.push.new.self.items c.in-Term.lexeme c.in_ok-push-in-Term.ensures.items

pub returns-in_ok-join_last-in-Nonterm : goal.returns-in_ok-join_last-in-Nonterm
returns-in_ok-join_last-in-Nonterm g c =
    let number = g.S.IndexStorage.number in
    let ts = shapes_on number c.args.made.now.items in
    let some = subst (λ e. IsSome (put_entry (entry_of number e) ts)) c.in-Nonterm.is c.requires in
    let h = some_grabbed ts (number c.in-Nonterm.ridx.0) c.in-Nonterm.count some in
    ap (λ e. put_entry (entry_of number e) ts) c.in-Nonterm.is ∙ entry_put ts (number c.in-Nonterm.ridx.0) c.in-Nonterm.count h.0 h.1 (shapes_on number c.join_last.new.made.items) h.2 (c.in_ok-join_last-in-Nonterm.ensures h.0 h.1 h.2)
