use Rattle.std.proofs.Common.{ℕ, List, Option, ◌++◌, ap, append-nil, refl, subst, sym, ◌∙◌}
use Rattle.std.specs.Io.KnownBytes.{Appends}
use Rattle.std.specs.Prelude.{None, Some}
use Rattle.parse_trees.specs.Lex.{span_by}
use Rattle.text_parses.specs.OutlineTexts.{symbol_head, symbols_sexp}
use Rattle.text_parses.specs.Quoted.{closed_from, space_at}
use Rattle.text_parses.proofs.OutlineTexts.{CanShowVisit, all_out, begins, can_show_whole, first_shows, goes_out, none_left, not_done, nothing_out, steps, three_added, whole_sexp}
use Rattle.cfg_theory.specs.Tree.{yield}
use Rattle.parse_trees.specs.Outlines.{symbols, visit_of}
use Rattle.text_parses.specs.Parses.{itself, lexeme_lex}
use Rattle.text_parses.proofs.OutBut.{none_waits}
use Rattle.text_parses.proofs.outlines.write_outline_sexp.Goals as goal
use Rattle.text_parses.proofs.outlines.write_outline_sexp.Goals.{in-Some+in_ok-push_closing-in-Some+in_ok-push_space-in-Some+in_ok-push_symbol_head-in-Some+in_ok-write_long-in-Some, in-None}

pub nodes-init : goal.nodes-init
nodes-init g c =
    let outline = c.args.outlined.outline.now in
    let walk = c.in_ok-walk.walk in
    let count = c.len-number-end.result in
    let some = c.requires in (
      (symbols 0 0 some.0, begins walk.nodes.now walk.waiting.items walk.seen count some.0 outline some.1 c.len-number-end.ensures (c.in_ok-walk.ensures some.0 some.1)),
      λ t shown. (
        symbols 0 0 t,
        begins walk.nodes.now walk.waiting.items walk.seen count t outline shown.outline c.len-number-end.ensures (c.in_ok-walk.ensures t shown.outline),
        nothing_out (CanShowVisit c.args.outlined.grm.now c.args.outlined.input.now (yield t)) (symbols_sexp c.args.outlined.grm.now c.args.outlined.input.now (yield t) None) (g.W.Sink.known c.args.out.now) c.args.text.now.items (symbols 0 0 t) (can_show_whole c.args.outlined.grm.now c.args.outlined.input.now (yield t) t refl shown.can),
      ),
    )

pub step-requires : goal.step-requires
step-requires g c = (c.nodes.invariant.0.0, c.nodes.invariant.0.1.left)

pub nodes-preserved : goal.nodes-preserved
nodes-preserved g c =
    let walk = c.nodes.walk in
    let later = c.step.new.self in
    let count = c.len-number-end.result in
    let on = c.nodes.invariant.0 in
    elim c.match-branch-3.branch [
      | in-Some+in_ok-push_closing-in-Some+in_ok-push_space-in-Some+in_ok-push_symbol_head-in-Some+in_ok-write_long-in-Some w ↦
          let v = visit_of itself w.in-Some.visit in
          let h = rw w.in-Some.is at c.in_ok-visit.ensures on.0 on.1.left in
          rw (w.text-is, w.out-is, w.last-is) (
            (h.0, steps walk.nodes.now later.nodes.now walk.waiting.items later.waiting.items walk.seen later.seen count c.nodes._number on.0 h.0 v on.1 h.1 h.2),
            λ t shown.
                let k = c.nodes.invariant.1 t shown in
                let n = rw w.in-Some.is at c.in_ok-visit.ensures k.0 k.1.left in
                let can = CanShowVisit c.args.outlined.grm.now c.args.outlined.input.now (yield t) in
                let shows = first_shows can k.0 n.0 v k.2.can_show n.1 in (
                  n.0,
                  steps walk.nodes.now later.nodes.now walk.waiting.items later.waiting.items walk.seen later.seen count c.nodes._number k.0 n.0 v k.1 n.1 n.2,
                  goes_out can (symbols_sexp c.args.outlined.grm.now c.args.outlined.input.now (yield t) c.nodes.last) (symbols_sexp c.args.outlined.grm.now c.args.outlined.input.now (yield t) (Some v.depth)) (g.W.Sink.known c.args.out.now) (g.W.Sink.known c.nodes.out) (g.W.Sink.known w.write_long.new.out)
                      (c.args.text.now.items ++ symbols_sexp c.args.outlined.grm.now c.args.outlined.input.now (yield t) None (symbols 0 0 t)) c.nodes.text.items w.push_symbol_head.new.text.items w.write_long.new.waiting.items ((closed_from c.nodes.last v.depth ++ space_at v.depth) ++ symbol_head c.args.outlined.grm.now c.args.outlined.input.now (yield t) v.symbol)
                      k.0 n.0 v k.2 n.1 refl (three_added c.nodes.text.items (closed_from c.nodes.last v.depth) (space_at v.depth) (symbol_head c.args.outlined.grm.now c.args.outlined.input.now (yield t) v.symbol) w.push_closing.new.text.items w.push_space.new.text.items w.push_symbol_head.new.text.items w.in_ok-push_closing-in-Some.ensures w.in_ok-push_space-in-Some.ensures (w.in_ok-push_symbol_head-in-Some.ensures (yield t) shown.leaves shows)) w.in_ok-write_long-in-Some.ensures.ok,
                ),
          )
      | in-None w ↦
          let h = rw w.in-None.is at c.in_ok-visit.ensures on.0 on.1.left in
          absurd (not_done walk.nodes.now walk.waiting.items walk.seen count c.nodes._number on.0 on.1 h c.nodes-test.true)
    ]

pub returns : goal.returns
returns g c = λ t shown.
    let walk = c.nodes.walk in
    let k = c.nodes.invariant.1 t shown in
    let none = none_left walk.nodes.now walk.waiting.items walk.seen c.len-number-end.result c.nodes._number k.0 k.1 c.nodes-test.false in
    let can = CanShowVisit c.args.outlined.grm.now c.args.outlined.input.now (yield t) in
    let whole = c.args.text.now.items ++ (symbols_sexp c.args.outlined.grm.now c.args.outlined.input.now (yield t) None) (symbols 0 0 t) in
    let text_of = symbols_sexp c.args.outlined.grm.now c.args.outlined.input.now (yield t) c.nodes.last in
    let out = all_out can text_of (g.W.Sink.known c.args.out.now) (g.W.Sink.known c.nodes.out) whole c.nodes.text.items c.push_end.new.text.items k.0 k.2 none c.in_ok-push_end.ensures in
    let written = rw c.as_slice.ensures.value at c.in_ok-write_all.ensures.ok in
    let Gives : List ℕ → Type 0 = λ l. Appends (g.W.Sink.known c.args.out.now) (g.W.Sink.known c.write_all.new.out) (c.args.text.now.items ++ l) in
    subst Gives (whole_sexp c.args.outlined.grm.now c.args.outlined.input.now (yield t) (span_by lexeme_lex) t refl) (none_waits (g.W.Sink.known c.args.out.now) (g.W.Sink.known c.nodes.out) (g.W.Sink.known c.write_all.new.out) whole c.push_end.new.text.items out written)
