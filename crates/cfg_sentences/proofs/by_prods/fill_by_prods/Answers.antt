use Rattle.std.proofs.Common.{ℕ, ◌<◌, ◌⊎◌, length, sym, ap, ◌∙◌, subst, arith}
use Rattle.cfg_theory.specs.Grammar.{Grammar}
use Rattle.cfg_sets.specs.WorkLists.{Work, ListsNaming, NamesOne}
use Rattle.cfg_sentences.proofs.ProdSteps.{closed_all}
use Rattle.cfg_sentences.proofs.by_prods.fill_by_prods.Goals as goal

pub start-requires-clause-work : goal.start-requires-clause-work
start-requires-clause-work g c = ap (λ (w : Work). w.rules) c.in_ok-work.ensures ∙ c.len.ensures ∙ c.requires.naming.count

pub fill-requires-clause-work : goal.fill-requires-clause-work
fill-requires-clause-work g c = c.in_ok-start.ensures.work ∙ ap (λ (w : Work). w.rules) c.in_ok-work.ensures ∙ c.len.ensures ∙ c.requires.naming.count ∙ ap (λ (H : Grammar). H.rules) (sym c.in_ok-start.ensures.grammar)

pub fill-requires-clause-sound : goal.fill-requires-clause-sound
fill-requires-clause-sound g c =
    let s = c.args.filling.now in
    let G = g.T.ProdTable.grammar s.table in
    let lists : ListsNaming G (length G.productions) s.naming.now = c.requires.naming in
    (c.in_ok-start.ensures.sound, subst (λ (H : Grammar). ListsNaming H (length H.productions) s.naming.now) (sym c.in_ok-start.ensures.grammar) lists)

pub fill-requires-clause-closed : goal.fill-requires-clause-closed
fill-requires-clause-closed g c =
    let G = g.T.ProdTable.grammar c.args.filling.now.table in
    let C = g.T.ProdTable.is_closed_by in
    let all : (p : ℕ) → p < length G.productions → C c.start.new.table p ⊎ NamesOne G c.start.new.work.list p = c.in_ok-start.ensures.closed in
    subst (λ (H : Grammar). (p : ℕ) → p < length H.productions → C c.start.new.table p ⊎ NamesOne H c.start.new.work.list p) (sym c.in_ok-start.ensures.grammar) all

pub returns-clause-same : goal.returns-clause-same
returns-clause-same g c = g.T.ProdTable.same_trans c.args.filling.now.table c.start.new.table c.fill.new.table.table c.in_ok-start.ensures.same c.in_ok-fill.ensures.same.1

pub returns-clause-closed : goal.returns-clause-closed
returns-clause-closed g c = λ p lt.
    let t = c.fill.new.table.table in
    let same = c.in_ok-fill.ensures.same.0 ∙ c.in_ok-start.ensures.grammar in
    let count = ap (λ (H : Grammar). length H.productions) same in
    closed_all (g.T.ProdTable.grammar t) g.T.ProdTable.is_closed_by t p (c.in_ok-fill.ensures.closed p (omega (arith, lt, count)))

pub returns-clause-takings : goal.returns-clause-takings
returns-clause-takings g c =
    let none = ap (λ (w : Work). length w.list) c.in_ok-work.ensures in
    let room = c.in_ok-start.ensures.room in
    let h = c.fill.ensures.takings in
    omega (arith, none, room, h)

pub returns-in_err-fill-clause-takings : goal.returns-in_err-fill-clause-takings
returns-in_err-fill-clause-takings g c =
    let none = ap (λ (w : Work). length w.list) c.in_ok-work.ensures in
    let room = c.in_ok-start.ensures.room in
    let h = c.fill.ensures.takings in
    omega (arith, none, room, h)
