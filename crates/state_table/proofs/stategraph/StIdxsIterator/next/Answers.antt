use Rattle.std.proofs.Common.{◌≡◌, ◌<◌, ◌+◌, ◌-◌, ◌∷◌, length, sym, ap, ◌∙◌, arith, rules}
use Rattle.std.specs.List.{range_with_len}
use Rattle.cfg_numbered.proofs.Ranges.{range_first}
use Rattle.state_table.proofs.stategraph.StIdxsIterator.next.Goals as goal

pub returns-clause-steps : goal.returns-clause-steps
returns-clause-steps g c =
    let w = c.self.inside in
    let le = c.self.invariant.0 in
    let ne = c.if-self.false in
    let lt : w.next < w.end = omega (arith, le, ne) in
    let is : g.S.IndexStorage.number c.unwrap.result ≡ w.next = search rules in
    sym c.self.view_is ∙ range_first w.next w.end lt ∙ ap (λ n. n ∷ range_with_len (w.next + 1) (w.end - (w.next + 1))) (sym is)

pub returns-clause-goes : goal.returns-clause-goes
returns-clause-goes g c =
    let w = c.self.inside in
    let le = c.self.invariant.0 in
    let ne = c.if-self.false in
    let lt : w.next < w.end = omega (arith, le, ne) in
    let e = ap length (sym c.self.view_is ∙ range_first w.next w.end lt) in
    search rules
