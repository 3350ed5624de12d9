use Rattle.std.proofs.Common.{◌≡◌, ◌-◌, ◌<◌, suc, ◌∷◌, Some, drop, length, refl, subst, arith}
use Rattle.std.proofs.lemmas.Option.{same_Some}
use Rattle.lrpar.specs.declared.endings.Last.{Last}
use Rattle.state_table.specs.Tables.{automaton_of}
use Rattle.lrpar.specs.Endings.{GoesBelow}
use Rattle.lrpar.proofs.endings.turn.Goals as goal

pub returns-then-last-eq0 : goal.returns-then-last-eq0
returns-then-last-eq0 g c = λ from h.
    let number = g.S.IndexStorage.number in
    let G = c.args.chains.now.grm.now.grammar in
    let v = c.args.chains.now.stable.now in
    c.onto.ensures from (λ x. subst (λ k. GoesBelow G (automaton_of x v) (number c.args.tidx.0) from c.args.count (number c.args.last.pidx.0) (λ rest. drop k (number c.args.lower.0 ∷ rest))) c.if-last-eq0.true (h x))

pub returns : goal.returns
returns g c = λ from h.
    let number = g.S.IndexStorage.number in
    let G = c.args.chains.now.grm.now.grammar in
    let v = c.args.chains.now.stable.now in
    let more : c.args.last.below ≡ suc (c.args.last.below - 1) = omega (arith, c.if-last-eq0.false) in
    record {
      token = refl;
      production = λ y e. subst (λ (z : Last g.row.S.Denot). number z.pidx.0 < length G.productions) (same_Some (record { pidx = c.args.last.pidx; below = c.args.last.below - 1 }) y e) c.requires.production;
      ends = λ x. subst (λ k. GoesBelow G (automaton_of x v) (number c.args.tidx.0) from c.args.count (number c.args.last.pidx.0) (λ rest. drop k (number c.args.lower.0 ∷ rest))) more (h x);
    }
