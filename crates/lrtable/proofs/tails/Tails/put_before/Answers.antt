use Rattle.std.proofs.Common.{◌≡◌, ℕ, suc, ◌-◌, length, sym, ap, ◌∙◌, subst, arith}
use Rattle.std.specs.Prelude.{◌↔◌, IsTrue}
use Rattle.vob.specs.Sets.{is_set}
use Rattle.cfg_theory.specs.Grammar.{rule, IsNext}
use Rattle.cfg_sets.specs.Firsts.{FirstBefore}
use Rattle.lrtable.specs.Closes.{IsRest}
use Rattle.lrtable.proofs.Exact.{dot_within}
use Rattle.lrtable.proofs.MadeAhead.{one_before, one_more}
use Rattle.lrtable.proofs.tails.Tails.put_before.Goals as goal

pub fill-requires-clause-dot : goal.fill-requires-clause-dot
fill-requires-clause-dot g c =
    let number = g.S.IndexStorage.number in
    dot_within c.args.grm.now.grammar (number c.args.pidx.0) c.args.at (rule (number c.in-Some.ridx.0)) c.in-Some.ensures.next

pub returns-clause-tails : goal.returns-clause-tails
returns-clause-tails g c =
    let number = g.S.IndexStorage.number in
    let G = c.args.grm.now.grammar in
    let s = c.args.self.now.firsts.now in
    let p = number c.args.pidx.0 in
    let A = number c.in-Some.ridx.0 in
    let d = c.args.at - 1 in
    let old = c.fill.new.rest.first.bits in
    let first = c.in_ok-first.first.bits in
    let nullable = c.fill.new.rest.nullable in
    let some = c.if-at-eq0.false in
    let at : suc d ≡ c.args.at = omega (arith, some) in
    let same : first ≡ c.put_before.new.tail.bits = c.in_ok-first.ensures.cases in
    let wide : length first ≡ s.tokens = ap length same ∙ c.put_before.ensures.width in
    let bits : (t : ℕ) → IsTrue (is_set first t) ↔ FirstBefore s (rule A) (λ u. IsTrue (is_set old u)) t = λ t. subst (λ l. IsTrue (is_set l t) ↔ FirstBefore s (rule A) (λ u. IsTrue (is_set old u)) t) (sym same) (c.put_before.ensures.bits t) in
    let here : IsRest G p d first nullable = one_before G s p d A old first nullable c.requires.tails.firsts (subst (λ e. IsNext G p e (rule A)) (sym at) c.in-Some.ensures.next) c.in-Some.ensures.nullable (subst (λ e. IsRest G p e old nullable) (sym at) c.fill.ensures) wide bits in
    record {
      firsts = c.requires.tails.firsts;
      made = one_more G c.args.self.now.made.items c.push.new.self.items _ c.in_ok-push.ensures.items c.requires.tails.made (subst (λ q. IsRest G q d first nullable) (sym c.to_usize-production.ensures.value) here);
    }
