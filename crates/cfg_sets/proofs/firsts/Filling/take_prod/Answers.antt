use Rattle.std.proofs.Common.{◌≡◌, ◌<◌, ℕ, [], true, inl, inr, length, get_or, refl, sym, ap, ◌∙◌, subst, arith, rules}
use Rattle.std.specs.Prelude.{IsTrue}
use Rattle.std.specs.List.{Contains}
use Rattle.std.proofs.lemmas.List.{length-set}
use Rattle.cfg_theory.specs.Grammar.{IsOf, head_of}
use Rattle.cfg_theory.specs.First.{AllOf}
use Rattle.cfg_numbered.specs.Symbols.{syms_of}
use Rattle.cfg_sets.specs.Firsts.{HasEpsilon, FirstsOf, AllWithin, IsClosedAt}
use Rattle.vob.specs.Sets.{is_set}
use Rattle.vob.proofs.Bits.{put_in}
use Rattle.cfg_sets.proofs.FirstSteps.{body_within}
use Rattle.cfg_sets.proofs.FirstFills.{closed_same, closed_here, closed_still, waits_still, still_sound, adds_of, done_closed, done_width}
use Rattle.cfg_sets.proofs.firsts.Filling.take_prod.Goals as goal

pub get_unchecked-requires : goal.get_unchecked-requires
get_unchecked-requires g c = let lt = c.requires.production in let w = c.requires.under_way.width in omega (arith, lt, w)

pub set-requires : goal.set-requires
set-requires g c = let lt = c.requires.production in let w = c.requires.under_way.width in omega (arith, lt, w)

pub returns-then-get_unchecked-clause-here : goal.returns-then-get_unchecked-clause-here
returns-then-get_unchecked-clause-here g c = inl (c.requires.under_way.closed c.args.number (search rules))

pub add_body-requires-clause-within : goal.add_body-requires-clause-within
add_body-requires-clause-within g c =
    let s = c.args.self.now in
    subst (AllWithin s.firsts) (sym c.prod.ensures) (body_within s.grm.now.grammar s.firsts (g.S.IndexStorage.number c.prod_at-pidx.result.0) c.stays_well_formed.ensures c.requires.under_way.sound.sizes)

pub returns-then-not-add_body-clause-here : goal.returns-then-not-add_body-clause-here
returns-then-not-add_body-clause-here g c =
    let s = c.args.self.now in
    let G = s.grm.now.grammar in
    let h = adds_of G c.args.number (g.S.IndexStorage.number c.prod_at-pidx.result.0) (g.S.IndexStorage.number c.prod_to_rule-head.result.0) (syms_of g.S.IndexStorage.number c.prod.result.now) s.firsts c.add_body.new.self c.prod_at-pidx.ensures c.prod_to_rule-head.ensures c.prod.ensures c.add_body.ensures.added in
    inl (closed_same G c.args.number s.firsts c.add_body.new.self h (c.add_body.ensures.steps.still c.if-not-add_body.true))

pub returns-then-not-add_body-clause-under_way : goal.returns-then-not-add_body-clause-under_way
returns-then-not-add_body-clause-under_way g c =
    let s = c.args.self.now in
    let G = s.grm.now.grammar in
    let n = c.args.number in
    let new = c.add_body.new.self in
    let h = adds_of G n (g.S.IndexStorage.number c.prod_at-pidx.result.0) (g.S.IndexStorage.number c.prod_to_rule-head.result.0) (syms_of g.S.IndexStorage.number c.prod.result.now) s.firsts new c.prod_at-pidx.ensures c.prod_to_rule-head.ensures c.prod.ensures c.add_body.ensures.added in
    let was = c.requires.under_way in
    let width = was.width in
    let lt = c.requires.production in
    let still = c.add_body.ensures.steps.still c.if-not-add_body.true in
    record {
      sound = still_sound G n s.firsts new h (record { in_range = c.requires.production; head = refl }) s.row.bits c.add_body.new.row.bits was.sound c.add_body.ensures.width;
      width = ap length c.set.ensures.bits ∙ length-set s.done.bits n true ∙ width;
      closed = λ p is. elim ((put_in s.done.bits n p (omega (arith, lt, width))).0 (subst (λ l. IsTrue (is_set l p)) c.set.ensures.bits is)) [
        | inl done ↦ subst (λ t. IsClosedAt G t p) (sym still) (was.closed p done)
        | inr e ↦ subst (IsClosedAt G new) e (closed_same G n s.firsts new h still)
      ];
      naming = was.naming;
    }

pub take_out-requires : goal.take_out-requires
take_out-requires g c =
    let s = c.args.self.now in
    let G = s.grm.now.grammar in
    let q = g.S.IndexStorage.number c.prod_at-pidx.result.0 in
    let o : IsOf G q (head_of G q) = record { in_range = subst (λ n. n < length G.productions) (sym c.prod_at-pidx.ensures) c.requires.production; head = refl } in
    let names = c.requires.under_way.naming in
    let low : c.to_usize-rule.result < G.rules = subst (λ n. n < G.rules) (sym (c.to_usize-rule.ensures.value ∙ c.prod_to_rule-head.ensures)) (c.stays_well_formed.ensures.heads q (head_of G q) o) in
    let count = names.count in
    let width = ap length c.set.ensures.bits ∙ length-set s.done.bits c.args.number true ∙ c.requires.under_way.width in
    record {
      rule = omega (arith, low, count);
      within = λ p named. (let w = names.within c.to_usize-rule.result p named in omega (arith, w, width));
    }

pub put-requires : goal.put-requires
put-requires g c =
    let G = c.args.self.now.grm.now.grammar in
    let q = g.S.IndexStorage.number c.prod_at-pidx.result.0 in
    let o : IsOf G q (head_of G q) = record { in_range = subst (λ n. n < length G.productions) (sym c.prod_at-pidx.ensures) c.requires.production; head = refl } in
    subst (λ n. c.to_usize-rule.result < n) (sym c.requires.work) (subst (λ n. n < G.rules) (sym (c.to_usize-rule.ensures.value ∙ c.prod_to_rule-head.ensures)) (c.stays_well_formed.ensures.heads q (head_of G q) o))

pub returns-clause-under_way : goal.returns-clause-under_way
returns-clause-under_way g c =
    let s = c.args.self.now in
    let G = s.grm.now.grammar in
    let n = c.args.number in
    let new = c.add_body.new.self in
    let h = adds_of G n (g.S.IndexStorage.number c.prod_at-pidx.result.0) (g.S.IndexStorage.number c.prod_to_rule-head.result.0) (syms_of g.S.IndexStorage.number c.prod.result.now) s.firsts new c.prod_at-pidx.ensures c.prod_to_rule-head.ensures c.prod.ensures c.add_body.ensures.added in
    let was = c.requires.under_way in
    let head : c.to_usize-rule.result ≡ head_of G n = c.to_usize-rule.ensures.value ∙ c.prod_to_rule-head.ensures ∙ ap (head_of G) c.prod_at-pidx.ensures in
    let out = c.take_out.ensures in
    let gone = subst (λ A. (p : ℕ) → Contains (get_or s.naming.now A []) p → IsTrue (is_set c.take_out.new.prods.bits p) → ⊥) head out.gone in
    record {
      sound = still_sound G n s.firsts new h (record { in_range = c.requires.production; head = refl }) s.row.bits c.add_body.new.row.bits was.sound c.add_body.ensures.width;
      width = done_width G n s.firsts new h s.naming.now was.naming s.done.bits c.set.new.self.bits c.take_out.new.prods.bits was.width c.requires.production c.set.ensures.bits was.closed out.width out.fewer gone;
      closed = done_closed G n s.firsts new h s.naming.now was.naming s.done.bits c.set.new.self.bits c.take_out.new.prods.bits was.width c.requires.production c.set.ensures.bits was.closed out.width out.fewer gone;
      naming = was.naming;
    }

pub returns-clause-kept : goal.returns-clause-kept
returns-clause-kept g c = λ p was.
    let G = c.args.self.now.grm.now.grammar in
    let old = c.args.self.now.firsts in
    let new = c.add_body.new.self in
    let A = g.S.IndexStorage.number c.prod_to_rule-head.result.0 in
    let a = syms_of g.S.IndexStorage.number c.prod.result.now in
    let waits : Contains c.put.new.self.list A = subst (λ n. Contains c.put.new.self.list n) c.to_usize-rule.ensures.value c.in_ok-put.ensures.waits in
    elim was [
      | inl closed ↦ closed_still G A (FirstsOf old a) (AllOf (HasEpsilon old) a) old new c.add_body.ensures.added c.put.new.self.list p waits closed
      | inr named ↦ inr (waits_still G c.args.work.now.list c.put.new.self.list p c.in_ok-put.ensures.kept named)
    ]

pub returns-clause-here : goal.returns-clause-here
returns-clause-here g c =
    let G = c.args.self.now.grm.now.grammar in
    let p = c.args.number in
    let q = g.S.IndexStorage.number c.prod_at-pidx.result.0 in
    let A = g.S.IndexStorage.number c.prod_to_rule-head.result.0 in
    let h = adds_of G p q A (syms_of g.S.IndexStorage.number c.prod.result.now) c.args.self.now.firsts c.add_body.new.self c.prod_at-pidx.ensures c.prod_to_rule-head.ensures c.prod.ensures c.add_body.ensures.added in
    let waits : Contains c.put.new.self.list (head_of G p) = subst (λ n. Contains c.put.new.self.list n) (c.to_usize-rule.ensures.value ∙ c.prod_to_rule-head.ensures ∙ ap (head_of G) c.prod_at-pidx.ensures) c.in_ok-put.ensures.waits in
    closed_here G p c.args.self.now.firsts c.add_body.new.self h c.put.new.self.list waits
