use Rattle.std.proofs.Common.{◌≡◌, ℕ, true, length, replicate, sym, ap, ◌∙◌, subst, arith}
use Rattle.std.proofs.lemmas.List.{length-replicate}
use Rattle.cfg_theory.specs.Greatest.{IsBoundedBy, AreUnbounded}
use Rattle.cfg_sentences.specs.CostTable.{cost_of}
use Rattle.vob.specs.Sets.{is_set}
use Rattle.cfg_sentences.specs.Greatest.{AreOut, held}
use Rattle.cfg_sentences.proofs.NarrowSteps.{all_bounded, length_meet, fewer_held, unchanged, met_bounded, all_open}
use Rattle.cfg_sentences.proofs.SettleSteps.{all_out, met_out}
use Rattle.cfg_sentences.proofs.sentences.unbounded.unbounded_rules.Goals as goal

pub rounds-init : goal.rounds-init
rounds-init g c =
    let G = c.args.costly.now.grammar in
    let e = c.to_usize-rules.ensures.value ∙ c.rules_len.ensures in
    record {
      width = ap length c.in_ok-kept.ensures.bits ∙ length-replicate c.to_usize-rules.result true ∙ e;
      bounded = all_bounded G (cost_of c.args.costly.now.costs) c.stays_well_formed.ensures c.in_ok-kept.kept.bits (c.in_ok-kept.ensures.bits ∙ ap (λ n. replicate n true) e);
      out = all_out G (cost_of c.args.costly.now.costs) c.args.costly.now.table c.stays_well_formed.ensures c.in_ok-kept.kept.bits (c.in_ok-kept.ensures.bits ∙ ap (λ n. replicate n true) e);
    }

pub rounds-preserved : goal.rounds-preserved
rounds-preserved g c =
    let G = c.args.costly.now.grammar in
    let f = cost_of c.args.costly.now.costs in
    let old = c.settle.new.set.bits in
    let new = c.in_ok-new.new.bits in
    let len : length old ≡ length new = c.in_ok-settle.ensures.width ∙ sym c.in_ok-new.ensures.width in
    record {
      width = ap length c.and.ensures.bits ∙ length_meet old new len ∙ c.in_ok-settle.ensures.width;
      bounded = subst (λ l. (n : ℕ) × IsBoundedBy G f (is_set l) n) (sym c.and.ensures.bits) (met_bounded G f c.args.costly.now.table c.stays_kept.ensures.table c.unbounded_rules_gain.ensures old new len c.in_ok-new.ensures.closed c.in_ok-settle.ensures.bounded);
      out = subst (AreOut G f c.args.costly.now.table) (sym c.and.ensures.bits) (met_out G f c.args.costly.now.table old new len c.in_ok-new.ensures.closed c.in_ok-settle.ensures.out);
    }

pub rounds-smaller : goal.rounds-smaller
rounds-smaller g c =
    let old = c.settle.new.set.bits in
    let new = c.in_ok-new.new.bits in
    let len : length old ≡ length new = c.in_ok-settle.ensures.width ∙ sym c.in_ok-new.ensures.width in
    let lt = fewer_held old new c.and.result len c.and.ensures.bits c.and.ensures.changed c.if-not-and.false in
    let e = ap held c.and.ensures.bits in
    let le = c.in_ok-settle.ensures.held in
    omega (arith, lt, e, le)

pub returns-then-not-and-clause-unbounded : goal.returns-then-not-and-clause-unbounded
returns-then-not-and-clause-unbounded g c =
    let G = c.args.costly.now.grammar in
    let f = cost_of c.args.costly.now.costs in
    let old = c.settle.new.set.bits in
    let new = c.in_ok-new.new.bits in
    let len : length old ≡ length new = c.in_ok-settle.ensures.width ∙ sym c.in_ok-new.ensures.width in
    let same = unchanged old new c.and.result len c.and.ensures.bits c.and.ensures.changed c.if-not-and.true in
    subst (λ l. AreUnbounded G f (is_set l)) (sym (c.and.ensures.bits ∙ same))
    (all_open G f c.args.costly.now.table c.stays_kept.ensures.table c.unbounded_rules_gain.ensures old new len c.in_ok-new.ensures.sound same c.in_ok-settle.ensures.bounded)
