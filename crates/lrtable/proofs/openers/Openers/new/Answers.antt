use Rattle.std.proofs.Common.{List, [], ◌∷◌, length, map, ap, ◌∙◌, subst, arith, length-append}
use Rattle.std.proofs.lemmas.List.{length-map, map_push}
use Rattle.std.specs.declared.alloc.Global.{Global}
use Rattle.std.specs.declared.vec.Vec.{Vec}
use Rattle.cfg_numbered.specs.Value.{productions_of}
use Rattle.cfg_numbered.proofs.RuleLists.{listed, alone}
use Rattle.lrtable.specs.Closes.{AreFrontsOf}
use Rattle.lrtable.specs.Fronts.{front_of}
use Rattle.lrtable.specs.Opening.{Front}
use Rattle.lrtable.specs.declared.openers.Opener.{Opener}
use Rattle.lrtable.proofs.Fronts.{each_more, fronts_all}
use Rattle.lrtable.proofs.openers.Openers.new.Goals as goal

views : List (Vec Opener Global) → List (List Front)
views l = map (λ (v : Vec Opener Global). map front_of v.items) l

pub rules-preserved : goal.rules-preserved
unfolding views
rules-preserved g c =
    let number = g.S.IndexStorage.number in
    let G = c.args.grm.now.grammar in
    let v = c.in_ok-openers_of.field-0 in
    let pushed = c.in_ok-push.ensures.items in
    let n = length-append c.rules.rules.items (v ∷ []) in
    let e = ap length pushed in
    let count = c.rules.invariant.count in
    let m = length-map c.rules.rules.items (λ (w : Vec Opener Global). map front_of w.items) in
    let here = subst (λ k. AreFrontsOf G (productions_of G k) (map front_of v.items)) c.rule_at-ridx.ensures c.in_ok-openers_of.ensures in
    record {
      count = omega (arith, n, e, count);
      each = each_more G (views c.rules.rules.items) (views c.push.new.self.items) c.rules.number (map front_of v.items) (omega (arith, m, count)) (ap views pushed ∙ map_push (λ (w : Vec Opener Global). map front_of w.items) c.rules.rules.items v) c.rules.invariant.each here;
    }

pub returns : goal.returns
returns g c =
    let G = c.args.grm.now.grammar in
    let m = length-map c.rules.rules.items (λ (w : Vec Opener Global). map front_of w.items) in
    let count = c.rules.invariant.count in
    let done = c.rules-test.false in
    let auto = c.rules.auto.number-end in
    let end = c.to_usize-count.ensures.value ∙ c.rules_len.ensures in
    fronts_all G _ c.start_prod.ensures.well_formed (listed G) (alone G) (omega (arith, m, count, done, auto, end)) (λ A lt. c.rules.invariant.each A (omega (arith, lt, done, end)))

pub invariant_of-result : goal.invariant_of-result
invariant_of-result g c = λ A lt.
    let n = length-map c.new.result.items (λ (v : Vec Opener Global). map front_of v.items) in
    let e = ap length c.new.ensures.items in
    absurd (omega (arith, lt, n, e))
