use Rattle.std.proofs.Common.{◌≡◌, ◌≤◌, List, length, Some, slice_get, sym, ap, ◌∙◌, subst, arith}
use Rattle.std.proofs.lemmas.List.{length-map}
use Rattle.cfg_theory.specs.Grammar.{Sym, body_of}
use Rattle.cfg_numbered.specs.Symbols.{sym_of}
use Rattle.cfg_sentences.specs.CostTable.{cost_of}
use Rattle.cfg_sets.proofs.FollowSteps.{get_some}
use Rattle.cfg_sets.proofs.PathSteps.{with_width, has_place}
use Rattle.cfg_sets.proofs.PathFills.{named_next}
use Rattle.cfg_sentences.proofs.WantedSteps.{wants_none, wants_more, all_in}
use Rattle.cfg_sentences.proofs.sentences.needed.want_named.Goals as goal

pub symbols-init : goal.symbols-init
symbols-init g c = record {
  width = c.requires.width;
  wants = wants_none c.args.least.now.grammar (cost_of c.args.least.now.costs) c.args.least.now.table c.args.wanted.now.bits c.args.work.now;
  named = λ d R lt next. absurd (omega (arith, lt));
}

pub reach-requires-clause-place : goal.reach-requires-clause-place
reach-requires-clause-place g c =
    let number = g.S.IndexStorage.number in
    let G = c.args.least.now.grammar in
    let p = number c.args.pidx.0 in
    let xs = c.prod-symbols.result.now in
    let x = c.index-symbols-index.result in
    let at : slice_get (body_of G p) c.symbols.index ≡ Some (sym_of number x) = subst (λ (l : List Sym). slice_get l c.symbols.index ≡ Some (sym_of number x)) c.prod-symbols.ensures (get_some (sym_of number) xs c.symbols.index x x c.symbols-test.true c.index-symbols-index.is) in
    has_place G c.symbols.wanted.bits (sym_of number x) c.symbols.invariant.width (c.stays_well_formed.ensures.symbols p c.symbols.index (sym_of number x) (record { at = at }))

pub reach-requires-clause-work : goal.reach-requires-clause-work
reach-requires-clause-work g c = c.symbols.invariant.wants.rules ∙ c.requires.work ∙ sym c.symbols.invariant.width

pub symbols-preserved : goal.symbols-preserved
symbols-preserved g c =
    let number = g.S.IndexStorage.number in
    let G = c.args.least.now.grammar in
    let p = number c.args.pidx.0 in
    let xs = c.prod-symbols.result.now in
    let x = c.index-symbols-index.result in
    let X = sym_of number x in
    let d = c.symbols.index in
    let old = c.symbols.wanted.bits in
    let new = c.reach.new.reached.bits in
    let inv = c.symbols.invariant in
    let h = c.in_ok-reach.ensures in
    let at : slice_get (body_of G p) d ≡ Some X = subst (λ (l : List Sym). slice_get l d ≡ Some X) c.prod-symbols.ensures (get_some (sym_of number) xs d x x c.symbols-test.true c.index-symbols-index.is) in
    let place = has_place G old X inv.width (c.stays_well_formed.ensures.symbols p d X (record { at = at })) in
    record {
      width = ap length h.bits ∙ with_width old X ∙ inv.width;
      wants = wants_more G (cost_of c.args.least.now.costs) c.args.least.now.table X old new c.symbols.work c.reach.new.work place h c.args.wanted.now.bits c.args.work.now inv.wants;
      named = named_next X old new c.symbols.work c.reach.new.work place h G p d at inv.named;
    }

pub returns-clause-here : goal.returns-clause-here
returns-clause-here g c =
    let number = g.S.IndexStorage.number in
    let G = c.args.least.now.grammar in
    let p = number c.args.pidx.0 in
    let len = ap length c.prod-symbols.ensures in
    let count = length-map c.prod-symbols.result.now (sym_of number) in
    let end = c.symbols-test.false in
    let le : length (body_of G p) ≤ c.symbols.index = omega (arith, len, count, end) in
    all_in G p c.symbols.index c.symbols.wanted.bits le c.symbols.invariant.named
