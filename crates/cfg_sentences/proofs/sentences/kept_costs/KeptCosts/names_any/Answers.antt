use Rattle.std.proofs.Common.{◌≡◌, ◌≤◌, Bool, true, false, List, length, Some, slice_get, sym, ap, ◌∙◌, subst, arith}
use Rattle.std.proofs.lemmas.List.{length-map}
use Rattle.cfg_theory.specs.Grammar.{Sym, body_of}
use Rattle.cfg_numbered.specs.Symbols.{sym_of}
use Rattle.cfg_sets.proofs.FollowSteps.{get_some}
use Rattle.cfg_sets.proofs.PathSteps.{has_place}
use Rattle.cfg_sentences.proofs.NarrowSteps.{none_yet, none_more, none_named, some_named}
use Rattle.cfg_sentences.proofs.sentences.kept_costs.KeptCosts.names_any.Goals as goal

false_true : ◌≡◌ {A = Bool} false true → ⊥
false_true e = cc

pub is_among-requires : goal.is_among-requires
is_among-requires g c =
    let number = g.S.IndexStorage.number in
    let G = c.args.self.now.grammar in
    let p = number c.args.pidx.0 in
    let xs = c.prod-symbols.result.now in
    let x = c.index-symbols-index.result in
    let at : slice_get (body_of G p) c.symbols.index ≡ Some (sym_of number x) = subst (λ (l : List Sym). slice_get l c.symbols.index ≡ Some (sym_of number x)) c.prod-symbols.ensures (get_some (sym_of number) xs c.symbols.index x x c.symbols-test.true c.index-symbols-index.is) in
    has_place G c.args.set.now.bits (sym_of number x) c.requires.width (c.stays_well_formed.ensures.symbols p c.symbols.index (sym_of number x) (record { at = at }))

pub symbols-init : goal.symbols-init
symbols-init g c = none_yet c.args.self.now.grammar (g.S.IndexStorage.number c.args.pidx.0) c.args.set.now.bits

pub symbols-preserved : goal.symbols-preserved
symbols-preserved g c =
    let number = g.S.IndexStorage.number in
    let G = c.args.self.now.grammar in
    let p = number c.args.pidx.0 in
    let xs = c.prod-symbols.result.now in
    let x = c.index-symbols-index.result in
    let at : slice_get (body_of G p) c.symbols.index ≡ Some (sym_of number x) = subst (λ (l : List Sym). slice_get l c.symbols.index ≡ Some (sym_of number x)) c.prod-symbols.ensures (get_some (sym_of number) xs c.symbols.index x x c.symbols-test.true c.index-symbols-index.is) in
    none_more G p c.symbols.index (sym_of number x) c.args.set.now.bits at (λ h. false_true (sym c.if-is_among.false ∙ c.is_among.ensures.1 h)) c.symbols.invariant

pub returns-then-is_among-clause-some : goal.returns-then-is_among-clause-some
returns-then-is_among-clause-some g c =
    let number = g.S.IndexStorage.number in
    let G = c.args.self.now.grammar in
    let p = number c.args.pidx.0 in
    let xs = c.prod-symbols.result.now in
    let x = c.index-symbols-index.result in
    let at : slice_get (body_of G p) c.symbols.index ≡ Some (sym_of number x) = subst (λ (l : List Sym). slice_get l c.symbols.index ≡ Some (sym_of number x)) c.prod-symbols.ensures (get_some (sym_of number) xs c.symbols.index x x c.symbols-test.true c.index-symbols-index.is) in
    λ _. some_named G p c.symbols.index (sym_of number x) c.args.set.now.bits at (c.is_among.ensures.0 c.if-is_among.true)

pub returns-clause-none : goal.returns-clause-none
returns-clause-none g c =
    let number = g.S.IndexStorage.number in
    let G = c.args.self.now.grammar in
    let p = number c.args.pidx.0 in
    let len = ap length c.prod-symbols.ensures in
    let count = length-map c.prod-symbols.result.now (sym_of number) in
    let end = c.symbols-test.false in
    let le : length (body_of G p) ≤ c.symbols.index = omega (arith, len, count, end) in
    λ _. none_named G p c.symbols.index c.args.set.now.bits le c.symbols.invariant
