use Rattle.std.proofs.Common.{◌≡◌, ◌≤◌, List, length, Some, slice_get, ap, subst, arith}
use Rattle.std.proofs.lemmas.List.{length-map}
use Rattle.cfg_theory.specs.Grammar.{Sym, body_of}
use Rattle.cfg_numbered.specs.Symbols.{sym_of}
use Rattle.cfg_sets.proofs.FollowSteps.{get_some}
use Rattle.cfg_sets.proofs.WorkSteps.{has_lists}
use Rattle.cfg_sets.proofs.Searches.{names_unfound, found_more, found_all}
use Rattle.cfg_sets.specs.Searching.{TellsHeld}
use Rattle.cfg_sets.proofs.productive.held_from.Goals as goal

pub is_held-requires : goal.is_held-requires
is_held-requires g c =
    let number = g.S.IndexStorage.number in
    let G = c.args.grm.now.grammar in
    let p = number c.args.pidx.0 in
    let x = c.index-symbols-index.result in
    let at : slice_get (body_of G p) c.symbols.index ≡ Some (sym_of number x) = subst (λ (l : List Sym). slice_get l c.symbols.index ≡ Some (sym_of number x)) c.prod-symbols.ensures (get_some (sym_of number) c.prod-symbols.result.now c.symbols.index x x c.symbols-test.true c.index-symbols-index.is) in
    has_lists G p (length c.args.found.now.bits) c.start_prod.ensures.well_formed c.requires.width c.symbols.index (sym_of number x) at

pub symbols-preserved : goal.symbols-preserved
symbols-preserved g c =
    let number = g.S.IndexStorage.number in
    let G = c.args.grm.now.grammar in
    let p = number c.args.pidx.0 in
    let x = c.index-symbols-index.result in
    let at : slice_get (body_of G p) c.symbols.index ≡ Some (sym_of number x) = subst (λ (l : List Sym). slice_get l c.symbols.index ≡ Some (sym_of number x)) c.prod-symbols.ensures (get_some (sym_of number) c.prod-symbols.result.now c.symbols.index x x c.symbols-test.true c.index-symbols-index.is) in
    found_more G c.args.found.now.bits p c.args.start c.symbols.index (sym_of number x) at (subst (TellsHeld c.args.found.now.bits (sym_of number x)) c.if-is_held.false c.is_held.ensures) c.symbols.invariant

pub returns-then-is_held-clause-some : goal.returns-then-is_held-clause-some
returns-then-is_held-clause-some g c =
    let number = g.S.IndexStorage.number in
    let G = c.args.grm.now.grammar in
    let p = number c.args.pidx.0 in
    let x = c.index-symbols-index.result in
    let at : slice_get (body_of G p) c.symbols.index ≡ Some (sym_of number x) = subst (λ (l : List Sym). slice_get l c.symbols.index ≡ Some (sym_of number x)) c.prod-symbols.ensures (get_some (sym_of number) c.prod-symbols.result.now c.symbols.index x x c.symbols-test.true c.index-symbols-index.is) in
    names_unfound G c.args.found.now.bits p c.symbols.index (sym_of number x) at (subst (TellsHeld c.args.found.now.bits (sym_of number x)) c.if-is_held.true c.is_held.ensures)

pub returns-clause-none : goal.returns-clause-none
returns-clause-none g c =
    let number = g.S.IndexStorage.number in
    let G = c.args.grm.now.grammar in
    let p = number c.args.pidx.0 in
    let len = ap length c.prod-symbols.ensures in
    let count = length-map c.prod-symbols.result.now (sym_of number) in
    let end = c.symbols-test.false in
    let le : length (body_of G p) ≤ c.symbols.index = omega (arith, len, count, end) in
    λ _. found_all G c.args.found.now.bits p c.args.start c.symbols.index le c.symbols.invariant
