use Rattle.std.proofs.Common.{◌≡◌, ◌+◌, Some, slice_get, sym, subst, arith}
use Rattle.std.proofs.lemmas.List.{length-map}
use Rattle.cfg_numbered.specs.Symbols.{sym_of, syms_of}
use Rattle.cfg_sets.specs.WorkLists.{HasList, IsRule, IsSomeOf, IsSomeBelow}
use Rattle.cfg_sets.proofs.FollowSteps.{get_some}
use Rattle.cfg_sets.proofs.WorkSteps.{adds_both, some_more, some_all, adds_less}
use Rattle.cfg_sets.proofs.naming.Naming.add_all.Goals as goal

pub add_symbol-requires : goal.add_symbol-requires
add_symbol-requires g c =
    let number = g.S.IndexStorage.number in
    let x = c.index-symbols-index.result in
    let at : slice_get (syms_of number c.args.symbols.now) c.symbols.index ≡ Some (sym_of number x) = get_some (sym_of number) c.args.symbols.now c.symbols.index x x c.symbols-test.true c.index-symbols-index.is in
    subst (λ n. HasList n (sym_of number x)) (sym c.symbols.invariant.count) (c.requires c.symbols.index (sym_of number x) at)

pub symbols-preserved : goal.symbols-preserved
symbols-preserved g c =
    let number = g.S.IndexStorage.number in
    let a = syms_of number c.args.symbols.now in
    let i = c.symbols.index in
    let x = c.index-symbols-index.result in
    let at : slice_get a i ≡ Some (sym_of number x) = get_some (sym_of number) c.args.symbols.now i x x c.symbols-test.true c.index-symbols-index.is in
    adds_both c.args.number (IsSomeBelow a i) (IsRule (sym_of number x)) (IsSomeBelow a (i + 1)) c.args.self.now c.symbols.self c.add_symbol.new.self c.symbols.invariant c.in_ok-add_symbol.ensures (some_more a i (sym_of number x) at)

pub returns : goal.returns
returns g c =
    let number = g.S.IndexStorage.number in
    let a = syms_of number c.args.symbols.now in
    let count = length-map c.args.symbols.now (sym_of number) in
    let end = c.symbols-test.false in
    adds_less c.args.number (IsSomeBelow a c.symbols.index) (IsSomeOf a) c.args.self.now c.symbols.self (some_all a c.symbols.index (omega (arith, count, end))) c.symbols.invariant
