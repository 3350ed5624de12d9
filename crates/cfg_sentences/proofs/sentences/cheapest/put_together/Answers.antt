use Rattle.std.proofs.Common.{◌≡◌, ℕ, ◌+◌, ◌-◌, ◌↔◌, length, drop, subst, arith}
use Rattle.std.specs.Prelude.{Contains}
use Rattle.cfg_theory.specs.CostTables.{Concatenates}
use Rattle.cfg_numbered.specs.Symbols.{sym_of, syms_of}
use Rattle.cfg_sentences.specs.TokenLists.{lists_of}
use Rattle.cfg_sentences.specs.CheapestTable.{lists_in}
use Rattle.cfg_sets.proofs.Backwards.{rest_next}
use Rattle.cfg_sentences.proofs.CheapestSteps.{has_at, next_lists}
use Rattle.cfg_sentences.proofs.sentences.cheapest.put_together.Goals as goal

pub put_symbol-requires : goal.put_symbol-requires
put_symbol-requires g c =
    let xs = c.args.symbols.now in
    let lt = c.back-test.true in
    let x = c.index-symbols-symbols.result in
    has_at c.args.table.now (sym_of g.S.IndexStorage.number) xs (length xs - 1 - c.back.index) x x c.requires (omega (arith, lt)) c.index-symbols-symbols.is

pub back-preserved : goal.back-preserved
back-preserved g c =
    let number = g.S.IndexStorage.number in
    let view = sym_of number in
    let xs = c.args.symbols.now in
    let lt = c.back-test.true in
    let index = c.back.index in
    let at = length xs - 1 - index in
    let e : at + 1 + index ≡ length xs = omega (arith, lt) in
    let x = c.index-symbols-symbols.result in
    next_lists number c.args.table.now (view x) (drop (length xs - index) (syms_of number xs)) (drop (length xs - (index + 1)) (syms_of number xs)) c.as_slice.result.now c.back.out.items c.in_ok-out.out.items c.as_slice.ensures.value c.in_ok-out.ensures c.back.invariant (rest_next view xs index at x e c.index-symbols-symbols.is)

pub returns : goal.returns
returns g c w =
    let number = g.S.IndexStorage.number in
    let xs = c.args.symbols.now in
    let end = c.back-test.false in
    let none_left : length xs - c.back.index ≡ 0 = omega (arith, end) in
    subst (λ (k : ℕ). Contains (lists_of number c.back.out.items) w ↔ Concatenates (lists_in c.args.table.now) (drop k (syms_of number xs)) w) none_left (c.back.invariant w)
