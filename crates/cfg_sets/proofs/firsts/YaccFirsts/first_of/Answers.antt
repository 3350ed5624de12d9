use Rattle.std.proofs.Common.{◌≡◌, ℕ, ◌↔◌, true, false, take, Some, slice_get, sym, ◌∙◌, refl, subst, arith}
use Rattle.std.specs.Prelude.{IsTrue}
use Rattle.std.proofs.lemmas.List.{length-map}
use Rattle.cfg_theory.specs.First.{AllOf}
use Rattle.cfg_numbered.specs.Symbols.{sym_of, syms_of}
use Rattle.vob.specs.Sets.{is_set}
use Rattle.cfg_sets.specs.Firsts.{HasEpsilon, FirstsOf}
use Rattle.cfg_sets.proofs.FirstSteps.{all_at}
use Rattle.cfg_sets.proofs.FollowSteps.{get_some}
use Rattle.cfg_sets.proofs.FirstFills.{front_more, front_all, front_first, front_null, take_whole}
use Rattle.cfg_sets.proofs.firsts.YaccFirsts.first_of.Goals as goal

pub put_first-requires-clause-within : goal.put_first-requires-clause-within
put_first-requires-clause-within g c =
    let x = c.index-symbols-index.result in
    all_at c.args.self.now (sym_of g.S.IndexStorage.number) c.args.symbols.now c.prefix.index x x c.requires.within c.prefix-test.true c.index-symbols-index.is

pub is_nullable-requires : goal.is_nullable-requires
is_nullable-requires g c =
    let x = c.index-symbols-index.result in
    all_at c.args.self.now (sym_of g.S.IndexStorage.number) c.args.symbols.now c.prefix.index x x c.requires.within c.prefix-test.true c.index-symbols-index.is

pub prefix-preserved : goal.prefix-preserved
prefix-preserved g c =
    let number = g.S.IndexStorage.number in
    let x = c.index-symbols-index.result in
    let a = syms_of number c.args.symbols.now in
    let i = c.prefix.index in
    let inv = c.prefix.invariant in
    let at : slice_get a i ≡ Some (sym_of number x) = get_some (sym_of number) c.args.symbols.now i x x c.prefix-test.true c.index-symbols-index.is in
    record {
      width = c.put_first.ensures.width;
      all = front_all c.args.self.now a i (sym_of number x) at inv.all (c.is_nullable.ensures.0 c.if-not-is_nullable.false);
      first = λ t. front_more c.args.self.now a i (sym_of number x) at inv.all (λ u. IsTrue (is_set c.prefix.begins.bits u)) inv.first (λ u. IsTrue (is_set c.put_first.new.begins.bits u)) c.put_first.ensures.bits t;
    }

pub returns-then-not-is_nullable-clause-nullable : goal.returns-then-not-is_nullable-clause-nullable
returns-then-not-is_nullable-clause-nullable g c =
    let number = g.S.IndexStorage.number in
    let x = c.index-symbols-index.result in
    let a = syms_of number c.args.symbols.now in
    let i = c.prefix.index in
    let at : slice_get a i ≡ Some (sym_of number x) = get_some (sym_of number) c.args.symbols.now i x x c.prefix-test.true c.index-symbols-index.is in
    let never : true ≡ false → ⊥ = λ e. cc in
    (λ e. absurd (never (sym e)), λ all. absurd (never (sym (c.is_nullable.ensures.1 (front_null c.args.self.now a i (sym_of number x) at c.prefix.invariant.all all)) ∙ c.if-not-is_nullable.true)))

pub returns-then-not-is_nullable-clause-first : goal.returns-then-not-is_nullable-clause-first
returns-then-not-is_nullable-clause-first g c = λ t.
    let number = g.S.IndexStorage.number in
    let x = c.index-symbols-index.result in
    let a = syms_of number c.args.symbols.now in
    let i = c.prefix.index in
    let inv = c.prefix.invariant in
    let at : slice_get a i ≡ Some (sym_of number x) = get_some (sym_of number) c.args.symbols.now i x x c.prefix-test.true c.index-symbols-index.is in
    let never : true ≡ false → ⊥ = λ e. cc in
    front_first c.args.self.now a i (sym_of number x) at inv.all (λ n. never (sym (c.is_nullable.ensures.1 n) ∙ c.if-not-is_nullable.true)) t
    (front_more c.args.self.now a i (sym_of number x) at inv.all (λ u. IsTrue (is_set c.prefix.begins.bits u)) inv.first (λ u. IsTrue (is_set c.put_first.new.begins.bits u)) c.put_first.ensures.bits t)

pub returns-clause-nullable : goal.returns-clause-nullable
returns-clause-nullable g c =
    let a = syms_of g.S.IndexStorage.number c.args.symbols.now in
    let end = c.prefix-test.false in
    let count = length-map c.args.symbols.now (sym_of g.S.IndexStorage.number) in
    let e : take c.prefix.index a ≡ a = take_whole a c.prefix.index (omega (arith, end, count)) in
    (λ _. subst (AllOf (HasEpsilon c.args.self.now)) e c.prefix.invariant.all, λ _. refl)

pub returns-clause-first : goal.returns-clause-first
returns-clause-first g c = λ t.
    let a = syms_of g.S.IndexStorage.number c.args.symbols.now in
    let end = c.prefix-test.false in
    let count = length-map c.args.symbols.now (sym_of g.S.IndexStorage.number) in
    let e : take c.prefix.index a ≡ a = take_whole a c.prefix.index (omega (arith, end, count)) in
    subst (λ l. IsTrue (is_set c.prefix.begins.bits t) ↔ FirstsOf c.args.self.now l t) e (c.prefix.invariant.first t)
