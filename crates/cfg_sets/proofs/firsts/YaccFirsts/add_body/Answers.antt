use Rattle.std.proofs.Common.{◌≡◌, false, true, List, take, Some, slice_get, refl, sym, ◌∙◌, subst, arith}
use Rattle.std.proofs.lemmas.List.{length-map}
use Rattle.cfg_theory.specs.Grammar.{Sym}
use Rattle.cfg_theory.specs.First.{AllOf}
use Rattle.cfg_numbered.specs.Symbols.{sym_of, syms_of}
use Rattle.cfg_sets.specs.Firsts.{HasEpsilon, FirstsOf, SymbolFirst, Adds, first_room}
use Rattle.vob.specs.Passes.{Anything}
use Rattle.cfg_sets.proofs.FirstSteps.{all_at}
use Rattle.cfg_sets.proofs.FollowSteps.{get_some}
use Rattle.cfg_sets.proofs.Passed.{step_loose}
use Rattle.cfg_sets.proofs.FirstFills.{within_still, next_adds, next_all, last_adds, adds_none, adds_all, take_whole}
use Rattle.cfg_sets.proofs.firsts.YaccFirsts.add_body.Goals as goal

pub add_symbol-changed-requires-clause-within : goal.add_symbol-changed-requires-clause-within
add_symbol-changed-requires-clause-within g c =
    let number = g.S.IndexStorage.number in
    let x = c.index-symbols-index.result in
    let start = c.args.self.now in
    let a = syms_of number c.args.symbols.now in
    within_still (number c.args.head.0) (FirstsOf start (take c.front.index a)) ⊥ start c.front.self c.front.invariant.adds (sym_of number x)
    (all_at start (sym_of number) c.args.symbols.now c.front.index x x c.requires.within c.front-test.true c.index-symbols-index.is)

pub is_nullable-requires : goal.is_nullable-requires
is_nullable-requires g c =
    let number = g.S.IndexStorage.number in
    let x = c.index-symbols-index.result in
    let start = c.args.self.now in
    let a = syms_of number c.args.symbols.now in
    within_still (number c.args.head.0) (SymbolFirst c.front.self (sym_of number x)) ⊥ c.front.self c.add_symbol-changed.new.self c.add_symbol-changed.ensures.added (sym_of number x)
    (within_still (number c.args.head.0) (FirstsOf start (take c.front.index a)) ⊥ start c.front.self c.front.invariant.adds (sym_of number x)
    (all_at start (sym_of number) c.args.symbols.now c.front.index x x c.requires.within c.front-test.true c.index-symbols-index.is))

pub returns-then-not-is_nullable-clause-added : goal.returns-then-not-is_nullable-clause-added
returns-then-not-is_nullable-clause-added g c =
    let number = g.S.IndexStorage.number in
    let x = c.index-symbols-index.result in
    let a = syms_of number c.args.symbols.now in
    let i = c.front.index in
    let at : slice_get a i ≡ Some (sym_of number x) = get_some (sym_of number) c.args.symbols.now i x x c.front-test.true c.index-symbols-index.is in
    let never : true ≡ false → ⊥ = λ e. cc in
    last_adds (number c.args.head.0) c.args.self.now c.front.self c.add_symbol-changed.new.self a i (sym_of number x) at c.front.invariant.adds c.front.invariant.prefix c.add_symbol-changed.ensures.added
    (λ n. never (sym (c.is_nullable.ensures.1 n) ∙ c.if-not-is_nullable.true))

pub front-init : goal.front-init
front-init g c = record {
  width = c.requires.width;
  prefix = tt;
  adds = adds_none (g.S.IndexStorage.number c.args.head.0) c.args.self.now;
  steps = record { still = λ e. refl; closed = λ e. tt; fewer = λ e. cc };
}

pub front-preserved : goal.front-preserved
front-preserved g c =
    let number = g.S.IndexStorage.number in
    let x = c.index-symbols-index.result in
    let a = syms_of number c.args.symbols.now in
    let i = c.front.index in
    let A = number c.args.head.0 in
    let old = c.front.self in
    let new = c.add_symbol-changed.new.self in
    let start = c.args.self.now in
    let inv = c.front.invariant in
    let at : slice_get a i ≡ Some (sym_of number x) = get_some (sym_of number) c.args.symbols.now i x x c.front-test.true c.index-symbols-index.is in
    record {
      width = c.add_symbol-changed.ensures.width ∙ inv.adds.tokens;
      prefix = next_all A start old new a i (sym_of number x) at inv.adds inv.prefix c.add_symbol-changed.ensures.added (c.is_nullable.ensures.0 c.if-not-is_nullable.false);
      adds = next_adds A start old new a i (sym_of number x) at inv.adds inv.prefix c.add_symbol-changed.ensures.added;
      steps = step_loose first_room Anything start old new c.front.changed c.add_symbol-changed.result inv.steps c.add_symbol-changed.ensures.steps;
    }

pub returns-clause-added : goal.returns-clause-added
returns-clause-added g c =
    let number = g.S.IndexStorage.number in
    let a = syms_of number c.args.symbols.now in
    let i = c.front.index in
    let A = number c.args.head.0 in
    let start = c.args.self.now in
    let inv = c.front.invariant in
    let end = c.front-test.false in
    let count = length-map c.args.symbols.now (sym_of number) in
    let e : take i a ≡ a = take_whole a i (omega (arith, end, count)) in
    let found = c.add_epsilon-found.ensures in
    adds_all A start c.front.self a (subst (λ (l : List Sym). Adds A (FirstsOf start l) ⊥ start c.front.self) e inv.adds) c.add_epsilon-found.new.self (subst (AllOf (HasEpsilon start)) e inv.prefix) found.within found.tokens found.rows found.epsilons
