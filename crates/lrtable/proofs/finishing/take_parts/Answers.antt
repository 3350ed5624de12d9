use Rattle.std.proofs.Common.{◌≡◌, ℕ, ◌<◌, List, [], ◌∷◌, ◌++◌, length, map, sym, ap, ap₂, ◌∙◌, subst, arith, rules}
use Rattle.std.specs.declared.alloc.Global.{Global}
use Rattle.std.specs.declared.vec.Vec.{Vec}
use Rattle.std.proofs.lemmas.List.{map_push}
use Rattle.cfg_theory.specs.Grammar.{Sym}
use Rattle.lr_theory.specs.Itemset.{ItemSet}
use Rattle.lrtable.specs.FinalStates.{edge_pairs_of}
use Rattle.state_table.specs.ItemRows.{Core, IsCoreOf, map_of}
use Rattle.lrtable.specs.States.{StateValue, state_at}
use Rattle.state_table.specs.CoreViews.{core_of_set}
use Rattle.lrtable.specs.StateViews.{EdgeTo, value_of}
use Rattle.state_table.specs.GraphViews.{edges_seen}
use Rattle.lrtable.proofs.FinalStates.{core_counts, core_shared, mapped_state, pairs_seen}
use Rattle.lrtable.proofs.finishing.take_parts.Goals as goal

pub take_state-core-requires : goal.take_state-core-requires
take_state-core-requires g c =
    let n = c.states.invariant.count in
    let len : c.len-number-end.result ≡ length c.args.states.now.items = search rules in
    let test = c.states-test.true in
    omega (arith, n, test, len)

pub from_core-requires : goal.from_core-requires
from_core-requires g c =
    let number = g.S.IndexStorage.number in
    let k = c.states.number in
    let len : c.len-number-end.result ≡ length c.args.states.now.items = search rules in
    let test = c.states-test.true in
    let lt : c.states.number < length c.args.states.now.items = omega (arith, test, len) in
    let core = c.take_state-core.result.core in
    let is : core_of_set number core ≡ (state_at (map (value_of number) c.args.states.now.items) k).core = ap (λ (s : StateValue). s.core) (c.take_state-core.ensures.state ∙ c.states.invariant.left k (omega arith)) in
    core_counts number c.requires.0 core (subst (λ (x : Core). IsCoreOf c.requires.0 x) (sym is) (c.requires.1 k lt))

pub of_shared-requires : goal.of_shared-requires
of_shared-requires g c =
    let number = g.S.IndexStorage.number in
    let k = c.states.number in
    let len : c.len-number-end.result ≡ length c.args.states.now.items = search rules in
    let test = c.states-test.true in
    let lt : c.states.number < length c.args.states.now.items = omega (arith, test, len) in
    let core = c.take_state-core.result.core in
    let is : core_of_set number core ≡ (state_at (map (value_of number) c.args.states.now.items) k).core = ap (λ (s : StateValue). s.core) (c.take_state-core.ensures.state ∙ c.states.invariant.left k (omega arith)) in
    core_shared number c.requires.0 (core_of_set number core) c.in_ok-set.set (subst (λ (x : Core). IsCoreOf c.requires.0 x) (sym is) (c.requires.1 k lt)) c.in_ok-set.ensures.core c.in_ok-set.ensures.within

pub states-preserved : goal.states-preserved
states-preserved g c =
    let number = g.S.IndexStorage.number in
    let k = c.states.number in
    let states = c.args.states.now.items in
    let len : c.len-number-end.result ≡ length c.args.states.now.items = search rules in
    let test = c.states-test.true in
    let lt : c.states.number < length c.args.states.now.items = omega (arith, test, len) in
    let e = c.take_state-core.ensures in
    let v = c.states.invariant in
    let is : value_of number c.take_state-core.result ≡ state_at (map (value_of number) states) k = e.state ∙ v.left k (omega arith) in
    let seen = λ (v : Vec (EdgeTo g.row.S.Denot) Global). edges_seen number v.items in
    record {
      count = e.count ∙ v.count;
      left = λ r le. e.left r (λ q. omega (arith, q, le)) ∙ v.left r (omega (arith, le));
      sets = c.in_ok-push-2.ensures.items ∙ ap₂ (λ (l : List ItemSet) (s : ItemSet). l ++ s ∷ []) v.sets (c.of_shared.ensures ∙ ap map_of (c.in_ok-set.ensures.core ∙ ap (λ (s : StateValue). s.core) is)) ∙
          sym (mapped_state (λ (s : StateValue). map_of s.core) number states k lt);
      lists = ap (map seen) c.in_ok-push.ensures.items ∙ map_push seen c.states.lists.items c.take_state-core.result.edges ∙
          ap₂ (λ (l : List (List (Sym × ℕ))) (es : List (Sym × ℕ)). l ++ es ∷ []) v.lists (pairs_seen number c.take_state-core.result.edges.items ∙ ap edge_pairs_of is) ∙
          sym (mapped_state edge_pairs_of number states k lt);
    }
