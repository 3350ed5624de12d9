use Rattle.std.proofs.Common.{◌≡◌, ℕ, List, Some, length, slice_get, sym, ap, ◌∙◌, subst, arith}
use Rattle.cfg_theory.specs.Grammar.{Sym, body_of}
use Rattle.cfg_sets.specs.WorkLists.{AddsNamed, HasList, IsSomeOf, ListsNaming}
use Rattle.cfg_sets.proofs.WorkSteps.{has_lists, lists_none, lists_more}
use Rattle.cfg_sets.proofs.naming.Naming.new.Goals as goal

pub add_all-requires : goal.add_all-requires
add_all-requires g c =
    let G = c.args.grm.now.grammar in
    subst (λ (a : List Sym). (d : ℕ) (X : Sym) → slice_get a d ≡ Some X → HasList (length c.prods.naming) X) (sym c.prod.ensures)
    (has_lists G (g.S.IndexStorage.number c.prod_at.result.0) (length c.prods.naming) c.stays_well_formed.ensures c.prods.invariant.count)

pub prods-init : goal.prods-init
prods-init g c = lists_none c.args.grm.now.grammar c.to_usize.result c.in_ok-naming.naming (c.to_usize.ensures.value ∙ c.rules_len.ensures) c.in_ok-naming.ensures

pub prods-preserved : goal.prods-preserved
prods-preserved g c =
    let G = c.args.grm.now.grammar in
    let n = c.prods.number in
    lists_more G n c.prods.naming c.add_all.new.self c.prods.invariant
    (subst (λ (a : List Sym). AddsNamed n (IsSomeOf a) c.prods.naming c.add_all.new.self) (c.prod.ensures ∙ ap (body_of G) c.prod_at.ensures) c.in_ok-add_all.ensures)

pub returns : goal.returns
returns g c =
    let end = c.to_usize-number-end.ensures.value in
    let count = c.prods_len.ensures in
    let le = c.prods-test.false in
    let ge = c.prods.auto.number-end in
    let n : c.prods.number ≡ length c.args.grm.now.grammar.productions = omega (arith, end, count, le, ge) in
    subst (λ k. ListsNaming c.args.grm.now.grammar k c.prods.naming) n c.prods.invariant
