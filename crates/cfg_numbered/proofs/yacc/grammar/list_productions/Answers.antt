use Rattle.std.proofs.Common.{◌≡◌, ◌<◌, refl, sym, ap, ◌∙◌, arith}
use Rattle.std.specs.Prelude.{map}
use Rattle.std.proofs.lemmas.List.{length-map}
use Rattle.cfg_numbered.specs.Symbols.{numbers_of}
use Rattle.cfg_numbered.specs.Info.{production_of, with_productions}
use Rattle.cfg_numbered.proofs.Lookups.{is_of}
use Rattle.cfg_numbered.proofs.RuleLists.{below_none, put_last, numbers_push, all_below}
use Rattle.cfg_numbered.proofs.yacc.grammar.list_productions.Goals as goal

pub index_mut-list-requires : goal.index_mut-list-requires
index_mut-list-requires g c =
    let number = g.S.IndexStorage.number in
    let G = with_productions c.args.rules (map (production_of number) c.args.prods.now) in
    let o = is_of (production_of number) G c.args.prods.now refl c.prods.number c.index-prods-number.result c.index-prods-number.result c.prods-test.true c.index-prods-number.is in
    let lt : number c.index-prods-number.result.rule.0 < c.args.rules = c.requires.heads c.prods.number (number c.index-prods-number.result.rule.0) o in
    let e = c.to_usize-rule.ensures.value in
    let count = c.prods.invariant.count in
    let len = length-map c.prods.lists.items (λ x. numbers_of number x.items) in
    let rule = ap (λ z. number z.rule.0) c.index-prods-number.is in
    let ok = c.prods.lists.ok.0 in
    omega (arith, lt, e, rule, count, len, ok)

pub prods-init : goal.prods-init
prods-init g c = below_none (with_productions c.args.rules (map (production_of g.S.IndexStorage.number) c.args.prods.now)) _ (c.in_ok-lists.ensures)

pub prods-preserved : goal.prods-preserved
prods-preserved g c =
    let number = g.S.IndexStorage.number in
    let G = with_productions c.args.rules (map (production_of number) c.args.prods.now) in
    let x = c.index-prods-number.result in
    let r = c.to_usize-rule.result in
    let o = is_of (production_of number) G c.args.prods.now refl c.prods.number x x c.prods-test.true c.index-prods-number.is in
    let rule : r ≡ number x.rule.0 = c.to_usize-rule.ensures.value ∙ sym (ap (λ z. number z.rule.0) c.index-prods-number.is) in
    let lt : number x.rule.0 < c.args.rules = c.requires.heads c.prods.number (number x.rule.0) o in
    let in_rules : r < c.args.rules = omega (arith, lt, rule) in
    put_last G c.prods.number r c.prods.lists.items c.index_mut-list.result.now c.push.new.self _ c.prods.invariant in_rules (o.head ∙ sym rule) c.index_mut-list.ensures.value
    (ap (numbers_of number) c.in_ok-push.ensures.items ∙ numbers_push number c.index_mut-list.result.now.items _ c.prods.number c.index_of.ensures)

pub returns : goal.returns
returns g c = all_below (production_of g.S.IndexStorage.number) c.args.rules c.prods.number c.args.prods.now _ c.prods-test.false c.prods.auto.number-end c.prods.invariant
