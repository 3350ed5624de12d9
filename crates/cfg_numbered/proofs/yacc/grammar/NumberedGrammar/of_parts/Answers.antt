use Rattle.std.proofs.Common.{suc, ◌<◌, length, ap, ◌∙◌, subst, arith}
use Rattle.std.specs.Prelude.{map}
use Rattle.cfg_numbered.specs.Symbols.{numbers_of}
use Rattle.cfg_numbered.specs.Info.{value_of, production_of, with_productions, ListsProductions}
use Rattle.cfg_numbered.proofs.Lookups.{is_of_any}
use Rattle.cfg_numbered.proofs.RuleLists.{lists_of_any}
use Rattle.cfg_numbered.proofs.yacc.grammar.NumberedGrammar.of_parts.Goals as goal

pub list_productions-requires-clause-heads : goal.list_productions-requires-clause-heads
list_productions-requires-clause-heads g c = λ p A o.
    let number = g.S.IndexStorage.number in
    let G = (value_of number c.args.rules.entries c.args.tokens.entries c.args.prods.items (number c.args.start.0) c.args.kept).grammar in
    let lt : A < length c.args.rules.entries = c.requires.well_formed.heads p A (is_of_any G c.len.result (map (production_of number) c.as_slice.result.now) p A (ap (map (production_of number)) c.as_slice.ensures.value) o) in
    let len = c.len.ensures.len in
    omega (arith, lt, len)

pub invariant_of-result : goal.invariant_of-result
invariant_of-result g c =
    let number = g.S.IndexStorage.number in
    let lists = map (λ l. numbers_of number l.items) c.in_ok-rule_prods.rule_prods.items in
    let made : ListsProductions (with_productions c.len.result (map (production_of number) c.as_slice.result.now)) lists = c.in_ok-rule_prods.ensures in
    let count : ListsProductions (with_productions (length c.args.rules.entries) (map (production_of number) c.as_slice.result.now)) lists = subst (λ n. ListsProductions (with_productions n (map (production_of number) c.as_slice.result.now)) lists) c.len.ensures.len made in
    let all : ListsProductions (with_productions (length c.args.rules.entries) (map (production_of number) c.args.prods.items)) lists = subst (λ l. ListsProductions (with_productions (length c.args.rules.entries) (map (production_of number) l)) lists) c.as_slice.ensures.value count in
    (c.requires, lists_of_any (length c.args.rules.entries) (suc (length c.args.tokens.entries)) (number c.args.start.0) (map (production_of number) c.args.prods.items) lists all)
