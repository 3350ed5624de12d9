use Rattle.std.proofs.Common.{◌≡◌, ◌+◌, ◌++◌, map, fold, length, sym, ap, ◌∙◌, arith}
use Rattle.std.specs.List.{flat_map}
use Rattle.std.proofs.lemmas.List.{length-map}
use Rattle.cfg_read.specs.contracts.yacc.ast.GrammarAST.{the_view}
use Rattle.cfg_read.specs.AstModels.{production_of, named_rules}
use Rattle.cfg_read.specs.AstBuild.{with_first, fresh_rule}
use Rattle.cfg_read.specs.Judging.{heads_of, with_numbers_at, both_of, both_heads, words_of_fresh, with_productions_of}
use Rattle.cfg_read.specs.Settling.{named_fresh}
use Rattle.cfg_read.proofs.ChangeLemmas.{prods_put}
use Rattle.cfg_read.proofs.HeadLemmas.{both_as_many}
use Rattle.cfg_read.proofs.RuleNumbers.{at_more}
use Rattle.cfg_read.proofs.yacc.ast.GrammarAST.fill_prods.Goals as goal

pub number_fresh-requires-clause-fits : goal.number_fresh-requires-clause-fits
number_fresh-requires-clause-fits c =
    let fs = named_fresh c.args.fresh.now in
    let count : c.in_ok-number.number ≡ length (heads_of c.args.heads.now) = c.in_ok-number.ensures.count in
    let same : length (heads_of c.args.heads.now) ≡ length c.args.prods.items = c.requires in
    let both : length (flat_map both_heads fs) ≡ length c.in_ok-more.more.items =
    both_as_many fs ∙ sym (ap length c.in_ok-more.ensures) ∙ length-map c.in_ok-more.more.items production_of in
    let few = c.args.prods.small in
    let some = c.in_ok-more.more.small in
    omega (arith, count, same, both, few, some)

pub returns : goal.returns
returns c =
    let fs = named_fresh c.args.fresh.now in
    let ps = map production_of c.args.prods.items in
    let hs = heads_of c.args.heads.now in
    let more = flat_map both_heads fs in
    let n = c.in_ok-number.number in
    let count : n ≡ length hs = c.in_ok-number.ensures.count in
    let from : n ≡ 0 + length hs = omega (arith, count) in
    let prods : map production_of c.push_all.new.made.items ≡ ps ++ flat_map both_of fs = c.in_ok-push_all.ensures ∙ ap (λ l. ps ++ l) c.in_ok-more.ensures in
    let rules : named_rules c.number_fresh.new.rules ≡ map (with_numbers_at 0 (hs ++ more)) (fold with_first (named_rules c.self.inside.rules) (map fresh_rule (words_of_fresh fs))) =
    c.in_ok-number_fresh.ensures.rules
    ∙ ap (map (with_numbers_at n more)) c.in_ok-number.ensures.rules
    ∙ at_more 0 n hs more (named_rules c.insert_fresh_rules.new.rules) from
    ∙ ap (map (with_numbers_at 0 (hs ++ more))) c.in_ok-insert_fresh_rules.ensures.rules in
    prods_put (the_view c.self.inside) prods rules
    ∙ ap (with_productions_of ps hs fs) c.self.view_is
