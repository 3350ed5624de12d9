use Rattle.std.proofs.Common.{◌≡◌, nat_lt, length, map, refl, sym, ap, ◌∙◌, slice_get}
use Rattle.std.specs.Map.{keys_of, values_of}
use Rattle.indexmap.specs.IndexMap.{set_value_at}
use Rattle.cfg_read.specs.declared.yacc.ast.Rule.{Rule}
use Rattle.cfg_read.specs.AstModels.{named_rule}
use Rattle.cfg_read.specs.Judging.{count_up}
use Rattle.cfg_read.proofs.RuleLemmas.{place_in, index_is, numbered, unnumbered, names_stay, keys_stay}
use Rattle.cfg_read.proofs.RuleNumbers.{more_of_one}
use Rattle.cfg_read.proofs.yacc.ast.build.push_numbers.Goals as goal

pub returns-in_err-push_range-in-Some-clause-names : goal.returns-in_err-push_range-in-Some-clause-names
returns-in_err-push_range-in-Some-clause-names c =
    let es = c.args.rules.now.entries in
    let old = c.index_mut.result.now in
    let new : Rule = record { name = old.name; pidxs = c.push_range.new.numbers; actiont = old.actiont } in
    names_stay es c.in-Some.index old new c.index_mut.ensures.value refl ∙ c.requires.names ∙ sym (keys_stay es c.in-Some.index new)

pub returns-in_ok-push_range-in-Some-clause-rules : goal.returns-in_ok-push_range-in-Some-clause-rules
returns-in_ok-push_range-in-Some-clause-rules c =
    let es = c.args.rules.now.entries in
    let q = c.args.name.now in
    let i = c.in-Some.index in
    let old = c.index_mut.result.now in
    let new : Rule = record { name = old.name; pidxs = c.push_range.new.numbers; actiont = old.actiont } in
    let place : place_in q es ≡ i = index_is (nat_lt (place_in q es) (length (keys_of es))) (place_in q es) i (sym c.in-Some.ensures.index) in
    ap (λ n. map named_rule (set_value_at es n new)) (sym place)
    ∙ numbered q (count_up c.args.start c.args.count) old new es c.in-Some.ensures.unique (ap (slice_get (values_of es)) place ∙ c.index_mut.ensures.value) (refl, c.in_ok-push_range-in-Some.ensures, refl)
    ∙ more_of_one q c.args.start c.args.count (map named_rule es)

pub returns-in_ok-push_range-in-Some-clause-names : goal.returns-in_ok-push_range-in-Some-clause-names
returns-in_ok-push_range-in-Some-clause-names c =
    let es = c.args.rules.now.entries in
    let old = c.index_mut.result.now in
    let new : Rule = record { name = old.name; pidxs = c.push_range.new.numbers; actiont = old.actiont } in
    names_stay es c.in-Some.index old new c.index_mut.ensures.value refl ∙ c.requires.names ∙ sym (keys_stay es c.in-Some.index new)

pub returns-in-None-clause-rules : goal.returns-in-None-clause-rules
returns-in-None-clause-rules c =
    let es = c.args.rules.now.entries in
    let q = c.args.name.now in
    unnumbered q (count_up c.args.start c.args.count) es (sym c.in-None.ensures.found)
    ∙ more_of_one q c.args.start c.args.count (map named_rule es)
