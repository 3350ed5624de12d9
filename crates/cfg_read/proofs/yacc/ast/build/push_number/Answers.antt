use Rattle.std.proofs.Common.{◌≡◌, [], ◌∷◌, nat_lt, length, map, refl, sym, ap, ◌∙◌}
use Rattle.std.specs.Map.{keys_of, values_of}
use Rattle.indexmap.specs.IndexMap.{set_value_at}
use Rattle.cfg_read.specs.declared.yacc.ast.Rule.{Rule}
use Rattle.std.proofs.Common.{slice_get}
use Rattle.std.proofs.Common.{option_map}
use Rattle.std.specs.String.{string_bytes}
use Rattle.cfg_read.specs.Asts.{RuleAst}
use Rattle.cfg_read.specs.AstModels.{named_rule}
use Rattle.cfg_read.proofs.RuleLemmas.{place_in, index_is, numbered, unnumbered, names_stay, keys_stay}
use Rattle.cfg_read.proofs.ChangeLemmas.{on_err, rules_stay}
use Rattle.cfg_read.proofs.yacc.ast.build.push_number.Goals as goal

pub returns-in_err-push-in-Some-clause-names : goal.returns-in_err-push-in-Some-clause-names
returns-in_err-push-in-Some-clause-names c =
    let es = c.args.rules.now.entries in
    let old = c.index_mut.result.now in
    let new : Rule = record { name = old.name; pidxs = c.push.new.self; actiont = old.actiont } in
    names_stay es c.in-Some.index old new c.index_mut.ensures.value refl ∙ c.requires ∙ sym (keys_stay es c.in-Some.index new)

pub returns-in_ok-push-in-Some-clause-rules : goal.returns-in_ok-push-in-Some-clause-rules
returns-in_ok-push-in-Some-clause-rules c =
    let es = c.args.rules.now.entries in
    let q = c.args.name.now in
    let i = c.in-Some.index in
    let old = c.index_mut.result.now in
    let new : Rule = record { name = old.name; pidxs = c.push.new.self; actiont = old.actiont } in
    let place : place_in q es ≡ i = index_is (nat_lt (place_in q es) (length (keys_of es))) (place_in q es) i (sym c.in-Some.ensures.index) in
    ap (λ n. map named_rule (set_value_at es n new)) (sym place)
    ∙ numbered q (c.args.number ∷ []) old new es c.in-Some.ensures.unique (ap (slice_get (values_of es)) place ∙ c.index_mut.ensures.value) (refl, c.in_ok-push-in-Some.ensures.items, refl)

pub returns-in_ok-push-in-Some-clause-names : goal.returns-in_ok-push-in-Some-clause-names
returns-in_ok-push-in-Some-clause-names c =
    let es = c.args.rules.now.entries in
    let old = c.index_mut.result.now in
    let new : Rule = record { name = old.name; pidxs = c.push.new.self; actiont = old.actiont } in
    names_stay es c.in-Some.index old new c.index_mut.ensures.value refl ∙ c.requires ∙ sym (keys_stay es c.in-Some.index new)

pub returns-in-None-clause-rules : goal.returns-in-None-clause-rules
returns-in-None-clause-rules c = unnumbered c.args.name.now (c.args.number ∷ []) c.args.rules.now.entries (sym c.in-None.ensures.found)

pub returns-in_err-push-in-Some-clause-kept : goal.returns-in_err-push-in-Some-clause-kept
returns-in_err-push-in-Some-clause-kept c =
    let es = c.args.rules.now.entries in
    let old = c.index_mut.result.now in
    let new : Rule = record { name = old.name; pidxs = c.push.new.self; actiont = old.actiont } in
    on_err c.from_residual.result _ (
    rules_stay es c.in-Some.index old new c.index_mut.ensures.value (λ k. ap (λ ps. (let r : RuleAst = record { name = record { text = string_bytes k; span = old.name.1 }; productions = ps; action_type = option_map string_bytes old.actiont } in r)) c.in_err-push-in-Some.ensures.items)
    )
