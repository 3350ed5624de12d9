use Rattle.std.proofs.Common.{◌≡◌, ◌+◌, ◌-◌, ◌<◌, ◌≤◌, ℕ, List, Some, length, option_map, slice_get, sym, ap, ◌∙◌, subst, arith, Bor}
use Rattle.std.specs.Str.{bytes_eq}
use Rattle.std.proofs.lemmas.List.{length-map}
use Rattle.std.proofs.lemmas.Option.{slice_get-map}
use Rattle.cfg_read.specs.NameModels.{names_in}
use Rattle.cfg_read.proofs.WarningLemmas.{distinct_map, has_set}
use Rattle.cfg_read.proofs.ReachedLemmas.{Walked, all_names, walk_start, walk_step, walk_end, walk_bound}
use Rattle.cfg_read.proofs.yacc.ast.GrammarAST.reached_rules.Goals as goal

pub rules-init : goal.rules-init
rules-init c = walk_start c.args.self.now (names_in c.in_ok-names.names) c.in_ok-names.ensures

pub rules-smaller : goal.rules-smaller
rules-smaller c =
    let keys = c.rules.names.keys in
    let bound : length (names_in c.rules.names) ≤ length (all_names c.args.self.now) = walk_bound c.args.self.now (names_in c.rules.names) c.rules.number c.rules.invariant (distinct_map (λ (k : Bor (List ℕ)). k.now) bytes_eq keys c.len.ensures.unique) in
    let same : length (names_in c.rules.names) ≡ length keys = length-map keys (λ (k : Bor (List ℕ)). k.now) in
    let less : length (all_names c.args.self.now) - (c.rules.number + 1) < length (all_names c.args.self.now) - c.rules.number = omega (arith, bound, same) in
    less

pub rules-preserved : goal.rules-preserved
rules-preserved c =
    let ast = c.args.self.now in
    let names = names_in c.rules.names in
    let q = c.index-name.result.now.now in
    let there : slice_get names c.rules.number ≡ Some q = slice_get-map (λ (k : Bor (List ℕ)). k.now) c.rules.names.keys c.rules.number ∙ ap (option_map (λ (k : Bor (List ℕ)). k.now)) c.index-name.ensures in
    subst (λ ns. Walked ast ns (c.rules.number + 1)) (sym c.in_ok-insert_rules_under.ensures.added) (walk_step ast names c.rules.number q c.in_ok-insert_rules_under.ensures.unique there c.rules.invariant)

pub returns : goal.returns
returns c = λ name.
    let keys = c.rules.names.keys in
    let same : length (names_in c.rules.names) ≡ length keys = length-map keys (λ (k : Bor (List ℕ)). k.now) in (
      λ h. c.rules.invariant.reached name (sym (has_set keys name) ∙ h),
      λ r. has_set keys name ∙ walk_end c.args.self.now (names_in c.rules.names) c.rules.number c.rules.invariant (omega (arith, same)) name r,
    )
