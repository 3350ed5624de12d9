use Rattle.std.proofs.Common.{◌≡◌, ◌+◌, ◌≤◌, ℕ, List, [], Some, length, get_or, slice_get, sym, ap, ◌∙◌, subst, arith, Bor}
use Rattle.std.proofs.lemmas.List.{length-map}
use Rattle.cfg_read.specs.NameModels.{names_in}
use Rattle.cfg_read.proofs.WarningLemmas.{has_set}
use Rattle.cfg_read.proofs.ReachedLemmas.{Gathered, at_gives, item_there, gather_step, gather_end}
use Rattle.cfg_read.proofs.yacc.ast.GrammarAST.used_tokens.Goals as goal

pub rules-preserved : goal.rules-preserved
rules-preserved c =
    let ast = c.args.self.now in
    let all = names_in c.args.reached.now in
    let items = c.as_slice-name-items.result.now in
    let i = c.rules.name-index in
    let none : Bor (List ℕ) = record { ref_ptr = (0, 0); now = [] } in
    let q = (get_or items i none).now in
    let there : slice_get all i ≡ Some q = item_there c.args.reached.now.keys items i none c.as_slice-name-items.ensures.keys c.rules-test.true in
    let is = (c.requires q).0 (has_set c.args.reached.now.keys q ∙ at_gives all i q there) in
    subst (λ ns. Gathered ast all ns (i + 1)) (sym c.in_ok-insert_tokens_under.ensures.added) (gather_step ast all (names_in c.rules.names) i q c.in_ok-insert_tokens_under.ensures.unique there is c.rules.invariant)

pub returns : goal.returns
returns c = λ token.
    let keys = c.rules.names.keys in
    let all = c.args.reached.now.keys in
    let same : length (names_in c.args.reached.now) ≡ length all = length-map all (λ (k : Bor (List ℕ)). k.now) in
    let ended : length (names_in c.args.reached.now) ≤ c.rules.name-index = omega (arith, same, ap length c.as_slice-name-items.ensures.keys) in (
      λ h. c.rules.invariant.used token (sym (has_set keys token) ∙ h),
      λ u. has_set keys token ∙ gather_end c.args.self.now (names_in c.args.reached.now) (names_in c.rules.names) c.rules.name-index c.rules.invariant ended (λ q r. sym (has_set all q) ∙ (c.requires q).1 r) token u,
    )
