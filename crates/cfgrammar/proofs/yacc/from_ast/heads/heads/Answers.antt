use Rattle.std.proofs.Common.{◌≡◌, ◌+◌, List, ℕ, Some, length, option_map, slice_get, sym, ap, ◌∙◌, subst, arith}
use Rattle.std.proofs.lemmas.List.{length-map}
use Rattle.cfg_read.specs.Asts.{RuleAst}
use Rattle.cfg_read.specs.AstModels.{named_rule}
use Rattle.cfgrammar.proofs.FromAstHeads.{Noted, noted_next, noted_all, listed_within, rule_list}
use Rattle.cfgrammar.proofs.yacc.from_ast.heads.heads.Goals as goal

pub note_all-requires : goal.note_all-requires
note_all-requires c =
    let k = c.rules.index in
    let at : option_map (λ (r : RuleAst). r.productions) (slice_get c.args.ast.now.rules k) ≡ Some c.deref.result.now =
    ap (λ (rs : List RuleAst). option_map (λ (r : RuleAst). r.productions) (slice_get rs k)) (sym c.rules-in-rules.ensures.rules)
    ∙ rule_list c.rules-in-rules.result.now.entries k c.index.result.now c.index.ensures ∙ ap Some (sym c.deref.ensures.value) in
    listed_within c.args.ast.now c.requires k c.rules.heads.items c.deref.result.now c.rules.invariant at

pub rules-preserved : goal.rules-preserved
rules-preserved c =
    let k = c.rules.index in
    let at : option_map (λ (r : RuleAst). r.productions) (slice_get c.args.ast.now.rules k) ≡ Some c.deref.result.now =
    ap (λ (rs : List RuleAst). option_map (λ (r : RuleAst). r.productions) (slice_get rs k)) (sym c.rules-in-rules.ensures.rules)
    ∙ rule_list c.rules-in-rules.result.now.entries k c.index.result.now c.index.ensures ∙ ap Some (sym c.deref.ensures.value) in
    subst (λ (hs : List ℕ). Noted c.args.ast.now (k + 1) hs) (sym c.note_all.ensures) (noted_next c.args.ast.now c.requires k c.rules.heads.items c.deref.result.now c.rules.invariant at)

pub returns-clause-each : goal.returns-clause-each
returns-clause-each c =
    let k = c.rules.index in
    let es = c.rules-2.result.now.entries in
    let len = c.len-index-end.ensures.len in
    let low = c.rules.auto.index-end in
    let whole = length-map es named_rule in
    let same = ap length c.rules-2.ensures.rules in
    let all : k ≡ length c.args.ast.now.rules = omega (arith, len, low, whole, same) in
    noted_all c.args.ast.now c.requires c.rules.heads.items (subst (λ n. Noted c.args.ast.now n c.rules.heads.items) all c.rules.invariant)
