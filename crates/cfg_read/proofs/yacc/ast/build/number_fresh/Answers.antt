use Rattle.std.proofs.Common.{◌≡◌, ◌+◌, ℕ, suc, List, [], ◌∷◌, map, length, replicate, sym, ap, ◌∙◌, arith}
use Rattle.std.specs.List.{flat_map}
use Rattle.std.specs.String.{string_bytes}
use Rattle.std.specs.declared.alloc.Global.{Global}
use Rattle.std.specs.declared.string.String.{String}
use Rattle.cfg_read.specs.declared.yacc.ast.settle.Fresh.{Fresh}
use Rattle.cfg_read.specs.AstModels.{named_rules}
use Rattle.cfg_read.specs.Judging.{both_heads, with_numbers_at}
use Rattle.cfg_read.specs.Settling.{fresh_entry}
use Rattle.cfg_read.proofs.RuleNumbers.{at_more, at_none}
use Rattle.cfg_read.proofs.yacc.ast.build.number_fresh.Goals as goal

pub fresh-preserved : goal.fresh-preserved
fresh-preserved c =
    let heads : List (String Global × Fresh) → List (List ℕ) = λ es. flat_map both_heads (map fresh_entry es) in
    let q = string_bytes c.in-Some.name.now in
    let n = c.fresh.number in
    let rs = named_rules c.fresh.rules in
    let rest = heads c.next.new.self in
    let steps = c.in-Some.ensures.steps in
    let count : length (heads c.fresh.name-iterator) ≡ suc (suc (length rest)) = ap (λ es. length (heads es)) steps in
    let next : n + 2 ≡ n + length (q ∷ q ∷ []) = omega arith in (
      omega (arith, c.fresh.invariant.0, count),
      ap (map (with_numbers_at (n + 2) rest)) (c.in_ok-push_numbers.ensures.rules ∙ ap (λ t. map (with_numbers_at n (replicate 2 t)) rs) c.as_str.ensures.value)
          ∙ at_more n (n + 2) (q ∷ q ∷ []) rest rs next
          ∙ ap (λ es. map (with_numbers_at n (heads es)) rs) (sym steps)
          ∙ c.fresh.invariant.1,
      c.in_ok-push_numbers.ensures.names,
    )

pub returns-clause-rules : goal.returns-clause-rules
returns-clause-rules c =
    let heads : List (String Global × Fresh) → List (List ℕ) = λ es. flat_map both_heads (map fresh_entry es) in
    let n = c.fresh.number in
    let rs = named_rules c.fresh.rules in
    at_none n rs
    ∙ ap (λ es. map (with_numbers_at n (heads es)) rs) (sym c.in-None.ensures.steps.0)
    ∙ c.fresh.invariant.1
