-- The value of parts that are those of a tree.
use Rattle.std.proofs.Common.{◌≡◌, ℕ, ◌≤◌, Bool, List, [], ◌∷◌, ◌++◌, None, length, map, sym, ap, ◌∙◌, arith}
use Rattle.cfg_numbered.specs.Value.{end_facts}
use Rattle.cfg_numbered.proofs.Named.{count_with_end}
use Rattle.std.proofs.lemmas.List.{length-map}
use Rattle.cfg_read.specs.Asts.{Ast}
use Rattle.cfg_read.specs.WellFormedAst.{IsWellFormedAst}
use Rattle.cfg_numbered.specs.Info.{rule_facts, token_facts, production_of, production_facts, kept_facts, value_of}
use Rattle.cfgrammar.specs.FromAst.{rules_of, file_token_facts, productions_of, production_facts_of, kept_of, grammar_of, value_by, too_many, NamesNoAdded}
use Rattle.std.specs.declared.alloc.Global.{Global}
use Rattle.std.specs.declared.string.String.{String}
use Rattle.cfg_numbered.specs.declared.yacc.info.RuleInfo.{RuleInfo}
use Rattle.cfg_numbered.specs.declared.yacc.info.TokenInfo.{TokenInfo}
use Rattle.cfg_numbered.specs.declared.yacc.info.ProductionInfo.{ProductionInfo}
use Rattle.cfg_numbered.specs.declared.yacc.info.KeptInfo.{KeptInfo}
use Rattle.cfgrammar.proofs.FromAstCounts.{count_productions}
use Rattle.cfgrammar.proofs.FromAstWell.{made_well}

count_same : {A B : Type 0} (f : A → B) (xs : List A) (ys : List B) → map f xs ≡ ys → length xs ≡ length ys
count_same f xs ys e = sym (length-map xs f) ∙ ap length e

pub value_is : {S : Type 0} (number : S → ℕ) (implicit : Bool) (ast : Ast) (rules : List (String Global × RuleInfo)) (tokens : List (String Global × TokenInfo)) (prods : List (ProductionInfo S)) (start : ℕ) (kept : KeptInfo S)
    → map rule_facts rules ≡ rules_of implicit ast → map token_facts tokens ≡ map (file_token_facts ast) ast.tokens
    → map (production_of number) prods ≡ productions_of implicit ast → map production_facts prods ≡ production_facts_of implicit ast
    → start ≡ length ast.productions → kept_facts number kept ≡ kept_of implicit ast
    → value_of number rules tokens prods start kept ≡ value_by implicit ast
value_is number implicit ast rules tokens prods start kept of_rules of_tokens of_prods of_facts of_start of_kept =
    let rule_count = count_same rule_facts rules (rules_of implicit ast) of_rules in
    let all = ap (λ l. l ++ end_facts ∷ []) of_tokens in
    let token_count = sym (count_with_end tokens) ∙ ap length all in
    λ i. record {
      grammar = record { rules = rule_count i; tokens = token_count i; productions = of_prods i; start = of_start i };
      rules = of_rules i;
      tokens = all i;
      productions = of_facts i;
      kept = of_kept i;
    }

pub start_fits : (top : ℕ) (implicit : Bool) (ast : Ast) → IsWellFormedAst ast → NamesNoAdded ast → too_many top (grammar_of implicit ast) ≡ None → length ast.productions ≤ top
start_fits top implicit ast sound free fits =
    let well = made_well top implicit ast sound free fits in
    let count = count_productions implicit ast in
    let most = well.fits.productions in
    omega (arith, count, most)
