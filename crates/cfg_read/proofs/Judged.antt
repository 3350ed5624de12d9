-- A tree put together of its parts is that of the text.
use Rattle.std.proofs.Common.{◌≡◌, ℕ, suc, ◌+◌, ◌==◌, Bool, true, false, not, List, [], ◌∷◌, ◌++◌, map, fold, length, refl, sym, ap, ◌∙◌, arith}
use Rattle.std.specs.List.{flat_map}
use Rattle.std.proofs.lemmas.Bool.Decides.{nat_tests}
use Rattle.std.proofs.lemmas.List.{length-map, length-append}
use Rattle.std.proofs.lemmas.List.Folds.{flat_map-map}
use Rattle.cfg_read.specs.SyntaxTexts.{WordText, AlternativeText, RuleText, SyntaxText}
use Rattle.cfg_read.specs.Names.{is_among, declared_tokens}
use Rattle.cfg_read.specs.FreshRules.{FreshText, fresh_of, rule_words}
use Rattle.cfg_read.specs.Asts.{Ast, no_ast, RuleAst, ProductionAst, ast_of, heads_in, fresh_heads, productions_in, fresh_productions, productions_of, production_ast, rule_ast}
use Rattle.cfg_read.specs.AstBuild.{blank_headings, fresh_rule, with_first, with_parts_of, with_expected_of}
use Rattle.cfg_read.specs.Settling.{FreshAst, fresh_ast, UsesText, AreUsesOf}
use Rattle.cfg_read.specs.Judging.{IsJudged, with_numbers_at, both_of, both_heads, words_of_fresh, with_headings_of, with_productions_of, with_tokens, with_lines_of, has_items}
use Rattle.cfg_read.proofs.RuleLemmas.{rules_made}

-- a valid or invalid tree of a text with these productions, rules and tokens
abbrev pub tree_of : SyntaxText → Bool → List ProductionAst → List RuleAst → List WordText → Ast
tree_of x valid ps rs ts = record (ast_of valid x) { productions = ps; rules = rs; tokens = ts }

-- the rules of headings and fresh rules, with their numbers
abbrev pub rules_of : SyntaxText → List (List ℕ) → List FreshAst → List RuleAst
rules_of x hs fs = map (with_numbers_at 0 (hs ++ flat_map both_heads fs)) (fold with_first (blank_headings x) (map fresh_rule (words_of_fresh fs)))

module _ (declared : List ℕ → Bool) where
  words_stay : (fs : List FreshText) → words_of_fresh (map (fresh_ast declared) fs) ≡ map (λ (f : FreshText). f.word) fs
  words_stay [] = refl
  words_stay (f ∷ fs) = ap (λ l. f.word ∷ l) (words_stay fs)

  both_are : (fs : List FreshText) → flat_map both_of (map (fresh_ast declared) fs) ≡ flat_map (fresh_productions declared) fs
  both_are fs = flat_map-map both_of (fresh_ast declared) fs

  heads_are : (fs : List FreshText) → flat_map both_heads (map (fresh_ast declared) fs) ≡ flat_map fresh_heads fs
  heads_are fs = flat_map-map both_heads (fresh_ast declared) fs

  -- as many productions as names of their rules
  pub as_many_heads : (rs : List RuleText) → length (flat_map heads_in rs) ≡ length (flat_map (productions_in declared) rs)
  as_many_heads [] = refl
  as_many_heads (r ∷ rs) =
      length-append (heads_in r) (flat_map heads_in rs)
      ∙ ap (λ n. n + length (flat_map heads_in rs)) (length-map r.alternatives (λ (a : AlternativeText). r.name.text) ∙ sym (length-map r.alternatives (production_ast declared)))
      ∙ ap (λ n. length (productions_in declared r) + n) (as_many_heads rs)
      ∙ sym (length-append (productions_in declared r) (flat_map (productions_in declared) rs))

-- the rules are those of the text
rules_are : (x : SyntaxText) (fs : List FreshAst) (hs : List (List ℕ)) → fs ≡ map (fresh_ast (is_among (declared_tokens x))) (fresh_of x) → hs ≡ flat_map heads_in x.rules → rules_of x hs fs ≡ map (rule_ast x) (rule_words x)
rules_are x fs hs fresh heads =
    let declared = is_among (declared_tokens x) in
    let own = fresh_of x in
    ap (rules_of x hs) fresh
    ∙ ap (λ l. rules_of x l (map (fresh_ast declared) own)) heads
    ∙ rules_made x own (fold with_first (blank_headings x) (map fresh_rule (words_of_fresh (map (fresh_ast declared) own)))) (flat_map heads_in x.rules ++ flat_map both_heads (map (fresh_ast declared) own))
    refl
    (ap (λ ws. fold with_first (blank_headings x) (map fresh_rule ws)) (words_stay declared own))
    (ap (λ l. flat_map heads_in x.rules ++ l) (heads_are declared own))

pub judged_is : (x : SyntaxText) (valid : Bool) (u : UsesText) (prods : List ProductionAst) (hs : List (List ℕ)) (ts : List WordText) → AreUsesOf x u
    → prods ≡ flat_map (productions_in (is_among (declared_tokens x))) x.rules → hs ≡ flat_map heads_in x.rules → ts ≡ u.known.tokens
    → tree_of x valid (prods ++ flat_map both_of u.fresh) (rules_of x hs u.fresh) ts ≡ ast_of valid x
judged_is x valid u prods hs ts are own heads tokens =
    let declared = is_among (declared_tokens x) in
    ap (λ ps. tree_of x valid (ps ++ flat_map both_of u.fresh) (rules_of x hs u.fresh) ts) own
    ∙ ap (λ ps. tree_of x valid (flat_map (productions_in declared) x.rules ++ ps) (rules_of x hs u.fresh) ts) (ap (flat_map both_of) are.fresh_is ∙ both_are declared (fresh_of x))
    ∙ ap (λ rs. tree_of x valid (productions_of x) rs ts) (rules_are x u.fresh hs are.fresh_is heads)
    ∙ ap (λ l. tree_of x valid (productions_of x) (map (rule_ast x) (rule_words x)) l) (tokens ∙ are.tokens_is)

-- a tree before its productions, and one with all that was judged
abbrev pub filled : SyntaxText → Ast → Ast
filled x a = with_expected_of (ast_of true x) (with_parts_of (ast_of true x) (with_headings_of x a))

abbrev pub begun : SyntaxText → Ast
begun x = filled x no_ast

pub judged_whole : (x : SyntaxText) (valid : Bool) (u : UsesText) (old new : Ast) (ts : List WordText) → IsJudged x u old new → old ≡ begun x → ts ≡ u.known.tokens
    → with_lines_of (ast_of true x) (with_tokens ts valid new) ≡ ast_of valid x
judged_whole x valid u old new ts judged before tokens =
    let prods = flat_map (productions_in (is_among (declared_tokens x))) x.rules in
    let hs = flat_map heads_in x.rules in
    ap (λ a. with_lines_of (ast_of true x) (with_tokens ts valid a)) judged.is
    ∙ ap (λ a. with_lines_of (ast_of true x) (with_tokens ts valid (with_productions_of prods hs u.fresh a))) before
    ∙ judged_is x valid u prods hs ts judged.uses refl refl tokens

some_there : (n : ℕ) → (suc n == 0) ≡ false
some_there n = grind (arith, nat_tests)

-- a list that has as many items as another
pub has_as_many : {A : Type 0} (empty : Bool) (n : ℕ) (ys : List A) → empty ≡ (n == 0) → n ≡ length ys → not empty ≡ has_items ys
has_as_many empty n [] told same = ap not (told ∙ ap (λ m. m == 0) same)
has_as_many empty n (y ∷ ys) told same = ap not (told ∙ ap (λ m. m == 0) same ∙ some_there (length ys))
