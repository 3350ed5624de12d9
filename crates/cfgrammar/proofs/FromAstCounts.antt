-- Counts of the productions of a tree and of their symbols.
use Rattle.std.proofs.Common.{◌≡◌, ℕ, suc, ◌+◌, ◌≤◌, max, cond, ltb, eqb, Bool, true, false, List, [], ◌∷◌, ◌++◌, length, map, if◌then◌else◌, refl, arith}
use Rattle.std.specs.Ordering.{nat_cmp, ord_max, is_lt}
use Rattle.std.specs.declared.cmp.Ordering.TheVariants.{Less, Equal, Greater}
use Rattle.std.proofs.lemmas.Bool.{ltb-true, ltb-false}
use Rattle.std.proofs.lemmas.List.{length-map, length-append}
use Rattle.cfg_theory.specs.Grammar.{Production}
use Rattle.cfg_read.specs.SyntaxTexts.{WordText}
use Rattle.cfg_read.specs.Asts.{Ast, ProductionAst}
use Rattle.cfgrammar.specs.FromAst.{file_body, file_productions, start_production, implicit_rule, implicit_production, implicit_productions, productions_of, longest, as_told}
use Rattle.cfgrammar.proofs.FromAstWell.{count_files}

-- how many are added for implicit tokens
abbrev pub added_count : Bool → Ast → ℕ
added_count implicit ast = if implicit then length ast.implicit_tokens + 2 else 0

pub count_productions : (implicit : Bool) (ast : Ast) → length (productions_of implicit ast) ≡ length ast.productions + 1 + added_count implicit ast
count_productions implicit ast =
    let l = length-append (file_productions implicit ast 0 ast.productions) (start_production implicit ast ∷ (if implicit then implicit_productions ast else [])) in
    let f = count_files implicit ast 0 ast.productions in
    let a = added implicit in
    omega (arith, l, f, a)
  where
    added : (b : Bool) → length (if b then implicit_productions ast else []) ≡ added_count b ast
    added true =
        let l = length-append (map (implicit_production ast) ast.implicit_tokens) (record { head = implicit_rule ast; body = [] } ∷ []) in
        let m = length-map ast.implicit_tokens (implicit_production ast) in
        omega (arith, l, m)
    added false = refl

longest_append : (xs ys : List Production) → longest (xs ++ ys) ≡ max (longest xs) (longest ys)
longest_append [] ys = omega arith
longest_append (x ∷ xs) ys = let h = longest_append xs ys in omega (arith, h)

-- one more production of the file
pub longest_more : (implicit : Bool) (ast : Ast) (n : ℕ) (ps : List ProductionAst) (p : ProductionAst)
    → longest (file_productions implicit ast n (ps ++ p ∷ [])) ≡ max (longest (file_productions implicit ast n ps)) (length (file_body implicit ast p))
longest_more implicit ast n [] p = omega arith
longest_more implicit ast n (q ∷ ps) p = let h = longest_more implicit ast (suc n) ps p in omega (arith, h)

pairs_short : (ast : Ast) (ws : List WordText) → longest (map (implicit_production ast) ws ++ record { head = implicit_rule ast; body = [] } ∷ []) ≤ 2
pairs_short ast [] = omega arith
pairs_short ast (w ∷ ws) = let h = pairs_short ast ws in omega (arith, h)

abbrev pub added_longest : Bool → ℕ
added_longest implicit = if implicit then 2 else 1

-- the longest one of all
pub longest_all : (implicit : Bool) (ast : Ast) → longest (productions_of implicit ast) ≡ max (added_longest implicit) (longest (file_productions implicit ast 0 ast.productions))
longest_all implicit ast =
    let l = longest_append (file_productions implicit ast 0 ast.productions) (start_production implicit ast ∷ (if implicit then implicit_productions ast else [])) in
    let a = added implicit in
    omega (arith, l, a)
  where
    added : (b : Bool) → max 1 (longest (if b then implicit_productions ast else [])) ≡ added_longest b
    added true = let h = pairs_short ast ast.implicit_tokens in omega (arith, h)
    added false = omega arith

-- a sum that is told in two parts
pub told_twice : (r s a b n : ℕ) → r ≡ as_told (a + 1) → s ≡ as_told (r + (b + 2)) → n ≡ a + 1 + (b + 2) → s ≡ as_told n
told_twice r s a b n e f g = omega (arith, e, f, g)

ord_max-nat : (r s : ℕ) → ord_max nat_cmp r s ≡ max r s
ord_max-nat r s = by (ltb s r) (eqb s r) refl
  where
    by : (b e : Bool) → ltb s r ≡ b → cond (is_lt (cond b Less (cond e Equal Greater))) r s ≡ max r s
    by true e h = let l = ltb-true s r h in omega (arith, l)
    by false true h = let l = ltb-false s r h in omega (arith, l)
    by false false h = let l = ltb-false s r h in omega (arith, l)

pub told_max : (r s t m l n : ℕ) → r ≡ as_told m → s ≡ as_told l → t ≡ ord_max nat_cmp r s → n ≡ max m l → t ≡ as_told n
told_max r s t m l n e f g h = let k = ord_max-nat r s in omega (arith, e, f, g, h, k)

pub max_step : (b a l k n : ℕ) → n ≡ max a k → k ≡ l → max b n ≡ max (max b a) l
max_step b a l k n e f = omega (arith, e, f)
