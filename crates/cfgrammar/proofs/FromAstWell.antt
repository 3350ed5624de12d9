-- The grammar of a sound tree is one.
use Rattle.std.proofs.Common.{◌≡◌, ℕ, zero, suc, ◌+◌, ◌-◌, ◌<◌, ◌≤◌, inl, inr, Bool, true, false, List, [], ◌∷◌, ◌++◌, length, map, get_or, Option, Some, None, All, slice_get, if◌then◌else◌, option_map, refl, sym, ap, ◌∙◌, subst, arith, append_assoc}
use Rattle.std.specs.Prelude.{nat_lt}
use Rattle.std.proofs.lemmas.Bool.{cases_lt, ltb-false}
use Rattle.std.proofs.lemmas.List.{length-map, length-append, get_or_at, get_or_past}
use Rattle.std.proofs.lemmas.List.Elements.{All-nil, All-cons, All-tail, All-append}
use Rattle.std.proofs.lemmas.Option.{slice_get_within, get_or_from_slice_get, slice_get-map}
use Rattle.cfg_theory.specs.Grammar.{Sym, rule, token, Production, Grammar, IsNext, InRange, WellFormed, head_of, body_of}
use Rattle.cfg_read.specs.SyntaxTexts.{WordText}
use Rattle.cfg_read.specs.Names.{texts}
use Rattle.cfg_read.specs.Asts.{Ast, RuleAst, ProductionAst}
use Rattle.cfg_read.specs.WellFormedAst.{AreDistinct, names_of_rules, IsWellFormedAst}
use Rattle.cfg_numbered.specs.Value.{RuleFacts, TokenFacts, Fits, IsGrammar, end_facts}
use Rattle.cfgrammar.specs.declared.yacc.from_ast.TooMany.TheVariants as told
use Rattle.cfgrammar.specs.FromAst.{start_name, implicit_start_name, implicit_name, implicit_rule, first_rule, file_productions, start_production, implicit_productions, productions_of, file_rule_facts, added_rule_facts, rules_of, file_token_facts, tokens_of, file_production_facts, added_production_facts, production_facts_of, grammar_of, value_by, longest, as_told, too_many, NamesNoAdded}
use Rattle.cfgrammar.proofs.FromAstLevels.{made_levels}
use Rattle.cfgrammar.proofs.FromAstNames.{IsAbsent, absent, absent_push, same_some, distinct_cons, distinct_push}
use Rattle.cfgrammar.proofs.FromAstSymbols.{IsGood, IsGoodProduction, file_good, first_good, added_good}

pub count_files : (implicit : Bool) (ast : Ast) (n : ℕ) (ps : List ProductionAst) → length (file_productions implicit ast n ps) ≡ length ps
count_files implicit ast n [] = refl
count_files implicit ast n (p ∷ ps) = ap suc (count_files implicit ast (suc n) ps)

-- of productions of rules other than 0 around one, none but that one is of rule 0
alone : (xs : List Production) (y : Production) (ys : List Production) → All (λ (q : Production). zero < q.head) xs → All (λ (q : Production). zero < q.head) ys → (p : ℕ) (d : Production) → p < length (xs ++ y ∷ ys) → (get_or (xs ++ y ∷ ys) p d).head ≡ zero → p ≡ length xs
alone [] y ys hs ks zero d lt e = refl
alone [] y ys hs ks (suc p) d lt e = let low = ks p d (omega (arith, lt)) in absurd (omega (arith, low, e))
alone (x ∷ xs) y ys hs ks zero d lt e = let low = hs zero d (omega arith) in absurd (omega (arith, low, e))
alone (x ∷ xs) y ys hs ks (suc p) d lt e = ap suc (alone xs y ys (All-tail (λ (q : Production). zero < q.head) x xs hs) ks p d (omega (arith, lt)) e)

low_all : (R T : ℕ) (qs : List Production) → All (IsGoodProduction R T) qs → All (λ (q : Production). zero < q.head) qs
low_all R T qs h = λ k d lt. let q = h k d lt in q.low

-- a rule is named where its name stands in the list of names
named_at : (rs : List RuleFacts) (A : ℕ) (name : List ℕ) → option_map (λ (r : RuleFacts). r.name) (slice_get rs A) ≡ Some name → slice_get (map (λ (r : RuleFacts). r.name) rs) A ≡ Some name
named_at rs A name e = slice_get-map (λ (r : RuleFacts). r.name) rs A ∙ e

rule_distinct : (rs : List RuleFacts) → AreDistinct (map (λ (r : RuleFacts). r.name) rs) → (A B : ℕ) (name : List ℕ) → option_map (λ (r : RuleFacts). r.name) (slice_get rs A) ≡ Some name → option_map (λ (r : RuleFacts). r.name) (slice_get rs B) ≡ Some name → A ≡ B
rule_distinct rs d A B name a b = d A B name (named_at rs A name a) (named_at rs B name b)

names_behind : (rs : List RuleAst) (more : List RuleFacts) → map (λ (r : RuleFacts). r.name) (map file_rule_facts rs ++ more) ≡ map (λ (r : RuleAst). r.name.text) rs ++ map (λ (r : RuleFacts). r.name) more
names_behind [] more = refl
names_behind (r ∷ rs) more = ap (λ l. r.name.text ∷ l) (names_behind rs more)

module _ (ast : Ast) (sound : IsWellFormedAst ast) (free : NamesNoAdded ast) where
  starts_apart : implicit_start_name ≡ start_name → ⊥
  starts_apart e = let l = ap length e in absurd (omega (arith, l))

  implicit_apart : implicit_start_name ≡ implicit_name → ⊥
  implicit_apart e = let l = ap length e in absurd (omega (arith, l))

  tilde_apart : implicit_name ≡ start_name → ⊥
  tilde_apart e = let l = ap (λ n. get_or n 0 0) e in absurd (omega (arith, l))

  one_more : AreDistinct (names_of_rules ast ++ implicit_start_name ∷ [])
  one_more = distinct_push implicit_start_name (names_of_rules ast) sound.rules (absent implicit_start_name (names_of_rules ast) free.implicit_start)

  two_more : AreDistinct ((names_of_rules ast ++ implicit_start_name ∷ []) ++ implicit_name ∷ [])
  two_more = distinct_push implicit_name (names_of_rules ast ++ implicit_start_name ∷ []) one_more
      (absent_push implicit_name implicit_start_name (names_of_rules ast) (absent implicit_name (names_of_rules ast) free.implicit) implicit_apart)

  start_absent : IsAbsent start_name ((names_of_rules ast ++ implicit_start_name ∷ []) ++ implicit_name ∷ [])
  start_absent = absent_push start_name implicit_name (names_of_rules ast ++ implicit_start_name ∷ [])
      (absent_push start_name implicit_start_name (names_of_rules ast) (absent start_name (names_of_rules ast) free.start) starts_apart) tilde_apart

  pub apart_by : (b : Bool) → AreDistinct (map (λ (r : RuleFacts). r.name) (rules_of b ast))
  apart_by true =
      let names = names_behind ast.rules (added_rule_facts implicit_start_name ∷ added_rule_facts implicit_name ∷ []) ∙ sym (append_assoc (names_of_rules ast) (implicit_start_name ∷ []) (implicit_name ∷ [])) in
      subst (λ l. AreDistinct (start_name ∷ l)) (sym names) (distinct_cons start_name ((names_of_rules ast ++ implicit_start_name ∷ []) ++ implicit_name ∷ []) start_absent two_more)
  apart_by false =
      let names = names_behind ast.rules [] ∙ nothing (names_of_rules ast) in
      subst (λ l. AreDistinct (start_name ∷ l)) (sym names) (distinct_cons start_name (names_of_rules ast) (absent start_name (names_of_rules ast) free.start) sound.rules)
    where
      nothing : (l : List (List ℕ)) → l ++ [] ≡ l
      nothing [] = refl
      nothing (x ∷ l) = ap (λ k. x ∷ k) (nothing l)

-- tokens by their names
token_at : (ast : Ast) (ws : List WordText) (t : ℕ) (name : List ℕ) → option_map (λ (k : TokenFacts). k.name) (slice_get (map (file_token_facts ast) ws ++ end_facts ∷ []) t) ≡ Some (Some name) → slice_get (texts ws) t ≡ Some name
token_at ast [] zero name e = absurd (no_name name e)
  where
    no_name : (name : List ℕ) → ◌≡◌ {A = Option (Option (List ℕ))} (Some None) (Some (Some name)) → ⊥
    no_name name e = cc
token_at ast [] (suc t) name e = absurd (past name e)
  where
    past : (name : List ℕ) → ◌≡◌ {A = Option (Option (List ℕ))} None (Some (Some name)) → ⊥
    past name e = cc
token_at ast (w ∷ ws) zero name e = same_some (Some w.text) (Some name) e
token_at ast (w ∷ ws) (suc t) name e = token_at ast ws t name e

token_named : (ast : Ast) (ws : List WordText) (t : ℕ) → t < length ws → (name : List ℕ) × (option_map (λ (k : TokenFacts). k.name) (slice_get (map (file_token_facts ast) ws ++ end_facts ∷ []) t) ≡ Some (Some name))
token_named ast [] t lt = absurd (omega (arith, lt))
token_named ast (w ∷ ws) zero lt = (w.text, refl)
token_named ast (w ∷ ws) (suc t) lt = token_named ast ws t (omega (arith, lt))

end_at : (ast : Ast) (ws : List WordText) → slice_get (map (file_token_facts ast) ws ++ end_facts ∷ []) (length ws) ≡ Some end_facts
end_at ast [] = refl
end_at ast (w ∷ ws) = end_at ast ws

pub count_tokens : (ast : Ast) → length (tokens_of ast) ≡ suc (length ast.tokens)
count_tokens ast =
    let a = length-append (map (file_token_facts ast) ast.tokens) (end_facts ∷ []) in
    let m = length-map ast.tokens (file_token_facts ast) in
    omega (arith, a, m)

pub count_rules : (b : Bool) (ast : Ast) → length (rules_of b ast) ≡ suc (length ast.rules) + (if b then 2 else 0)
count_rules true ast =
    let a = length-append (map file_rule_facts ast.rules) (added_rule_facts implicit_start_name ∷ added_rule_facts implicit_name ∷ []) in
    let m = length-map ast.rules file_rule_facts in
    omega (arith, a, m)
count_rules false ast =
    let a = length-append (map file_rule_facts ast.rules) [] in
    let m = length-map ast.rules file_rule_facts in
    omega (arith, a, m)

enough : (b : Bool) (ast : Ast) → b ≡ true → suc (suc (suc (length ast.rules))) ≤ length (rules_of b ast)
enough true ast e = let n = count_rules true ast in omega (arith, n)
enough false ast e = absurd (differ e)
  where
    differ : false ≡ true → ⊥
    differ e = cc

some_rules : (b : Bool) (ast : Ast) → suc (length ast.rules) ≤ length (rules_of b ast)
some_rules true ast = let n = count_rules true ast in omega (arith, n)
some_rules false ast = let n = count_rules false ast in omega (arith, n)

-- ~ stands where it is numbered
tilde_at : (rs : List RuleAst) → slice_get (map file_rule_facts rs ++ added_rule_facts implicit_start_name ∷ added_rule_facts implicit_name ∷ []) (suc (length rs)) ≡ Some (added_rule_facts implicit_name)
tilde_at [] = refl
tilde_at (r ∷ rs) = tilde_at rs

implicit_named : (b : Bool) (ast : Ast) (A : ℕ) → (if b then Some (implicit_rule ast) else None) ≡ Some A → option_map (λ (r : RuleFacts). r.name) (slice_get (rules_of b ast) A) ≡ Some implicit_name
implicit_named true ast A e =
    let at = ap (option_map (λ (r : RuleFacts). r.name)) (tilde_at ast.rules) in
    subst (λ n. option_map (λ (r : RuleFacts). r.name) (slice_get (rules_of true ast) n) ≡ Some implicit_name) (same_some (implicit_rule ast) A e) at
implicit_named false ast A e = absurd (nothing e)
  where
    nothing : None ≡ Some A → ⊥
    nothing e = cc

-- counts that aren't told to be too many
no_more : {X : Type 0} (b : Bool) (x : X) (o : Option X) → (if b then Some x else o) ≡ None → (b ≡ false) × (o ≡ None)
no_more true x o e = absurd (some e)
  where
    some : Some x ≡ None → ⊥
    some e = cc
no_more false x o e = (refl, e)

body_short : (ps : List Production) (p : ℕ) (d : Production) → d.body ≡ [] → length (get_or ps p d).body ≤ longest ps
body_short [] p d e = let l = ap length e in omega (arith, l)
body_short (q ∷ ps) zero d e = omega arith
body_short (q ∷ ps) (suc p) d e = let l = body_short ps p d e in omega (arith, l)

pub all_fit : (top : ℕ) (G : Grammar) → too_many top G ≡ None → Fits top G
unfolding body_of
all_fit top G e =
    let a = no_more (nat_lt top G.rules) (told.TooManyRules (as_told G.rules)) _ e in
    let b = no_more (nat_lt top (length G.productions)) (told.TooManyProds (as_told (length G.productions))) _ a.1 in
    let c = no_more (nat_lt top G.tokens) (told.TooManyTokens (as_told G.tokens)) _ b.1 in
    let d = no_more (nat_lt top (longest G.productions)) (told.TooManySymbols (as_told (longest G.productions))) _ c.1 in
    let most = ltb-false top (longest G.productions) d.0 in
    record {
      rules = ltb-false top G.rules a.0;
      tokens = ltb-false top G.tokens c.0;
      productions = ltb-false top (length G.productions) b.0;
      symbols = λ p. let l = body_short G.productions p (record { head = 0; body = [] }) refl in omega (arith, l, most);
    }

-- a grammar whose productions are good, but for one of rule 0
module _ (G : Grammar) (file added : List Production) (A : ℕ) (is : G.productions ≡ file ++ record { head = zero; body = rule A ∷ [] } ∷ added) (start : G.start ≡ length file)
    (good : All (IsGoodProduction G.rules G.tokens) file) (too : All (IsGoodProduction G.rules G.tokens) added) (one : IsGood G.rules G.tokens (rule A)) (some : zero < G.tokens) where
  at_start : get_or G.productions G.start (record { head = 0; body = [] }) ≡ record { head = zero; body = rule A ∷ [] }
  at_start = ap (λ l. get_or l G.start (record { head = 0; body = [] })) is ∙ get_or_at file (record { head = zero; body = rule A ∷ [] }) added (record { head = 0; body = [] }) G.start (sym start)

  count : length G.productions ≡ length file + suc (length added)
  count = ap length is ∙ length-append file (record { head = zero; body = rule A ∷ [] } ∷ added)

  bodies : All (λ (q : Production). (q.head < G.rules) × All (IsGood G.rules G.tokens) q.body) G.productions
  bodies = subst (All (λ (q : Production). (q.head < G.rules) × All (IsGood G.rules G.tokens) q.body)) (sym is)
      (All-append (λ (q : Production). (q.head < G.rules) × All (IsGood G.rules G.tokens) q.body) file (record { head = zero; body = rule A ∷ [] } ∷ added) (weak file good)
      (All-cons (λ (q : Production). (q.head < G.rules) × All (IsGood G.rules G.tokens) q.body) (record { head = zero; body = rule A ∷ [] }) added
      ((let l = one.1 in omega (arith, l)), All-cons (IsGood G.rules G.tokens) (rule A) [] one (All-nil (IsGood G.rules G.tokens))) (weak added too)))
    where
      weak : (qs : List Production) → All (IsGoodProduction G.rules G.tokens) qs → All (λ (q : Production). (q.head < G.rules) × All (IsGood G.rules G.tokens) q.body) qs
      weak qs h = λ k d lt. let q = h k d lt in (q.high, q.body)

  symbol_good : (p d : ℕ) (X : Sym) → IsNext G p d X → IsGood G.rules G.tokens X
  unfolding body_of
  symbol_good p d X next = elim (cases_lt p (length G.productions)) [ inl lt ↦ inside lt | inr le ↦ absurd (outside le) ]
    where
      inside : p < length G.productions → IsGood G.rules G.tokens X
      inside lt =
          let all = bodies p (record { head = 0; body = [] }) lt in
          let short = slice_get_within (get_or G.productions p (record { head = 0; body = [] })).body d X next.at in
          subst (IsGood G.rules G.tokens) (get_or_from_slice_get (get_or G.productions p (record { head = 0; body = [] })).body d X X next.at) (all.1 d X short)

      nothing : None ≡ Some X → ⊥
      nothing e = cc

      outside : length G.productions ≤ p → ⊥
      outside le = nothing (ap (λ (q : Production). slice_get q.body d) (sym (get_or_past G.productions p (record { head = 0; body = [] }) le)) ∙ next.at)

  in_range : (X : Sym) → IsGood G.rules G.tokens X → InRange G X
  in_range (rule B) h = h.1
  in_range (token t) h = omega (arith, h)

  pub well : WellFormed G
  unfolding head_of body_of
  well = record {
    start_of = record { in_range = omega (arith, count, start); head = ap (λ (q : Production). q.head) at_start };
    start_alone = λ p o. alone file (record { head = zero; body = rule A ∷ [] }) added (low_all G.rules G.tokens file good) (low_all G.rules G.tokens added too) p (record { head = 0; body = [] }) (subst (λ l. p < length l) is o.in_range) (sym (ap (λ l. (get_or {A = Production} l p (record { head = 0; body = [] })).head) is) ∙ o.head) ∙ sym start;
    start_rule = (A, ap (λ (q : Production). q.body) at_start);
    no_start = λ p d next. let g = symbol_good p d (rule zero) next in let l = g.0 in omega (arith, l);
    no_end = λ p d t e next. let g = symbol_good p d (token t) next in omega (arith, g, e);
    heads = λ p B o. let h = bodies p (record { head = 0; body = [] }) o.in_range in subst (λ n. n < G.rules) o.head h.0;
    symbols = λ p d X next. in_range X (symbol_good p d X next);
    end_token = some;
  }

-- The value that is made of a sound tree is a grammar, where its counts fit.
pub made_well : (top : ℕ) (b : Bool) (ast : Ast) → IsWellFormedAst ast → NamesNoAdded ast → too_many top (grammar_of b ast) ≡ None → IsGrammar top (value_by b ast)
made_well top b ast sound free fit = record {
  well_formed = well (grammar_of b ast) (file_productions b ast zero ast.productions) (if b then implicit_productions ast else []) (first_rule b ast) refl (sym (count_files b ast zero ast.productions))
      (file_good ast sound b (length (rules_of b ast)) (length (tokens_of ast)) (some_rules b ast) (enough b ast) some_tokens)
      (added_good ast sound b (length (rules_of b ast)) (length (tokens_of ast)) (some_rules b ast) (enough b ast) some_tokens)
      (first_good ast sound b (length (rules_of b ast)) (length (tokens_of ast)) (some_rules b ast) (enough b ast) some_tokens)
      (let n = count_tokens ast in omega (arith, n));
  fits = all_fit top (grammar_of b ast) fit;
  rules = refl;
  tokens = refl;
  productions = counts;
  rule_names = λ A B name x y. rule_distinct (rules_of b ast) (apart_by ast sound free b) A B name x.at y.at;
  token_names = λ t u name x y. sound.tokens t u name (token_at ast ast.tokens t name x.at) (token_at ast ast.tokens u name y.at);
  named = λ t lt. let n = count_tokens ast in let at = token_named ast ast.tokens t (omega (arith, lt, n)) in (at.0, record { at = at.1 });
  end_unnamed = subst (λ n. slice_get (tokens_of ast) n ≡ Some end_facts) last (end_at ast ast.tokens);
  levels = made_levels b ast sound.levels;
  implicit_rule = λ A e. record { at = implicit_named b ast A e };
}
  where
    some_tokens : suc (length ast.tokens) ≤ length (tokens_of ast)
    some_tokens = let n = count_tokens ast in omega (arith, n)

    last : length ast.tokens ≡ length (tokens_of ast) - 1
    last = let n = count_tokens ast in omega (arith, n)

    counts : length (production_facts_of b ast) ≡ length (productions_of b ast)
    counts =
        let l = length-append (map (file_production_facts ast) ast.productions) (map added_production_facts (start_production b ast ∷ (if b then implicit_productions ast else []))) in
        let m = length-map ast.productions (file_production_facts ast) in
        let k = length-map (start_production b ast ∷ (if b then implicit_productions ast else [])) added_production_facts in
        let r = length-append (file_productions b ast zero ast.productions) (start_production b ast ∷ (if b then implicit_productions ast else [])) in
        let f = count_files b ast zero ast.productions in
        omega (arith, l, m, k, r, f)
