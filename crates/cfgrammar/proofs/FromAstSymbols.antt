-- What the productions of a sound tree name is in range.
use Rattle.std.proofs.Common.{◌≡◌, ℕ, zero, suc, ◌+◌, ◌<◌, ◌≤◌, ◌&&◌, Bool, true, false, List, [], ◌∷◌, ◌++◌, length, map, get_or, Option, Some, None, Contains, IsSomeAnd, All, if◌then◌else◌, flat_map, eqb, eq-eqb, refl, sym, subst, arith}
use Rattle.std.specs.List.{list_any}
use Rattle.std.specs.Option.{option_map_or}
use Rattle.std.proofs.lemmas.List.{length-map, get_or-map}
use Rattle.std.proofs.lemmas.List.Folds.{list_any_at}
use Rattle.std.proofs.lemmas.List.Elements.{All-nil, All-cons, All-head, All-tail, All-append, All-map}
use Rattle.std.proofs.lemmas.Option.{slice_get_within, get_or_from_slice_get}
use Rattle.cfg_theory.specs.Grammar.{Sym, rule, token, Production}
use Rattle.cfg_read.specs.SyntaxTexts.{WordText}
use Rattle.cfg_read.specs.Asts.{Ast, RuleAst, ProductionAst, SymbolAst}
use Rattle.cfg_read.specs.WellFormedAst.{names_of_rules, names_of_tokens, NamesOne, IsWellFormedAst}
use Rattle.cfgrammar.specs.FromAst.{rule_number, token_number, implicit_start, implicit_rule, file_start, first_rule, sym_of, syms_of, file_body, file_head, file_productions, implicit_production, implicit_productions}
use Rattle.cfgrammar.proofs.FromAstNames.{no_later, index_in_within}

-- a rule other than the first, a token other than the last
abbrev pub IsGood : ℕ → ℕ → Sym → Type 0
IsGood R T (rule A) = (zero < A) × (A < R)
IsGood R T (token t) = suc t < T

-- a production of a rule other than the first, and its symbols
pub record IsGoodProduction (R T : ℕ) (q : Production) : Type 0 where
  pub low : zero < q.head
  pub high : q.head < R
  pub body : All (IsGood R T) q.body

pub under : {A B : Type 0} (P : B → Type 0) (f : A → B) (xs : List A) → All P (map f xs) → All (λ x. P (f x)) xs
under P f xs h = λ k d lt. subst P (get_or-map f xs k d (f d) lt) (h k (f d) (let e = length-map xs f in omega (arith, e, lt)))

-- R rules, of which the file's and the added ones are, and T tokens
module _ (ast : Ast) (sound : IsWellFormedAst ast) (implicit : Bool) (R T : ℕ) (few : suc (length ast.rules) ≤ R) (more : implicit ≡ true → suc (suc (suc (length ast.rules))) ≤ R) (tokens : suc (length ast.tokens) ≤ T) where
  rule_good : (name : List ℕ) → Contains (names_of_rules ast) name → IsGood R T (rule (rule_number ast name))
  rule_good name h =
      let lt = index_in_within (names_of_rules ast) name h in
      let len = length-map ast.rules (λ (r : RuleAst). r.name.text) in
      (omega arith, omega (arith, lt, len, few))

  token_good : (name : List ℕ) → Contains (names_of_tokens ast) name → IsGood R T (token (token_number ast name))
  token_good name h =
      let lt = index_in_within (names_of_tokens ast) name h in
      let len = length-map ast.tokens (λ (w : WordText). w.text) in
      omega (arith, lt, len, tokens)

  sym_good : (b : Bool) (name : List ℕ) → Contains (if b then names_of_tokens ast else names_of_rules ast) name → IsGood R T (if b then token (token_number ast name) else rule (rule_number ast name))
  sym_good true name h = token_good name h
  sym_good false name h = rule_good name h

  implicit_good : implicit ≡ true → IsGood R T (rule (implicit_rule ast))
  implicit_good e = let m = more e in (omega arith, omega (arith, m))

  behind_good : (a b : Bool) → (a ≡ true → IsGood R T (rule (implicit_rule ast))) → All (IsGood R T) (if a && b then rule (implicit_rule ast) ∷ [] else [])
  behind_good true true h = All-cons (IsGood R T) (rule (implicit_rule ast)) [] (h refl) (All-nil (IsGood R T))
  behind_good true false h = All-nil (IsGood R T)
  behind_good false b h = All-nil (IsGood R T)

  symbols_good : (ss : List SymbolAst) → All (NamesOne ast) ss → All (IsGood R T) (flat_map (syms_of implicit ast) ss)
  symbols_good [] h = All-nil (IsGood R T)
  symbols_good (s ∷ ss) h =
      All-append (IsGood R T) (syms_of implicit ast s) (flat_map (syms_of implicit ast) ss)
      (All-cons (IsGood R T) (sym_of ast s) (if implicit && s.is_token then rule (implicit_rule ast) ∷ [] else []) (sym_good s.is_token s.word.text (All-head (NamesOne ast) s ss h)) (behind_good implicit s.is_token implicit_good))
      (symbols_good ss (All-tail (NamesOne ast) s ss h))

  head_high : (n : ℕ) → n < length ast.productions → file_head ast n < R
  head_high n lt =
      let has = sound.has_rule n lt in
      let l = has.1 in
      let in_rules = slice_get_within ast.rules has.0 l.rule l.at in
      let it = get_or_from_slice_get ast.rules has.0 l.rule l.rule l.at in
      let listed : list_any (λ k. eqb k n) l.rule.productions ≡ true = list_any_at (λ k. eqb k n) l.rule.productions l.listed.0 n l.listed.1 (eq-eqb (get_or l.rule.productions l.listed.0 n) n l.listed.2) in
      let le = no_later (λ (r : RuleAst). list_any (λ k. eqb k n) r.productions) ast.rules has.0 l.rule in_rules (subst (λ (r : RuleAst). list_any (λ k. eqb k n) r.productions ≡ true) (sym it) listed) in
      omega (arith, in_rules, le, few)

  files_good : (n : ℕ) (ps : List ProductionAst) → n + length ps ≤ length ast.productions → All (λ (p : ProductionAst). All (NamesOne ast) p.symbols) ps → All (IsGoodProduction R T) (file_productions implicit ast n ps)
  files_good n [] le h = All-nil (IsGoodProduction R T)
  files_good n (p ∷ ps) le h =
      All-cons (IsGoodProduction R T) (record { head = file_head ast n; body = file_body implicit ast p }) (file_productions implicit ast (suc n) ps)
      (record { low = omega arith; high = head_high n (omega (arith, le)); body = symbols_good p.symbols (All-head (λ (q : ProductionAst). All (NamesOne ast) q.symbols) p ps h) })
      (files_good (suc n) ps (omega (arith, le)) (All-tail (λ (q : ProductionAst). All (NamesOne ast) q.symbols) p ps h))

  pub file_good : All (IsGoodProduction R T) (file_productions implicit ast zero ast.productions)
  file_good = files_good zero ast.productions (omega arith) sound.symbols

  begins : (o : Option WordText) → IsSomeAnd o (λ w. Contains (names_of_rules ast) w.text) → IsGood R T (rule (option_map_or (λ (w : WordText). rule_number ast w.text) o zero))
  begins None h = absurd h
  begins (Some w) h = rule_good w.text h

  file_start_good : IsGood R T (rule (file_start ast))
  file_start_good = begins ast.start sound.start

  pub first_good : IsGood R T (rule (first_rule implicit ast))
  first_good = by implicit more
    where
      by : (b : Bool) → (b ≡ true → suc (suc (suc (length ast.rules))) ≤ R) → IsGood R T (rule (if b then implicit_start ast else file_start ast))
      by true m = let le = m refl in (omega arith, omega (arith, le))
      by false m = file_start_good

  tokens_good : (ws : List WordText) → implicit ≡ true → All (λ (w : WordText). Contains (names_of_tokens ast) w.text) ws → All (IsGoodProduction R T) (map (implicit_production ast) ws)
  tokens_good ws e h = All-map (IsGoodProduction R T) (implicit_production ast) ws (λ k d lt. one (get_or ws k d) (h k d lt))
    where
      one : (w : WordText) → Contains (names_of_tokens ast) w.text → IsGoodProduction R T (implicit_production ast w)
      one w c = record {
        low = omega arith;
        high = (implicit_good e).1;
        body = All-cons (IsGood R T) (token (token_number ast w.text)) (rule (implicit_rule ast) ∷ []) (token_good w.text c) (All-cons (IsGood R T) (rule (implicit_rule ast)) [] (implicit_good e) (All-nil (IsGood R T)));
      }

  implicits_good : implicit ≡ true → All (IsGoodProduction R T) (implicit_productions ast)
  implicits_good e =
      All-cons (IsGoodProduction R T) (record { head = implicit_start ast; body = rule (implicit_rule ast) ∷ rule (file_start ast) ∷ [] }) (map (implicit_production ast) ast.implicit_tokens ++ record { head = implicit_rule ast; body = [] } ∷ [])
      (record {
        low = omega arith;
        high = (let m = more e in omega (arith, m));
        body = All-cons (IsGood R T) (rule (implicit_rule ast)) (rule (file_start ast) ∷ []) (implicit_good e) (All-cons (IsGood R T) (rule (file_start ast)) [] file_start_good (All-nil (IsGood R T)));
      })
      (All-append (IsGoodProduction R T) (map (implicit_production ast) ast.implicit_tokens) (record { head = implicit_rule ast; body = [] } ∷ [])
      (tokens_good ast.implicit_tokens e (under (Contains (names_of_tokens ast)) (λ (w : WordText). w.text) ast.implicit_tokens sound.implicit_are_tokens))
      (All-cons (IsGoodProduction R T) (record { head = implicit_rule ast; body = [] }) [] (record { low = omega arith; high = (implicit_good e).1; body = All-nil (IsGood R T) }) (All-nil (IsGoodProduction R T))))

  pub added_good : All (IsGoodProduction R T) (if implicit then implicit_productions ast else [])
  added_good = by implicit implicits_good
    where
      by : (b : Bool) → (b ≡ true → All (IsGoodProduction R T) (implicit_productions ast)) → All (IsGoodProduction R T) (if b then implicit_productions ast else [])
      by true h = h refl
      by false h = All-nil (IsGoodProduction R T)
