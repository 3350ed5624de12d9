-- The tree of a valid text is well formed.
use Rattle.std.proofs.Common.{◌≡◌, ℕ, ◌<◌, length, Bool, true, false, ◌||◌, List, [], ◌++◌, flat_map, Option, Some, IsSomeAnd, IfSome, if◌then◌else◌, Contains, All, refl, sym, ap, ◌∙◌, subst, option_to_list, None}
use Rattle.std.specs.Option.{option_or}
use Rattle.std.proofs.lemmas.List.Elements.{All-append, All-cons, All-head, All-map, All-nil, All-weaker}
use Rattle.std.proofs.lemmas.List.Folds.{list_any-append}
use Rattle.std.proofs.lemmas.Simd.{map-map}
use Rattle.cfg_base.specs.SpanModel.{SpanModel}
use Rattle.cfg_read.specs.SyntaxTexts.{WordText, SymbolText, AlternativeText, SyntaxText}
use Rattle.cfg_read.specs.Names.{is_named, is_among, texts, distinct, headings, is_rule, declared_tokens, implicit_tokens_of, avoided_tokens, is_token, symbols_used, tokens_used, rules_used, token_appearances, is_grammar_token, level_tokens, by_offset}
use Rattle.cfg_read.specs.FreshRules.{FreshText, fresh_at, fresh_word, fresh_of, fresh_words, rule_words}
use Rattle.cfg_read.specs.Validity.{IsValid, UnknownRuleRef, NoPrecForToken, UnknownEPP, UnknownToken, unknown_by, unknown_precs, unknown_symbols_by, known_by, expected_symbols, no_start_rule, invalid_start_rule, unknown_in_rules, unknown_in_declarations, unknown_names, repeated_words, repeated_declarations, precs_in, epp_tokens}
use Rattle.cfg_read.specs.Asts.{RuleAst, ProductionAst, plain_symbol_ast, symbol_ast_at, symbol_ast, productions_in, fresh_productions, rule_ast, first_item, ast_of}
use Rattle.cfg_read.specs.WellFormedAst.{AreDistinct, ListsProduction, NamesOne, IsWellFormedAst, names_of_rules, names_of_tokens, names_of_precedences}
use Rattle.cfg_read.proofs.NameLemmas.{among_distinct}
use Rattle.cfg_read.proofs.WellFormedNames.{Known, or_true, among_contains, by_offset_among, distinct_texts, known_distinct, known_themselves}
use Rattle.cfg_read.proofs.FreshLemmas.{HasFresh, have_fresh, fresh_all, among_before, among_behind, in_fresh}
use Rattle.cfg_read.proofs.WellFormedLevels.{one_kind}
use Rattle.cfg_read.proofs.WellFormedNumbers.{Lists, all_as_many, some_lists, one_lists, listed_below, lists_ascend}
use Rattle.cfg_read.proofs.WellFormedParts.{RuleIs, TokenIs, nil_left, nil_right, all_known, rules_named, tokens_named, in_productions, prec_text, precedence_names, epp_names, start_known}

-- what a valid text says
record Says (x : SyntaxText) : Type 0 where
  start_is : no_start_rule x.starts x.rules ≡ []
  start_names : invalid_start_rule (is_rule x) x.starts ≡ []
  rule_names : unknown_by UnknownRuleRef (is_rule x) (rules_used x) ≡ []
  precs : unknown_precs x ≡ []
  epp : unknown_by UnknownEPP (is_grammar_token x) (epp_tokens x) ≡ []
  avoided : unknown_by UnknownToken (is_grammar_token x) (avoided_tokens x) ≡ []

says : (x : SyntaxText) → IsValid x → Says x
says x valid =
    let behind = nil_right (no_start_rule x.starts x.rules) (unknown_names x ++ (repeated_words x ++ repeated_declarations x)) valid in
    let unknown = nil_left (unknown_names x) (repeated_words x ++ repeated_declarations x) behind in
    let rules = nil_left (unknown_in_rules (is_rule x) x) (unknown_in_declarations (is_rule x) (is_grammar_token x) x) unknown in
    let declarations = nil_right (unknown_in_rules (is_rule x) x) (unknown_in_declarations (is_rule x) (is_grammar_token x) x) unknown in
    let named = nil_right (invalid_start_rule (is_rule x) x.starts) (unknown_by UnknownRuleRef (is_rule x) (rules_used x) ++ unknown_precs x) rules in
    let tokens = nil_right (unknown_by UnknownEPP (is_grammar_token x) (epp_tokens x)) (unknown_by UnknownToken (is_grammar_token x) (avoided_tokens x) ++ unknown_symbols_by (known_by (is_rule x) (is_grammar_token x)) (expected_symbols x)) declarations in
    record {
      start_is = nil_left (no_start_rule x.starts x.rules) (unknown_names x ++ (repeated_words x ++ repeated_declarations x)) valid;
      start_names = nil_left (invalid_start_rule (is_rule x) x.starts) (unknown_by UnknownRuleRef (is_rule x) (rules_used x) ++ unknown_precs x) rules;
      rule_names = nil_left (unknown_by UnknownRuleRef (is_rule x) (rules_used x)) (unknown_precs x) named;
      precs = nil_right (unknown_by UnknownRuleRef (is_rule x) (rules_used x)) (unknown_precs x) named;
      epp = nil_left (unknown_by UnknownEPP (is_grammar_token x) (epp_tokens x)) (unknown_by UnknownToken (is_grammar_token x) (avoided_tokens x) ++ unknown_symbols_by (known_by (is_rule x) (is_grammar_token x)) (expected_symbols x)) declarations;
      avoided = nil_left (unknown_by UnknownToken (is_grammar_token x) (avoided_tokens x)) (unknown_symbols_by (known_by (is_rule x) (is_grammar_token x)) (expected_symbols x)) tokens;
    }

-- a name that is among words is one of the kept ones' texts
known_name : (ws : List WordText) (q : List ℕ) → is_among ws q ≡ true → Contains (texts (distinct ws)) q
known_name ws q h = among_contains (distinct ws) q (among_distinct ws q ∙ h)

-- each symbol names a rule or a token, and has its fresh rule where it is optional
Named : SyntaxText → SymbolText → Type 0
Named x s = RuleIs (is_among (declared_tokens x)) (is_rule x) s × (TokenIs (is_among (declared_tokens x)) (tokens_used x) s × HasFresh (is_among (declared_tokens x)) (fresh_words x) s)

symbols_named : (x : SyntaxText) → Says x → All (Named x) (symbols_used x)
unfolding Named
symbols_named x s =
    let rules = rules_named (is_among (declared_tokens x)) (is_rule x) (symbols_used x) (all_known UnknownRuleRef (is_rule x) (rules_used x) s.rule_names) in
    let tokens = tokens_named (is_among (declared_tokens x)) (symbols_used x) in
    let fresh = have_fresh (is_among (declared_tokens x)) (symbols_used x) in
    λ k d below. (rules k d below, (tokens k d below, fresh k d below))

-- what stands in `%implicit_tokens` is a token
implicit_known : (x : SyntaxText) → Known (token_appearances x) (implicit_tokens_of x)
implicit_known x =
    All-weaker (λ (w : WordText). is_among (implicit_tokens_of x) w.text ≡ true) (λ (w : WordText). is_among (token_appearances x) w.text ≡ true)
    (λ w k. list_any-append (is_named w.text) (by_offset (declared_tokens x) (implicit_tokens_of x)) (tokens_used x)
    ∙ ap (λ (b : Bool). b || is_among (tokens_used x) w.text) (by_offset_among w.text (declared_tokens x) (implicit_tokens_of x) k))
    (implicit_tokens_of x) (known_themselves (implicit_tokens_of x))

-- Nothing of it rests on whether the tree is told to be valid.
module _ (told : Bool) where
  same_names : (x : SyntaxText) → names_of_rules (ast_of told x) ≡ texts (rule_words x)
  same_names x = map-map (λ (r : RuleAst). r.name.text) (rule_ast x) (rule_words x)

  any_name : (x : SyntaxText) (q : List ℕ) → is_among (headings x ++ fresh_words x) q ≡ true → Contains (names_of_rules (ast_of told x)) q
  any_name x q h = subst (λ l. Contains l q) (sym (same_names x)) (known_name (headings x ++ fresh_words x) q h)

  rule_name : (x : SyntaxText) (q : List ℕ) → is_rule x q ≡ true → Contains (names_of_rules (ast_of told x)) q
  rule_name x q h = any_name x q (among_before (headings x) (fresh_words x) q h)

  fresh_rule_name : (x : SyntaxText) (q : List ℕ) → is_among (fresh_words x) q ≡ true → Contains (names_of_rules (ast_of told x)) q
  fresh_rule_name x q h = any_name x q (among_behind (headings x) (fresh_words x) q h)

  start_is_there : (x : SyntaxText) → Says x → IsSomeAnd (ast_of told x).start (λ (w : WordText). Contains (names_of_rules (ast_of told x)) w.text)
  start_is_there x s = by (option_or (first_item x.starts) (first_item (headings x))) (start_known x.starts x.rules s.start_is s.start_names)
    where
      by : (o : Option WordText) → IsSomeAnd o (λ (w : WordText). is_rule x w.text ≡ true) → IsSomeAnd o (λ (w : WordText). Contains (names_of_rules (ast_of told x)) w.text)
      by None h = absurd h
      by (Some w) h = rule_name x w.text h

  names_plain : (x : SyntaxText) (s : SymbolText) → Named x s → NamesOne (ast_of told x) (plain_symbol_ast (is_among (declared_tokens x)) s)
  unfolding Named
  names_plain x s h = by (is_token x s) refl
    where
      by : (b : Bool) → is_token x s ≡ b → Contains (if b then names_of_tokens (ast_of told x) else names_of_rules (ast_of told x)) s.word.text
      by true e =
          known_name (token_appearances x) s.word.text
          (list_any-append (is_named s.word.text) (by_offset (declared_tokens x) (implicit_tokens_of x)) (tokens_used x)
          ∙ or_true (is_among (by_offset (declared_tokens x) (implicit_tokens_of x)) s.word.text) (is_among (tokens_used x) s.word.text) (h.1.0 e))
      by false e = rule_name x s.word.text (h.0 e)

  names_one : (x : SyntaxText) (s : SymbolText) → Named x s → NamesOne (ast_of told x) (symbol_ast (is_among (declared_tokens x)) s)
  unfolding Named
  names_one x s h = by s.optional h.1.1
    where
      declared : List ℕ → Bool
      declared = is_among (declared_tokens x)

      by : (o : Option SpanModel) → All (λ (f : FreshText). is_among (fresh_words x) f.word.text ≡ true) (fresh_at declared s o) → NamesOne (ast_of told x) (symbol_ast_at declared s o)
      by None k = names_plain x s h
      by (Some at) k = fresh_rule_name x (fresh_word declared s at).text (All-head (λ (f : FreshText). is_among (fresh_words x) f.word.text ≡ true) _ [] k)

  fresh_are_there : (x : SyntaxText) → Says x → All (λ (p : ProductionAst). All (NamesOne (ast_of told x)) p.symbols) (flat_map (fresh_productions (is_among (declared_tokens x))) (fresh_of x))
  fresh_are_there x s =
      in_fresh (λ (f : FreshText). Named x f.symbol) (λ (p : ProductionAst). All (NamesOne (ast_of told x)) p.symbols) (is_among (declared_tokens x))
      (λ f h. (All-cons (NamesOne (ast_of told x)) (plain_symbol_ast (is_among (declared_tokens x)) f.symbol) [] (names_plain x f.symbol h) (All-nil (NamesOne (ast_of told x))), All-nil (NamesOne (ast_of told x))))
      (fresh_of x) (fresh_all (Named x) (is_among (declared_tokens x)) (symbols_used x) (symbols_named x s))

  symbols_are_there : (x : SyntaxText) → Says x → All (λ (p : ProductionAst). All (NamesOne (ast_of told x)) p.symbols) (ast_of told x).productions
  symbols_are_there x s =
      All-append (λ (p : ProductionAst). All (NamesOne (ast_of told x)) p.symbols) (flat_map (productions_in (is_among (declared_tokens x))) x.rules) (flat_map (fresh_productions (is_among (declared_tokens x))) (fresh_of x))
      (in_productions (Named x) (λ (a : AlternativeText). a.symbols) (λ (p : ProductionAst). All (NamesOne (ast_of told x)) p.symbols) (is_among (declared_tokens x))
      (λ a h. All-map (NamesOne (ast_of told x)) (symbol_ast (is_among (declared_tokens x))) a.symbols
      (All-weaker (Named x) (λ (t : SymbolText). NamesOne (ast_of told x) (symbol_ast (is_among (declared_tokens x)) t)) (names_one x) a.symbols h))
      x.rules (symbols_named x s))
      (fresh_are_there x s)

  precs_are_there : (x : SyntaxText) → Says x → All (λ (p : ProductionAst). IfSome p.precedence (Contains (names_of_precedences (ast_of told x)))) (ast_of told x).productions
  precs_are_there x s =
      All-append (λ (p : ProductionAst). IfSome p.precedence (Contains (names_of_precedences (ast_of told x)))) (flat_map (productions_in (is_among (declared_tokens x))) x.rules) (flat_map (fresh_productions (is_among (declared_tokens x))) (fresh_of x))
      (in_productions (λ (w : WordText). is_among (level_tokens x) w.text ≡ true) (λ (a : AlternativeText). option_to_list a.precedence)
      (λ (p : ProductionAst). IfSome p.precedence (Contains (names_of_precedences (ast_of told x)))) (is_among (declared_tokens x))
      (λ a h. prec_text (Contains (names_of_precedences (ast_of told x))) a.precedence
      (All-weaker (λ (w : WordText). is_among (level_tokens x) w.text ≡ true) (λ (w : WordText). Contains (names_of_precedences (ast_of told x)) w.text)
      (λ w k. subst (λ l. Contains l w.text) (sym (precedence_names x.levels)) (known_name (level_tokens x) w.text k)) (option_to_list a.precedence) h))
      x.rules (all_known NoPrecForToken (is_among (level_tokens x)) (flat_map precs_in x.rules) s.precs))
      (in_fresh (λ (f : FreshText). Unit {0}) (λ (p : ProductionAst). IfSome p.precedence (Contains (names_of_precedences (ast_of told x)))) (is_among (declared_tokens x))
      (λ f h. (tt, tt)) (fresh_of x) (λ k d below. tt))

  lists : (x : SyntaxText) (A p : ℕ) → Lists x A p → ListsProduction (ast_of told x) A p
  lists x A p l = record { rule = l.0; at = l.1; listed = l.2 }

  listed : (x : SyntaxText) (A p : ℕ) → ListsProduction (ast_of told x) A p → Lists x A p
  listed x A p l = (l.rule, l.at, l.listed)

  has_rule : (x : SyntaxText) (p : ℕ) → p < length (ast_of told x).productions → (A : ℕ) × ListsProduction (ast_of told x) A p
  has_rule x p below =
      let l = some_lists x p (subst (λ n. p < n) (sym (all_as_many x)) below) in
      (l.0, lists x l.0 p l.1)

  pub valid_is_well_formed : (x : SyntaxText) → IsValid x → IsWellFormedAst (ast_of told x)
  valid_is_well_formed x valid =
      let s = says x valid in
      record {
        start = start_is_there x s;
        rules = subst AreDistinct (sym (same_names x)) (distinct_texts (headings x ++ fresh_words x));
        tokens = distinct_texts (token_appearances x);
        precedences = subst AreDistinct (sym (precedence_names x.levels)) (distinct_texts (level_tokens x));
        epp = subst AreDistinct (sym (epp_names x.epp)) (distinct_texts (epp_tokens x));
        avoid_insert = distinct_texts (avoided_tokens x);
        implicit_tokens = distinct_texts (implicit_tokens_of x);
        levels = one_kind x.levels;
        has_rule = has_rule x;
        one_rule = λ A B p a b. one_lists x A B p (listed x A p a) (listed x B p b);
        in_range = λ A p l. subst (λ n. p < n) (all_as_many x) (listed_below x A p (listed x A p l));
        ascend = lists_ascend x;
        symbols = symbols_are_there x s;
        precs = precs_are_there x s;
        implicit_are_tokens = known_distinct (token_appearances x) (implicit_tokens_of x) (implicit_known x);
        avoided_are_tokens = known_distinct (token_appearances x) (avoided_tokens x) (all_known UnknownToken (is_grammar_token x) (avoided_tokens x) s.avoided);
        epp_are_tokens = subst (All (Contains (names_of_tokens (ast_of told x)))) (sym (epp_names x.epp)) (known_distinct (token_appearances x) (epp_tokens x) (all_known UnknownEPP (is_grammar_token x) (epp_tokens x) s.epp));
      }
