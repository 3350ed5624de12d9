-- What a valid text says of each name in it.
use Rattle.std.proofs.Common.{◌≡◌, ℕ, suc, Bool, true, false, not, List, [], ◌∷◌, ◌++◌, map, flat_map, filter, fold, Option, option_to_list, None, Some, IsSomeAnd, IfSome, if◌then◌else◌, All, refl, sym, ap, ◌∙◌, true≢false, map-id}
use Rattle.std.specs.Option.{option_or}
use Rattle.std.proofs.lemmas.List.{map-append}
use Rattle.std.proofs.lemmas.List.Elements.{All-append, All-cons, All-head, All-nil, All-tail, All-weaker}
use Rattle.std.proofs.lemmas.Simd.{map-map}
use Rattle.cfg_read.specs.SyntaxTexts.{WordText, SymbolText, AlternativeText, RuleText, LevelText, EppText}
use Rattle.cfg_read.specs.Names.{is_named, is_among, distinct, with_distinct, texts, words_in, is_token_by, tokens_by, rules_by}
use Rattle.cfg_read.specs.Validity.{FailureKind, failure_at, failures_at, without, unknown_by, no_start_rule, invalid_start_rule, NoStartRule, InvalidStartRule}
use Rattle.cfg_read.specs.Asts.{ProductionAst, PrecedenceAst, first_item, text_of, production_ast, productions_in, precedence_ast, level_precedences, precedences_at, precedences_of, with_precedence_of, with_epp_of}
use Rattle.cfg_read.proofs.NameLemmas.{any_map}
use Rattle.cfg_read.proofs.WellFormedNames.{not_nil, or_true, named_itself, words_fold}

pub nil_left : {X : Type 0} (xs ys : List X) → xs ++ ys ≡ [] → xs ≡ []
nil_left [] ys e = refl
nil_left (x ∷ xs) ys e = absurd (not_nil x (xs ++ ys) e)

pub nil_right : {X : Type 0} (xs ys : List X) → xs ++ ys ≡ [] → ys ≡ []
nil_right [] ys e = e
nil_right (x ∷ xs) ys e = absurd (not_nil x (xs ++ ys) e)

pub All-left : {X : Type 0} (P : X → Type 0) (xs ys : List X) → All P (xs ++ ys) → All P xs
All-left P [] ys h = All-nil P
All-left P (x ∷ xs) ys h = All-cons P x xs (All-head P x (xs ++ ys) h) (All-left P xs ys (All-tail P x (xs ++ ys) h))

pub All-right : {X : Type 0} (P : X → Type 0) (xs ys : List X) → All P (xs ++ ys) → All P ys
All-right P [] ys h = h
All-right P (x ∷ xs) ys h = All-right P xs ys (All-tail P x (xs ++ ys) h)

-- where no word is unknown, each is known
pub all_known : (kind : List ℕ → FailureKind) (known : List ℕ → Bool) (ws : List WordText) → unknown_by kind known ws ≡ [] → All (λ (w : WordText). known w.text ≡ true) ws
all_known kind known [] e = All-nil (λ (w : WordText). known w.text ≡ true)
all_known kind known (w ∷ ws) e = by (known w.text) refl e (all_known kind known ws)
  where
    by : (b : Bool) → known w.text ≡ b → failures_at kind (if not b then w ∷ without known ws else without known ws) ≡ []
        → (unknown_by kind known ws ≡ [] → All (λ (v : WordText). known v.text ≡ true) ws) → All (λ (v : WordText). known v.text ≡ true) (w ∷ ws)
    by true k none rest = All-cons (λ (v : WordText). known v.text ≡ true) w ws k (rest none)
    by false k none rest = absurd (not_nil (failure_at (kind w.text) w.span) (failures_at kind (without known ws)) none)

-- symbols that aren't tokens are known, where their words are
abbrev pub RuleIs : (List ℕ → Bool) → (List ℕ → Bool) → SymbolText → Type 0
RuleIs declared known s = is_token_by declared s ≡ false → known s.word.text ≡ true

pub rules_named : (declared known : List ℕ → Bool) (ss : List SymbolText) → All (λ (w : WordText). known w.text ≡ true) (rules_by declared ss) → All (RuleIs declared known) ss
rules_named declared known [] h = All-nil (RuleIs declared known)
rules_named declared known (s ∷ ss) h = by (is_token_by declared s) refl h (rules_named declared known ss)
  where
    by : (b : Bool) → is_token_by declared s ≡ b
        → All (λ (w : WordText). known w.text ≡ true) (words_in (if not b then s ∷ filter (λ (t : SymbolText). not (is_token_by declared t)) ss else filter (λ (t : SymbolText). not (is_token_by declared t)) ss))
        → (All (λ (w : WordText). known w.text ≡ true) (rules_by declared ss) → All (RuleIs declared known) ss) → All (RuleIs declared known) (s ∷ ss)
    by true e k rest = All-cons (RuleIs declared known) s ss (λ f. absurd (true≢false (sym e ∙ f))) (rest k)
    by false e k rest =
        All-cons (RuleIs declared known) s ss (λ f. All-head (λ (w : WordText). known w.text ≡ true) s.word (rules_by declared ss) k)
        (rest (All-tail (λ (w : WordText). known w.text ≡ true) s.word (rules_by declared ss) k))

-- and those that are tokens are among the tokens
abbrev pub TokenIs : (List ℕ → Bool) → List WordText → SymbolText → Type 0
TokenIs declared ts s = is_token_by declared s ≡ true → is_among ts s.word.text ≡ true

pub tokens_named : (declared : List ℕ → Bool) (ss : List SymbolText) → All (TokenIs declared (tokens_by declared ss)) ss
tokens_named declared [] = All-nil (TokenIs declared [])
tokens_named declared (s ∷ ss) = by (is_token_by declared s) refl (tokens_named declared ss)
  where
    by : (b : Bool) → is_token_by declared s ≡ b → All (TokenIs declared (tokens_by declared ss)) ss
        → All (TokenIs declared (words_in (if b then s ∷ filter (is_token_by declared) ss else filter (is_token_by declared) ss))) (s ∷ ss)
    by true e rest =
        All-cons (TokenIs declared (s.word ∷ tokens_by declared ss)) s ss (λ f. named_itself s.word.text (is_among (tokens_by declared ss) s.word.text))
        (All-weaker (TokenIs declared (tokens_by declared ss)) (TokenIs declared (s.word ∷ tokens_by declared ss)) (λ t k f. or_true (is_named t.word.text s.word) (is_among (tokens_by declared ss) t.word.text) (k f)) ss rest)
    by false e rest = All-cons (TokenIs declared (tokens_by declared ss)) s ss (λ f. absurd (true≢false (sym f ∙ e))) rest

-- what is so of parts of alternatives, as it stands of productions
module _ {Y : Type 0} (S : Y → Type 0) (parts : AlternativeText → List Y) (Q : ProductionAst → Type 0) (declared : List ℕ → Bool) (each : (a : AlternativeText) → All S (parts a) → Q (production_ast declared a)) where
  in_alternatives : (alts : List AlternativeText) → All S (flat_map parts alts) → All Q (map (production_ast declared) alts)
  in_alternatives [] h = All-nil Q
  in_alternatives (a ∷ alts) h =
      All-cons Q (production_ast declared a) (map (production_ast declared) alts) (each a (All-left S (parts a) (flat_map parts alts) h))
      (in_alternatives alts (All-right S (parts a) (flat_map parts alts) h))

  pub in_productions : (rs : List RuleText) → All S (flat_map (λ (r : RuleText). flat_map parts r.alternatives) rs) → All Q (flat_map (productions_in declared) rs)
  in_productions [] h = All-nil Q
  in_productions (r ∷ rs) h =
      All-append Q (productions_in declared r) (flat_map (productions_in declared) rs)
      (in_alternatives r.alternatives (All-left S (flat_map parts r.alternatives) (flat_map (λ (s : RuleText). flat_map parts s.alternatives) rs) h))
      (in_productions rs (All-right S (flat_map parts r.alternatives) (flat_map (λ (s : RuleText). flat_map parts s.alternatives) rs) h))

-- the text of a `%prec`
pub prec_text : (P : List ℕ → Type 0) (o : Option WordText) → All (λ (w : WordText). P w.text) (option_to_list o) → IfSome (text_of o) P
prec_text P None h = tt
prec_text P (Some w) h = All-head (λ (v : WordText). P v.text) w [] h

-- the tokens with a precedence are those of the lines, each once
level_words : (n : ℕ) (ls : List LevelText) → map (λ (p : PrecedenceAst). p.token) (precedences_at n ls) ≡ flat_map (λ (l : LevelText). words_in l.tokens) ls
level_words n [] = refl
level_words n (l ∷ ls) =
    map-append (λ (p : PrecedenceAst). p.token) (level_precedences n l) (precedences_at (suc n) ls)
    ∙ ap (λ ws. ws ++ map (λ (p : PrecedenceAst). p.token) (precedences_at (suc n) ls)) (map-map (λ (p : PrecedenceAst). p.token) (precedence_ast n l.kind) (words_in l.tokens) ∙ map-id (words_in l.tokens))
    ∙ ap (λ ws. words_in l.tokens ++ ws) (level_words (suc n) ls)

one_precedence : (ps : List PrecedenceAst) (p : PrecedenceAst) → with_precedence_of ps p ≡ (if is_among (map (λ (q : PrecedenceAst). q.token) ps) p.token.text then ps else ps ++ p ∷ [])
one_precedence ps p = ap (λ (b : Bool). if b then ps else ps ++ p ∷ []) (sym (any_map (λ (q : PrecedenceAst). q.token) (is_named p.token.text) ps))

pub precedence_names : (ls : List LevelText) → map (λ (p : PrecedenceAst). p.token.text) (precedences_of ls) ≡ texts (distinct (flat_map (λ (l : LevelText). words_in l.tokens) ls))
precedence_names ls =
    sym (map-map (λ (w : WordText). w.text) (λ (p : PrecedenceAst). p.token) (precedences_of ls))
    ∙ ap texts (words_fold (λ (p : PrecedenceAst). p.token) with_precedence_of one_precedence (precedences_at 0 ls) [] ∙ ap (fold with_distinct []) (level_words 0 ls))

-- and so are those with a printed text
one_epp : (es : List EppText) (e : EppText) → with_epp_of es e ≡ (if is_among (map (λ (d : EppText). d.token) es) e.token.text then es else es ++ e ∷ [])
one_epp es e = ap (λ (b : Bool). if b then es else es ++ e ∷ []) (sym (any_map (λ (d : EppText). d.token) (is_named e.token.text) es))

pub epp_names : (es : List EppText) → map (λ (e : EppText). e.token.text) (fold with_epp_of [] es) ≡ texts (distinct (map (λ (e : EppText). e.token) es))
epp_names es =
    sym (map-map (λ (w : WordText). w.text) (λ (e : EppText). e.token) (fold with_epp_of [] es))
    ∙ ap texts (words_fold (λ (e : EppText). e.token) with_epp_of one_epp es [])

-- The start rule is among the headings.
pub start_known : (starts : List WordText) (rules : List RuleText) → no_start_rule starts rules ≡ [] → invalid_start_rule (is_among (map (λ (r : RuleText). r.name) rules)) starts ≡ []
    → IsSomeAnd (option_or (first_item starts) (first_item (map (λ (r : RuleText). r.name) rules))) (λ (w : WordText). is_among (map (λ (r : RuleText). r.name) rules) w.text ≡ true)
start_known [] [] e f = absurd (not_nil (failure_at NoStartRule (record { start = 0; end = 0 })) [] e)
start_known [] (r ∷ rules) e f = named_itself r.name.text (is_among (map (λ (s : RuleText). s.name) rules) r.name.text)
start_known (w ∷ starts) rules e f =
    All-head (λ (v : WordText). is_among (map (λ (r : RuleText). r.name) rules) v.text ≡ true) w [] (all_known InvalidStartRule (is_among (map (λ (r : RuleText). r.name) rules)) (w ∷ []) f)
