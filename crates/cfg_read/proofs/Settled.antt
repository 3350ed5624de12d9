-- What is collected of symbols one by one is what the plain readings say of all.
use Rattle.std.proofs.Common.{◌≡◌, ℕ, zero, suc, ◌+◌, ◌<◌, arith, length, take, drop, slice_get, slice_set, Bool, true, false, not, List, [], ◌∷◌, ◌++◌, map, filter, fold, if◌then◌else◌, None, Some, refl, sym, ap, ◌∙◌}
use Rattle.std.specs.List.{flat_map}
use Rattle.std.specs.Str.{bytes_eq}
use Rattle.std.proofs.lemmas.List.{map-append, append-nil, append_assoc}
use Rattle.std.proofs.lemmas.List.Sums.{fold-append, fold_push}
use Rattle.cfg_read.specs.SyntaxTexts.{WordText, SymbolText, SyntaxText}
use Rattle.cfg_read.specs.Names.{is_among, words_in, with_distinct, by_offset, declared_tokens, implicit_tokens_of, is_token_by, tokens_by, rules_by, tokens_used, symbols_used}
use Rattle.cfg_read.specs.FreshRules.{FreshText, fresh_name, fresh_at, fresh_by, optional_in, has_fresh, with_fresh}
use Rattle.cfg_base.specs.SpanModel.{SpanModel}
use Rattle.cfg_read.specs.Asts.{SymbolAst, plain_symbol_ast, symbol_ast}
use Rattle.cfg_read.specs.declared.yacc.parser.syntax.Symbol.{Symbol}
use Rattle.cfg_read.specs.AstModels.{ast_symbol_of}
use Rattle.cfg_read.specs.SyntaxModels.{symbol_of, symbols_of}
use Rattle.cfg_read.specs.Validity.{without}
use Rattle.cfg_read.specs.NameTables.{KnownNames, with_token, known_before}
use Rattle.cfg_read.specs.Settling.{UsesText, FreshAst, fresh_ast, with_fresh_ast, with_symbol, with_symbols, AreUsesOf}
use Rattle.cfg_read.proofs.NameLemmas.{any_map}

-- what is declared, and what are rules, stays
pub declared_stay : (u : UsesText) (s : SymbolText) → (with_symbol u s).known.declared ≡ u.known.declared
declared_stay u s = by (is_token_by u.known.declared s)
  where
    by : (b : Bool) → (if b then with_token u.known s.word else u.known).declared ≡ u.known.declared
    by true = refl
    by false = refl

pub declared_of_all : (u : UsesText) (ss : List SymbolText) → (with_symbols u ss).known.declared ≡ u.known.declared
declared_of_all u [] = refl
declared_of_all u (s ∷ ss) = declared_of_all (with_symbol u s) ss ∙ declared_stay u s

rules_stay : (u : UsesText) (s : SymbolText) → (with_symbol u s).known.rules ≡ u.known.rules
rules_stay u s = by (is_token_by u.known.declared s)
  where
    by : (b : Bool) → (if b then with_token u.known s.word else u.known).rules ≡ u.known.rules
    by true = refl
    by false = refl

rules_of_all : (u : UsesText) (ss : List SymbolText) → (with_symbols u ss).known.rules ≡ u.known.rules
rules_of_all u [] = refl
rules_of_all u (s ∷ ss) = rules_of_all (with_symbol u s) ss ∙ rules_stay u s

-- one optional symbol
pub settled_optional : (u v : UsesText) (wk : KnownNames) (wu : List WordText) (wf : List FreshAst) (s t : SymbolText) (a : SymbolAst) (at : SpanModel)
    → s.optional ≡ Some at → t ≡ record s { optional = None } → a ≡ plain_symbol_ast u.known.declared t
    → v.known ≡ (if is_token_by u.known.declared t then with_token u.known t.word else u.known)
    → v.unknown ≡ (if is_token_by u.known.declared t then u.unknown else u.unknown ++ without u.known.rules (t.word ∷ []))
    → v.fresh ≡ u.fresh
    → wk ≡ v.known → wu ≡ v.unknown
    → wf ≡ with_fresh_ast v.fresh (record { word = record { text = fresh_name a.is_token a.word.text; span = at }; inner = a })
    → (let w : UsesText = record { known = wk; unknown = wu; fresh = wf } in w) ≡ with_symbol u s
settled_optional u v wk wu wf s t a at optional plain symbol known unknown fresh same_known same_unknown noted =
    let d = u.known.declared in
    let as_fresh : SymbolAst → FreshAst = λ (b : SymbolAst). record { word = record { text = fresh_name b.is_token b.word.text; span = at }; inner = b } in
    let ks = same_known ∙ known ∙ ap (λ (x : SymbolText). if is_token_by d x then with_token u.known x.word else u.known) plain in
    let us = same_unknown ∙ unknown ∙ ap (λ (x : SymbolText). if is_token_by d x then u.unknown else u.unknown ++ without u.known.rules (x.word ∷ [])) plain in
    let fs =
    noted
    ∙ ap (λ l. with_fresh_ast l (as_fresh a)) fresh
    ∙ ap (λ b. with_fresh_ast u.fresh (as_fresh b)) (symbol ∙ ap (plain_symbol_ast d) plain)
    ∙ ap (λ o. fold with_fresh_ast u.fresh (map (fresh_ast d) (fresh_at d s o))) (sym optional) in
    λ j. let w : UsesText = record { known = ks j; unknown = us j; fresh = fs j } in w

-- the tokens
tokens_of_all : (u : UsesText) (ss : List SymbolText) → (with_symbols u ss).known.tokens ≡ fold with_distinct u.known.tokens (tokens_by u.known.declared ss)
tokens_of_all u [] = refl
tokens_of_all u (s ∷ ss) =
    let d = u.known.declared in
    tokens_of_all (with_symbol u s) ss
    ∙ ap (λ e. fold with_distinct (with_symbol u s).known.tokens (tokens_by e ss)) (declared_stay u s)
    ∙ by (is_token_by d s)
  where
    by : (b : Bool) → fold with_distinct (if b then with_token u.known s.word else u.known).tokens (tokens_by u.known.declared ss)
        ≡ fold with_distinct u.known.tokens (words_in (if b then s ∷ filter (is_token_by u.known.declared) ss else filter (is_token_by u.known.declared) ss))
    by true = refl
    by false = refl

-- the names that stand for nothing
without_more : (p : List ℕ → Bool) (w : WordText) (ws : List WordText) → without p (w ∷ ws) ≡ without p (w ∷ []) ++ without p ws
without_more p w ws = by (not (p w.text))
  where
    by : (b : Bool) → (if b then w ∷ without p ws else without p ws) ≡ (if b then w ∷ [] else []) ++ without p ws
    by true = refl
    by false = refl

unknown_of_all : (u : UsesText) (ss : List SymbolText) → (with_symbols u ss).unknown ≡ u.unknown ++ without u.known.rules (rules_by u.known.declared ss)
unknown_of_all u [] = sym (append-nil u.unknown)
unknown_of_all u (s ∷ ss) =
    let d = u.known.declared in
    unknown_of_all (with_symbol u s) ss
    ∙ ap (λ e. (with_symbol u s).unknown ++ without (with_symbol u s).known.rules (rules_by e ss)) (declared_stay u s)
    ∙ ap (λ r. (with_symbol u s).unknown ++ without r (rules_by d ss)) (rules_stay u s)
    ∙ by (is_token_by d s)
  where
    rest : List WordText
    rest = rules_by u.known.declared ss

    by : (b : Bool) → (if b then u.unknown else u.unknown ++ without u.known.rules (s.word ∷ [])) ++ without u.known.rules rest
        ≡ u.unknown ++ without u.known.rules (words_in (if not b then s ∷ filter (λ (t : SymbolText). not (is_token_by u.known.declared t)) ss else filter (λ (t : SymbolText). not (is_token_by u.known.declared t)) ss))
    by true = refl
    by false = append_assoc u.unknown (without u.known.rules (s.word ∷ [])) (without u.known.rules rest) ∙ ap (λ ws. u.unknown ++ ws) (sym (without_more u.known.rules s.word rest))

-- the fresh rules
fresh_of_all : (u : UsesText) (ss : List SymbolText) → (with_symbols u ss).fresh ≡ fold with_fresh_ast u.fresh (map (fresh_ast u.known.declared) (optional_in u.known.declared ss))
fresh_of_all u [] = refl
fresh_of_all u (s ∷ ss) =
    let d = u.known.declared in
    fresh_of_all (with_symbol u s) ss
    ∙ ap (λ e. fold with_fresh_ast (with_symbol u s).fresh (map (fresh_ast e) (optional_in e ss))) (declared_stay u s)
    ∙ sym (fold-append with_fresh_ast u.fresh (map (fresh_ast d) (fresh_by d s)) (map (fresh_ast d) (optional_in d ss)))
    ∙ ap (fold with_fresh_ast u.fresh) (sym (map-append (fresh_ast d) (fresh_by d s) (optional_in d ss)))

fresh_step : (d : List ℕ → Bool) (fs : List FreshText) (f : FreshText) → with_fresh_ast (map (fresh_ast d) fs) (fresh_ast d f) ≡ map (fresh_ast d) (with_fresh fs f)
fresh_step d fs f =
    ap (λ (b : Bool). if b then map (fresh_ast d) fs else map (fresh_ast d) fs ++ fresh_ast d f ∷ []) (any_map (fresh_ast d) (λ (g : FreshAst). bytes_eq f.word.text g.word.text) fs)
    ∙ by (has_fresh fs f.word.text)
  where
    by : (b : Bool) → (if b then map (fresh_ast d) fs else map (fresh_ast d) fs ++ fresh_ast d f ∷ []) ≡ map (fresh_ast d) (if b then fs else fs ++ f ∷ [])
    by true = refl
    by false = sym (map-append (fresh_ast d) fs (f ∷ []))

fresh_asts : (d : List ℕ → Bool) (fs gs : List FreshText) → fold with_fresh_ast (map (fresh_ast d) fs) (map (fresh_ast d) gs) ≡ map (fresh_ast d) (fold with_fresh fs gs)
fresh_asts d fs [] = refl
fresh_asts d fs (g ∷ gs) = ap (λ hs. fold with_fresh_ast hs (map (fresh_ast d) gs)) (fresh_step d fs g) ∙ fresh_asts d (with_fresh fs g) gs

-- all of it
pub all_of_text : (x : SyntaxText) → AreUsesOf x (with_symbols (record { known = known_before x; unknown = []; fresh = [] }) (symbols_used x))
all_of_text x =
    let u : UsesText = record { known = known_before x; unknown = []; fresh = [] } in
    let d = is_among (declared_tokens x) in
    let ss = symbols_used x in
    record {
      declared_is = declared_of_all u ss;
      rules_is = rules_of_all u ss;
      tokens_is = tokens_of_all u ss ∙ sym (fold-append with_distinct [] (by_offset (declared_tokens x) (implicit_tokens_of x)) (tokens_used x));
      unknown_is = unknown_of_all u ss;
      fresh_is = fresh_of_all u ss ∙ fresh_asts d [] (optional_in d ss);
    }

-- a list whose first items were changed one by one
take_set : {A : Type 0} (xs : List A) (i : ℕ) (x : A) → i < length xs → take (suc i) (slice_set xs i x) ≡ take i xs ++ x ∷ []
take_set [] i x h = let no : ⊥ = omega (arith, h) in absurd no
take_set (y ∷ ys) zero x h = refl
take_set (y ∷ ys) (suc i) x h = ap (λ l. y ∷ l) (take_set ys i x (omega (arith, h)))

drop_set : {A : Type 0} (xs : List A) (i : ℕ) (x : A) → drop (suc i) (slice_set xs i x) ≡ drop (suc i) xs
drop_set [] i x = refl
drop_set (y ∷ ys) zero x = refl
drop_set (y ∷ ys) (suc i) x = drop_set ys i x

drop_suc : {A : Type 0} (xs : List A) (i : ℕ) → drop (suc i) xs ≡ drop 1 (drop i xs)
drop_suc xs zero = refl
drop_suc [] (suc i) = refl
drop_suc (y ∷ ys) (suc i) = drop_suc ys i

get_drop : {A : Type 0} (xs : List A) (i : ℕ) → slice_get xs i ≡ slice_get (drop i xs) 0
get_drop xs zero = refl
get_drop [] (suc i) = refl
get_drop (y ∷ ys) (suc i) = get_drop ys i

take_get : {A : Type 0} (xs : List A) (i : ℕ) (x : A) → slice_get xs i ≡ Some x → take (suc i) xs ≡ take i xs ++ x ∷ []
take_get [] i x h = absurd cc
take_get (y ∷ ys) zero x h = ap (λ z. z ∷ []) (same y x h)
  where
    same : {A : Type 0} (y x : A) → Some y ≡ Some x → y ≡ x
    same y x e = cc
take_get (y ∷ ys) (suc i) x h = ap (λ l. y ∷ l) (take_get ys i x h)

pub settle_step : (xs ys : List Symbol) (i : ℕ) (x new : Symbol) (u v w : UsesText) → i < length xs → slice_get xs i ≡ Some x
    → map ast_symbol_of (take i xs) ≡ map (symbol_ast u.known.declared) (symbols_of (take i ys)) → drop i xs ≡ drop i ys → v ≡ with_symbols u (symbols_of (take i ys))
    → ast_symbol_of new ≡ symbol_ast v.known.declared (symbol_of x) → w ≡ with_symbol v (symbol_of x)
    → (map ast_symbol_of (take (i + 1) (slice_set xs i new)) ≡ map (symbol_ast u.known.declared) (symbols_of (take (i + 1) ys)))
    × (drop (i + 1) (slice_set xs i new) ≡ drop (i + 1) ys)
    × (w ≡ with_symbols u (symbols_of (take (i + 1) ys)))
settle_step xs ys i x new u v w within at made rest used is more =
    let next : i + 1 ≡ suc i = omega arith in
    let there : slice_get ys i ≡ Some x = get_drop ys i ∙ ap (λ l. slice_get l 0) (sym rest) ∙ sym (get_drop xs i) ∙ at in
    let taken : take (i + 1) ys ≡ take i ys ++ x ∷ [] = ap (λ m. take m ys) next ∙ take_get ys i x there in
    let texts : symbols_of (take (i + 1) ys) ≡ symbols_of (take i ys) ++ symbol_of x ∷ [] = ap symbols_of taken ∙ map-append symbol_of (take i ys) (x ∷ []) in
    let d = u.known.declared in
    let same : v.known.declared ≡ d = ap (λ (a : UsesText). a.known.declared) used ∙ declared_of_all u (symbols_of (take i ys)) in (
      ap (λ m. map ast_symbol_of (take m (slice_set xs i new))) next
          ∙ ap (map ast_symbol_of) (take_set xs i new within)
          ∙ map-append ast_symbol_of (take i xs) (new ∷ [])
          ∙ ap (λ l. l ++ ast_symbol_of new ∷ []) made
          ∙ ap (λ a. map (symbol_ast d) (symbols_of (take i ys)) ++ a ∷ []) (is ∙ ap (λ e. symbol_ast e (symbol_of x)) same)
          ∙ sym (map-append (symbol_ast d) (symbols_of (take i ys)) (symbol_of x ∷ []))
          ∙ ap (map (symbol_ast d)) (sym texts),
      ap (λ m. drop m (slice_set xs i new)) next ∙ drop_set xs i new ∙ drop_suc xs i ∙ ap (drop 1) rest ∙ sym (drop_suc ys i) ∙ ap (λ m. drop m ys) (sym next),
      more
          ∙ ap (λ a. with_symbol a (symbol_of x)) used
          ∙ sym (fold_push with_symbol u (symbols_of (take i ys)) (symbol_of x))
          ∙ ap (with_symbols u) (sym texts),
    )

-- one more alternative, or rule
flat_more : {B C : Type 0} (f : B → List C) (ys : List B) (y : B) → flat_map f ys ++ f y ≡ flat_map f (ys ++ y ∷ [])
flat_more f [] y = sym (append-nil (f y))
flat_more f (z ∷ ys) y = append_assoc (f z) (flat_map f ys) (f y) ∙ ap (λ l. f z ++ l) (flat_more f ys y)

pub uses_more : {A B : Type 0} (f : B → List SymbolText) (g : A → B) (u v w : UsesText) (xs : List A) (x : A) → v ≡ with_symbols u (flat_map f (map g xs)) → w ≡ with_symbols v (f (g x))
    → w ≡ with_symbols u (flat_map f (map g (xs ++ x ∷ [])))
uses_more f g u v w xs x used more =
    more
    ∙ ap (λ a. with_symbols a (f (g x))) used
    ∙ sym (fold-append with_symbol u (flat_map f (map g xs)) (f (g x)))
    ∙ ap (with_symbols u) (flat_more f (map g xs) (g x))
    ∙ ap (λ l. with_symbols u (flat_map f l)) (sym (map-append g xs (x ∷ [])))

pub made_more : {A B C : Type 0} (f : B → C) (g : A → B) (done ms : List C) (xs : List A) (x : A) (m : C) → ms ≡ done ++ map f (map g xs) → m ≡ f (g x)
    → ms ++ m ∷ [] ≡ done ++ map f (map g (xs ++ x ∷ []))
made_more f g done ms xs x m before is =
    ap (λ l. l ++ m ∷ []) before
    ∙ append_assoc done (map f (map g xs)) (m ∷ [])
    ∙ ap (λ n. done ++ (map f (map g xs) ++ n ∷ [])) is
    ∙ ap (λ l. done ++ l) (sym (map-append f (map g xs) (g x ∷ [])) ∙ ap (map f) (sym (map-append g xs (x ∷ []))))

pub parts_more : {A B C : Type 0} (f : B → List C) (g : A → B) (ms more : List C) (xs : List A) (x : A) → ms ≡ flat_map f (map g xs) → more ≡ f (g x)
    → ms ++ more ≡ flat_map f (map g (xs ++ x ∷ []))
parts_more f g ms more xs x before is =
    ap (λ l. l ++ more) before ∙ ap (λ l. flat_map f (map g xs) ++ l) is ∙ flat_more f (map g xs) (g x) ∙ ap (flat_map f) (sym (map-append g xs (x ∷ [])))
