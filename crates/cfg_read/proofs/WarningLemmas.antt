-- Names that a set of names gets from symbols, and the symbols that stand under a name.
use Rattle.std.proofs.Common.{◌≡◌, ℕ, ◌+◌, ◌<◌, Bool, true, false, ◌&&◌, ◌||◌, List, [], ◌∷◌, ◌++◌, map, take, length, get_or, slice_get, if◌then◌else◌, Option, None, Some, option_map, is_some, refl, sym, ap, ◌∙◌, subst, Bor, true≢false, ◌⊎◌, inl, inr}
use Rattle.std.specs.List.{Contains, list_any, flat_map, IsDistinct, AllByRecursion}
use Rattle.std.specs.Map.{keys_of, lookup}
use Rattle.std.specs.Option.{option_map_or}
use Rattle.std.specs.Str.{bytes_eq}
use Rattle.std.specs.String.{string_bytes}
use Rattle.std.specs.declared.alloc.Global.{Global}
use Rattle.std.specs.declared.string.String.{String}
use Rattle.std.proofs.lemmas.List.{map-append, append-nil, append_assoc, take_more}
use Rattle.std.proofs.lemmas.List.Sums.{fold_push, fold-append}
use Rattle.std.proofs.lemmas.List.Folds.{list_any-append}
use Rattle.std.proofs.lemmas.Option.{slice_get-map}
use Rattle.std.proofs.lemmas.Slice.Eq.{bytes_eq-Decides}
use Rattle.cfg_read.specs.declared.yacc.ast.Rule.{Rule as RuleEntry}
use Rattle.cfg_read.specs.declared.yacc.ast.Production.{Production}
use Rattle.cfg_read.specs.declared.yacc.parser.syntax.Symbol.{Symbol}
use Rattle.cfg_read.specs.SyntaxTexts.{WordText}
use Rattle.cfg_read.specs.Asts.{Ast, RuleAst, ProductionAst, SymbolAst}
use Rattle.cfg_read.specs.AstChanges.{rule_named}
use Rattle.cfg_read.specs.AstModels.{named_rule, ast_symbol_of, production_of}
use Rattle.cfg_read.specs.Warnings.{Uses, WarningKind, WarningText, warnings_at}
use Rattle.cfg_read.specs.WarningModels.{with_name, with_symbol_name, with_symbol_names, production_symbols, symbols_of_all, numbers_under, symbols_under, rule_names}
use Rattle.cfg_read.proofs.NameLemmas.{any_map, or_false, or_assoc, or_absorbs}
use Rattle.cfg_read.proofs.Members.{member_cases, member_first, member_later, member_none, flat_gives, gives_flat}

abbrev pub has : List (List ℕ) → List ℕ → Bool
has names q = list_any (bytes_eq q) names

pub has_set : (keys : List (Bor (List ℕ))) (q : List ℕ) → list_any (λ (k : Bor (List ℕ)). bytes_eq q k.now) keys ≡ has (map (λ (k : Bor (List ℕ)). k.now) keys) q
has_set keys q = sym (any_map (λ (k : Bor (List ℕ)). k.now) (bytes_eq q) keys)

-- the names after an insert
pub name_more : (keys : List (Bor (List ℕ))) (k : Bor (List ℕ)) → map (λ (x : Bor (List ℕ)). x.now) (if list_any (λ (y : Bor (List ℕ)). bytes_eq k.now y.now) keys then keys else keys ++ k ∷ []) ≡ with_name (map (λ (x : Bor (List ℕ)). x.now) keys) k.now
name_more keys k = by (list_any (λ (y : Bor (List ℕ)). bytes_eq k.now y.now) keys) (has (map (λ (x : Bor (List ℕ)). x.now) keys) k.now) (has_set keys k.now)
  where
    by : (a b : Bool) → a ≡ b → map (λ (x : Bor (List ℕ)). x.now) (if a then keys else keys ++ k ∷ []) ≡ (if b then map (λ (x : Bor (List ℕ)). x.now) keys else map (λ (x : Bor (List ℕ)). x.now) keys ++ k.now ∷ [])
    by true true e = refl
    by true false e = cc
    by false true e = cc
    by false false e = map-append (λ (x : Bor (List ℕ)). x.now) keys (k ∷ [])

-- what a set has then
has_with : (names : List (List ℕ)) (n q : List ℕ) → has (with_name names n) q ≡ (has names q || bytes_eq q n)
has_with names n q = by (has names n) refl
  where
    by : (b : Bool) → has names n ≡ b → has (if b then names else names ++ n ∷ []) q ≡ (has names q || bytes_eq q n)
    by true e = or_absorbs (has names q) (bytes_eq q n) (λ h. subst (λ t. has names t ≡ true) (sym ((bytes_eq-Decides q n).0 h)) e)
    by false e = list_any-append (bytes_eq q) names (n ∷ []) ∙ ap (λ b. has names q || b) (or_false (bytes_eq q n))

module _ (wanted : SymbolAst → Bool) where
  abbrev pub names_it : List ℕ → SymbolAst → Bool
  names_it q s = wanted s && bytes_eq q s.word.text

  has_symbol : (names : List (List ℕ)) (s : SymbolAst) (q : List ℕ) → has (with_symbol_name wanted names s) q ≡ (has names q || names_it q s)
  has_symbol names s q = by (wanted s)
    where
      by : (b : Bool) → has (if b then with_name names s.word.text else names) q ≡ (has names q || (b && bytes_eq q s.word.text))
      by true = has_with names s.word.text q
      by false = sym (or_false (has names q))

  pub has_symbols : (names : List (List ℕ)) (ss : List SymbolAst) (q : List ℕ) → has (with_symbol_names wanted names ss) q ≡ (has names q || list_any (names_it q) ss)
  has_symbols names [] q = sym (or_false (has names q))
  has_symbols names (s ∷ ss) q =
      has_symbols (with_symbol_name wanted names s) ss q
      ∙ ap (λ b. b || list_any (names_it q) ss) (has_symbol names s q)
      ∙ or_assoc (has names q) (names_it q s) (list_any (names_it q) ss)

  -- the names that were there stay at their indices
  kept_symbol : (names : List (List ℕ)) (s : SymbolAst) → (more : List (List ℕ)) × (with_symbol_name wanted names s ≡ names ++ more)
  kept_symbol names s = by (wanted s) (has names s.word.text)
    where
      by : (b h : Bool) → (more : List (List ℕ)) × ((if b then (if h then names else names ++ s.word.text ∷ []) else names) ≡ names ++ more)
      by true true = ([], sym (append-nil names))
      by true false = (s.word.text ∷ [], refl)
      by false h = ([], sym (append-nil names))

  pub kept_symbols : (names : List (List ℕ)) (ss : List SymbolAst) → (more : List (List ℕ)) × (with_symbol_names wanted names ss ≡ names ++ more)
  kept_symbols names [] = ([], sym (append-nil names))
  kept_symbols names (s ∷ ss) =
      let one = kept_symbol names s in
      let rest = kept_symbols (with_symbol_name wanted names s) ss in
      (one.0 ++ rest.0, rest.1 ∙ ap (λ l. l ++ rest.0) one.1 ∙ append_assoc names one.0 rest.0)

-- the rule of a name
each_apart : (t : List ℕ) (rs : List RuleAst) (r : RuleAst) → AllByRecursion (λ y. bytes_eq t y ≡ false) (map (λ (r : RuleAst). r.name.text) rs) → Contains rs r → bytes_eq t r.name.text ≡ false
each_apart t [] r a h = absurd (member_none r h)
each_apart t (s ∷ rs) r a h = by (member_cases s rs r h) (each_apart t rs r a.1)
  where
    by : (s ≡ r) ⊎ Contains rs r → (Contains rs r → bytes_eq t r.name.text ≡ false) → bytes_eq t r.name.text ≡ false
    by (inl same) rest = subst (λ (u : RuleAst). bytes_eq t u.name.text ≡ false) same a.0
    by (inr g) rest = rest g

pub gives_named : (rs : List RuleAst) (q : List ℕ) (r : RuleAst) → IsDistinct bytes_eq (map (λ (r : RuleAst). r.name.text) rs) → Contains rs r → r.name.text ≡ q → rule_named rs q ≡ Some r
unfolding IsDistinct
gives_named [] q r apart h same = absurd (member_none r h)
gives_named (s ∷ rs) q r apart h same = by (bytes_eq q s.name.text) refl (member_cases s rs r h) (λ g. gives_named rs q r apart.1 g same)
  where
    by : (b : Bool) → bytes_eq q s.name.text ≡ b → (s ≡ r) ⊎ Contains rs r → (Contains rs r → rule_named rs q ≡ Some r) → (if b then Some s else rule_named rs q) ≡ Some r
    by true e (inl is) rest = ap Some is
    by true e (inr g) rest =
        let other : bytes_eq s.name.text r.name.text ≡ false = each_apart s.name.text rs r apart.0 g in
        absurd (true≢false (sym ((bytes_eq-Decides s.name.text r.name.text).1 (sym ((bytes_eq-Decides q s.name.text).0 e) ∙ sym same)) ∙ other))
    by false e (inl is) rest = absurd (true≢false (sym ((bytes_eq-Decides q s.name.text).1 (sym same ∙ ap (λ (u : RuleAst). u.name.text) (sym is))) ∙ e))
    by false e (inr g) rest = rest g

none_some : (r : RuleAst) → None ≡ Some r → ⊥
none_some r e = cc

same_rule : (s r : RuleAst) → Some s ≡ Some r → s ≡ r
same_rule s r e = cc

pub named_gives : (rs : List RuleAst) (q : List ℕ) (r : RuleAst) → rule_named rs q ≡ Some r → Contains rs r × (r.name.text ≡ q)
named_gives [] q r h = absurd (none_some r h)
named_gives (s ∷ rs) q r h = by (bytes_eq q s.name.text) refl h (named_gives rs q r)
  where
    by : (b : Bool) → bytes_eq q s.name.text ≡ b → (if b then Some s else rule_named rs q) ≡ Some r → (rule_named rs q ≡ Some r → Contains rs r × (r.name.text ≡ q)) → Contains (s ∷ rs) r × (r.name.text ≡ q)
    by true e f rest =
        let is : s ≡ r = same_rule s r f in
        (member_first s rs r is, ap (λ (u : RuleAst). u.name.text) (sym is) ∙ sym ((bytes_eq-Decides q s.name.text).0 e))
    by false e f rest = let g = rest f in (member_later s rs r g.0, g.1)

-- the symbols under a name
pub uses_gives : (ast : Ast) (q : List ℕ) (s : SymbolAst) → IsDistinct bytes_eq (rule_names ast) → Uses ast q s → Contains (symbols_under ast q) s
uses_gives ast q s apart u =
    let found : rule_named ast.rules q ≡ Some u.rule = gives_named ast.rules q u.rule apart u.is_rule u.is_named in
    let numbers : numbers_under ast q ≡ u.rule.productions = ap (λ o. option_map_or (λ (r : RuleAst). r.productions) o []) found in
    let here : Contains (production_symbols ast.productions u.number) s = subst (λ o. Contains (option_map_or (λ (p : ProductionAst). p.symbols) o []) s) (sym u.at) u.stands in
    let all : Contains (symbols_of_all ast.productions u.rule.productions) s = gives_flat (production_symbols ast.productions) u.rule.productions s u.number u.is_its here in
    subst (λ ns. Contains (symbols_of_all ast.productions ns) s) (sym numbers) all

pub gives_uses : (ast : Ast) (q : List ℕ) (s : SymbolAst) → Contains (symbols_under ast q) s → Uses ast q s
gives_uses ast q s h = by (rule_named ast.rules q) refl h
  where
    at : (r : RuleAst) → rule_named ast.rules q ≡ Some r → (n : ℕ) → Contains r.productions n → (o : Option ProductionAst) → slice_get ast.productions n ≡ o → Contains (option_map_or (λ (p : ProductionAst). p.symbols) o []) s → Uses ast q s
    at r e n i None f g = absurd (member_none s g)
    at r e n i (Some p) f g =
        let k = named_gives ast.rules q r e in
        record { rule = r; is_rule = k.0; is_named = k.1; number = n; is_its = i; production = p; at = f; stands = g }

    by : (o : Option RuleAst) → rule_named ast.rules q ≡ o → Contains (symbols_of_all ast.productions (option_map_or (λ (r : RuleAst). r.productions) o [])) s → Uses ast q s
    by None e g = absurd (member_none s g)
    by (Some r) e g =
        let k = flat_gives (production_symbols ast.productions) r.productions s g in
        at r e k.0 k.1 (slice_get ast.productions k.0) refl k.2

-- a look-up in the map of rules
pub found_named : (es : List (String Global × RuleEntry)) (q : List ℕ) → option_map (λ (r : RuleEntry). r.pidxs.items) (lookup (λ (k : String Global). bytes_eq q (string_bytes k)) es) ≡ option_map (λ (r : RuleAst). r.productions) (rule_named (map named_rule es) q)
found_named [] q = refl
found_named (e ∷ es) q = by (bytes_eq q (string_bytes e.0)) (found_named es q)
  where
    by : (b : Bool) → option_map (λ (r : RuleEntry). r.pidxs.items) (lookup (λ (k : String Global). bytes_eq q (string_bytes k)) es) ≡ option_map (λ (r : RuleAst). r.productions) (rule_named (map named_rule es) q)
        → option_map (λ (r : RuleEntry). r.pidxs.items) (if b then Some e.1 else lookup (λ (k : String Global). bytes_eq q (string_bytes k)) es) ≡ option_map (λ (r : RuleAst). r.productions) (if b then Some (named_rule e) else rule_named (map named_rule es) q)
    by true rest = refl
    by false rest = rest

pub found_none : (o : Option RuleEntry) → is_some o ≡ false → None ≡ option_map (λ (r : RuleEntry). r.pidxs.items) o
found_none None h = refl
found_none (Some r) h = absurd (true≢false h)

-- keys of which no two are equal, seen as something else
module _ {A B : Type 0} (f : A → B) (same : B → B → Bool) where
  apart_map : (x : A) (xs : List A) → AllByRecursion (λ y. same (f x) (f y) ≡ false) xs → AllByRecursion (λ y. same (f x) y ≡ false) (map f xs)
  apart_map x [] h = tt
  apart_map x (y ∷ ys) h = (h.0, apart_map x ys h.1)

  pub distinct_map : (xs : List A) → IsDistinct (λ x y. same (f x) (f y)) xs → IsDistinct same (map f xs)
  unfolding IsDistinct
  distinct_map [] h = tt
  distinct_map (x ∷ xs) h = (apart_map x xs h.0, distinct_map xs h.1)

pub rule_names_of : (es : List (String Global × RuleEntry)) → map (λ (r : RuleAst). r.name.text) (map named_rule es) ≡ map string_bytes (keys_of es)
rule_names_of [] = refl
rule_names_of (e ∷ es) = ap (λ l. string_bytes e.0 ∷ l) (rule_names_of es)

-- one more symbol of a list of them
pub symbols_more : (wanted : SymbolAst → Bool) (names : List (List ℕ)) (xs : List Symbol) (i : ℕ) (x : Symbol) → i < length xs → x ≡ get_or xs i x
    → with_symbol_names wanted names (map ast_symbol_of (take (i + 1) xs)) ≡ with_symbol_name wanted (with_symbol_names wanted names (map ast_symbol_of (take i xs))) (ast_symbol_of x)
symbols_more wanted names xs i x l is =
    let more : take (i + 1) xs ≡ take i xs ++ x ∷ [] = take_more xs i x l ∙ ap (λ y. take i xs ++ y ∷ []) (sym is) in
    ap (λ ys. with_symbol_names wanted names (map ast_symbol_of ys)) more
    ∙ ap (with_symbol_names wanted names) (map-append ast_symbol_of (take i xs) (x ∷ []))
    ∙ fold_push (with_symbol_name wanted) names (map ast_symbol_of (take i xs)) (ast_symbol_of x)

-- one more production
pub numbers_more : (wanted : SymbolAst → Bool) (names : List (List ℕ)) (ps : List ProductionAst) (ns : List ℕ) (i : ℕ) → i < length ns
    → with_symbol_names wanted names (symbols_of_all ps (take (i + 1) ns)) ≡ with_symbol_names wanted (with_symbol_names wanted names (symbols_of_all ps (take i ns))) (production_symbols ps (get_or ns i 0))
numbers_more wanted names ps ns i l =
    ap (λ ms. with_symbol_names wanted names (symbols_of_all ps ms)) (take_more ns i 0 l)
    ∙ ap (with_symbol_names wanted names) (flat_more (take i ns) (get_or ns i 0))
    ∙ fold-append (with_symbol_name wanted) names (symbols_of_all ps (take i ns)) (production_symbols ps (get_or ns i 0))
  where
    flat_more : (ms : List ℕ) (n : ℕ) → flat_map (production_symbols ps) (ms ++ n ∷ []) ≡ flat_map (production_symbols ps) ms ++ production_symbols ps n
    flat_more [] n = append-nil (production_symbols ps n)
    flat_more (m ∷ ms) n = ap (λ l. production_symbols ps m ++ l) (flat_more ms n) ∙ sym (append_assoc (production_symbols ps m) (flat_map (production_symbols ps) ms) (production_symbols ps n))

pub added : (keys all : List (Bor (List ℕ))) (k : Bor (List ℕ)) (names : List (List ℕ)) (t : List ℕ) → all ≡ (if list_any (λ (y : Bor (List ℕ)). bytes_eq k.now y.now) keys then keys else keys ++ k ∷ [])
    → map (λ (x : Bor (List ℕ)). x.now) keys ≡ names → k.now ≡ t → map (λ (x : Bor (List ℕ)). x.now) all ≡ with_name names t
added keys all k names t is same text =
    ap (map (λ (x : Bor (List ℕ)). x.now)) is ∙ name_more keys k ∙ ap (λ ns. with_name ns k.now) same ∙ ap (with_name names) text

-- the symbols of a production that is looked up
pub symbols_found : (items : List Production) (ps : List ProductionAst) (n : ℕ) (o : Option Production) → map production_of items ≡ ps → slice_get items n ≡ o
    → option_map_or (λ (p : Production). (production_of p).symbols) o [] ≡ production_symbols ps n
symbols_found items ps n o same at =
    by o
    ∙ ap (λ v. option_map_or (λ (p : ProductionAst). p.symbols) v []) (sym (slice_get-map production_of items n ∙ ap (option_map production_of) at))
    ∙ ap (λ qs. production_symbols qs n) same
  where
    by : (o : Option Production) → option_map_or (λ (p : Production). (production_of p).symbols) o [] ≡ option_map_or (λ (p : ProductionAst). p.symbols) (option_map production_of o) []
    by None = refl
    by (Some p) = refl

-- one more warning, where it is wanted
pub told_more : (kind : WarningKind) (ws all : List WarningText) (b : Bool) (w : WordText) (rest : List WordText) → all ≡ ws ++ (if b then record { kind = kind; spans = w.span ∷ [] } ∷ [] else [])
    → all ++ warnings_at kind rest ≡ ws ++ warnings_at kind (if b then w ∷ rest else rest)
told_more kind ws all true w rest is = ap (λ l. l ++ warnings_at kind rest) is ∙ append_assoc ws (record { kind = kind; spans = w.span ∷ [] } ∷ []) (warnings_at kind rest)
told_more kind ws all false w rest is = ap (λ l. l ++ warnings_at kind rest) (is ∙ append-nil ws)

-- a tree with other rules, and with other tokens
abbrev pub with_rules : Ast → List RuleAst → Ast
with_rules ast rs = record ast { rules = rs }

abbrev pub with_tokens : Ast → List WordText → Ast
with_tokens ast ws = record ast { tokens = ws }
