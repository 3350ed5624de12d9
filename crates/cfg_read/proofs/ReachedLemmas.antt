-- Which rules are reached, and which tokens used, by a list of names that grows.
use Rattle.std.proofs.Common.{◌≡◌, ℕ, ◌+◌, ◌<◌, ◌≤◌, Bool, true, false, not, ◌&&◌, ◌||◌, List, [], ◌++◌, map, length, get_or, slice_get, Option, None, Some, option_map, option_to_list, Bor, refl, sym, ap, ◌∙◌, subst, arith, true≢false, ◌⊎◌, inl, inr}
use Rattle.std.specs.List.{Contains, list_any, flat_map, IsDistinct}
use Rattle.std.specs.Str.{bytes_eq}
use Rattle.std.proofs.lemmas.Cmp.{nat_list_eq_equiv}
use Rattle.std.proofs.lemmas.List.{get_or_append_left, length-append}
use Rattle.std.proofs.lemmas.List.Folds.{list_any-append}
use Rattle.std.proofs.lemmas.Map.Made.{length-le_from_is_member}
use Rattle.std.proofs.lemmas.Option.{slice_get_within, slice_get-get_or, slice_get-map}
use Rattle.std.proofs.lemmas.Slice.Eq.{bytes_eq-Decides}
use Rattle.cfg_read.specs.SyntaxTexts.{WordText}
use Rattle.cfg_read.specs.Asts.{Ast, ProductionAst, SymbolAst}
use Rattle.cfg_read.specs.Warnings.{Uses, IsReached, IsUsed}
use Rattle.cfg_read.specs.Warnings.{at_start, in_reached}
use Rattle.cfg_read.specs.WarningModels.{with_symbol_names, is_rule_symbol, is_token_symbol, symbols_under, rule_names, start_names}
use Rattle.cfg_read.proofs.NameLemmas.{any_map}
use Rattle.cfg_read.proofs.Members.{member_at, at_member, any_gives, gives_any, gives_flat}
use Rattle.cfg_read.proofs.WarningLemmas.{has, has_symbols, kept_symbols, names_it, uses_gives, gives_uses}

same_text : (a b : List ℕ) → bytes_eq a b ≡ true → a ≡ b
same_text a b e = (bytes_eq-Decides a b).0 e

text_same : (a b : List ℕ) → a ≡ b → bytes_eq a b ≡ true
text_same a b e = (bytes_eq-Decides a b).1 e

either : (a b : Bool) → (a || b) ≡ true → (a ≡ true) ⊎ (b ≡ true)
either true b e = inl refl
either false b e = inr e

or_one : (a b : Bool) → a ≡ true → (a || b) ≡ true
or_one a b e = ap (λ (c : Bool). c || b) e

or_other : (a b : Bool) → b ≡ true → (a || b) ≡ true
or_other true b e = refl
or_other false b e = e

and_one : (a b : Bool) → (a && b) ≡ true → a ≡ true
and_one true b e = refl
and_one false b e = e

and_other : (a b : Bool) → (a && b) ≡ true → b ≡ true
and_other true b e = e
and_other false b e = absurd (true≢false (sym e))

both : (a b : Bool) → a ≡ true → b ≡ true → (a && b) ≡ true
both a b e f = ap (λ (c : Bool). c && b) e ∙ f

flipped : (a : Bool) → not a ≡ true → a ≡ false
flipped true e = sym e
flipped false e = refl

-- a name of a list and its index
pub at_gives : (names : List (List ℕ)) (i : ℕ) (q : List ℕ) → slice_get names i ≡ Some q → has names q ≡ true
at_gives names i q e = gives_any (bytes_eq q) names q (member_at names i q e) (text_same q q refl)

has_gives : (names : List (List ℕ)) (q : List ℕ) → has names q ≡ true → (i : ℕ) × (i < length names) × (slice_get names i ≡ Some q)
has_gives names q h =
    let g = any_gives (bytes_eq q) names h in
    let k = at_member names g.0 g.1 in
    (k.0, k.1, k.2 ∙ ap Some (sym (same_text q g.0 g.2)))

-- an item of a list of names
pub item_there : (keys items : List (Bor (List ℕ))) (i : ℕ) (d : Bor (List ℕ)) → items ≡ keys → i < length items → slice_get (map (λ (k : Bor (List ℕ)). k.now) keys) i ≡ Some (get_or items i d).now
item_there keys items i d same l =
    ap (λ (ks : List (Bor (List ℕ))). slice_get (map (λ (k : Bor (List ℕ)). k.now) ks) i) (sym same)
    ∙ slice_get-map (λ (k : Bor (List ℕ)). k.now) items i
    ∙ ap (option_map (λ (k : Bor (List ℕ)). k.now)) (slice_get-get_or items i d l)

some_same : (a b : List ℕ) → Some a ≡ Some b → a ≡ b
some_same a b e = cc

-- the index of a name stays where names go behind
stays : (names more all : List (List ℕ)) (i : ℕ) → all ≡ names ++ more → i < length names → slice_get all i ≡ slice_get names i
stays names more all i e l =
    let longer : i < length (names ++ more) = omega (arith, length-append names more) in
    ap (λ (ns : List (List ℕ)). slice_get ns i) e
    ∙ slice_get-get_or (names ++ more) i [] longer
    ∙ ap Some (get_or_append_left names more [] i l)
    ∙ sym (slice_get-get_or names i [] l)

-- The names so far: the start rule's, and those that the first `at` of them lead to.
pub record Walked (ast : Ast) (names : List (List ℕ)) (at : ℕ) : Type 0 where
  pub started : (w : WordText) → ast.start ≡ Some w → has names w.text ≡ true
  pub reached : (q : List ℕ) → has names q ≡ true → IsReached ast q
  pub closed : (k : ℕ) (q : List ℕ) (s : SymbolAst) → k < at → slice_get names k ≡ Some q → Uses ast q s → s.is_token ≡ false → has names s.word.text ≡ true

abbrev names_of : Option WordText → List (List ℕ)
names_of o = map (λ (w : WordText). w.text) (option_to_list o)

pub walk_start : (ast : Ast) (names : List (List ℕ)) → names ≡ start_names ast → Walked ast names 0
walk_start ast names same = subst (λ ns. Walked ast ns 0) (sym same) (record {
  started = λ w e. subst (λ o. has (names_of o) w.text ≡ true) (sym e) (or_one (bytes_eq w.text w.text) false (text_same w.text w.text refl));
  reached = λ q h. by q ast.start refl h;
  closed = λ k q s l e u n. absurd (omega (arith, l));
})
  where
    by : (q : List ℕ) (o : Option WordText) → ast.start ≡ o → has (names_of o) q ≡ true → IsReached ast q
    by q None e h = absurd (true≢false (sym h))
    by q (Some w) e h = subst (IsReached ast) (sym (same_text q w.text (found (bytes_eq q w.text) h))) (at_start e)
      where
        found : (b : Bool) → (b || false) ≡ true → b ≡ true
        found true t = refl
        found false t = t

module _ (ast : Ast) (names : List (List ℕ)) (at : ℕ) (q : List ℕ) (apart : IsDistinct bytes_eq (rule_names ast)) (there : slice_get names at ≡ Some q) where
  abbrev grown : List (List ℕ)
  grown = with_symbol_names is_rule_symbol names (symbols_under ast q)

  abbrev led : List ℕ → Bool
  led t = list_any (names_it is_rule_symbol t) (symbols_under ast q)

  grows : (t : List ℕ) → has names t ≡ true → has grown t ≡ true
  grows t h = has_symbols is_rule_symbol names (symbols_under ast q) t ∙ or_one (has names t) (led t) h

  pub walk_step : Walked ast names at → Walked ast grown (at + 1)
  walk_step w = record {
    started = λ v e. grows v.text (w.started v e);
    reached = λ t h. from t (either (has names t) (led t) (sym (has_symbols is_rule_symbol names (symbols_under ast q) t) ∙ h));
    closed = λ k t s l e u n. next k t s e u n (split k at l);
  }
    where
      from : (t : List ℕ) → (has names t ≡ true) ⊎ (led t ≡ true) → IsReached ast t
      from t (inl h) = w.reached t h
      from t (inr h) =
          let g = any_gives (names_it is_rule_symbol t) (symbols_under ast q) h in
          let rule : g.0.is_token ≡ false = flipped g.0.is_token (and_one (not g.0.is_token) (bytes_eq t g.0.word.text) g.2) in
          let text : t ≡ g.0.word.text = same_text t g.0.word.text (and_other (not g.0.is_token) (bytes_eq t g.0.word.text) g.2) in
          subst (IsReached ast) (sym text) (in_reached (w.reached q (at_gives names at q there)) (gives_uses ast q g.0 g.1) rule)

      split : (k n : ℕ) → k < n + 1 → (k < n) ⊎ (k ≡ n)
      split k n l = grind arith

      inside : (k : ℕ) → k < length names → slice_get grown k ≡ slice_get names k
      inside k l = let m = kept_symbols is_rule_symbol names (symbols_under ast q) in stays names m.0 grown k m.1 l

      next : (k : ℕ) (t : List ℕ) (s : SymbolAst) → slice_get grown k ≡ Some t → Uses ast t s → s.is_token ≡ false → (k < at) ⊎ (k ≡ at) → has grown s.word.text ≡ true
      next k t s e u n (inl l) =
          let front : k < length names = omega (arith, slice_get_within names at q there, l) in
          grows s.word.text (w.closed k t s l (sym (inside k front) ∙ e) u n)
      next k t s e u n (inr is) =
          let front : at < length names = slice_get_within names at q there in
          let same : t ≡ q = some_same t q (sym e ∙ ap (slice_get grown) is ∙ inside at front ∙ there) in
          let rule : not s.is_token ≡ true = ap not n in
          let led_to : led s.word.text ≡ true = gives_any (names_it is_rule_symbol s.word.text) (symbols_under ast q) s (uses_gives ast q s apart (subst (λ v. Uses ast v s) same u)) (both (not s.is_token) (bytes_eq s.word.text s.word.text) rule (text_same s.word.text s.word.text refl)) in
          has_symbols is_rule_symbol names (symbols_under ast q) s.word.text ∙ or_other (has names s.word.text) (led s.word.text) led_to

-- where no name is left
pub walk_end : (ast : Ast) (names : List (List ℕ)) (at : ℕ) → Walked ast names at → length names ≤ at → (q : List ℕ) → IsReached ast q → has names q ≡ true
walk_end ast names at w l q (at_start {w = v} e) = w.started v e
walk_end ast names at w l q (in_reached {name} {s} r u n) =
    let k = has_gives names name (walk_end ast names at w l name r) in
    w.closed k.0 name s (omega (arith, k.1, l)) k.2 u n

-- The names that there are: the start rule's, and those that stand in productions.
abbrev pub all_names : Ast → List (List ℕ)
all_names ast = start_names ast ++ map (λ (s : SymbolAst). s.word.text) (flat_map (λ (p : ProductionAst). p.symbols) ast.productions)

is_there : (ast : Ast) (q : List ℕ) → IsReached ast q → has (all_names ast) q ≡ true
is_there ast q (at_start {w} e) =
    let rest = map (λ (s : SymbolAst). s.word.text) (flat_map (λ (p : ProductionAst). p.symbols) ast.productions) in
    list_any-append (bytes_eq w.text) (start_names ast) rest
    ∙ or_one (has (start_names ast) w.text) (has rest w.text) (subst (λ o. has (names_of o) w.text ≡ true) (sym e) (or_one (bytes_eq w.text w.text) false (text_same w.text w.text refl)))
is_there ast q (in_reached {name} {s} r u n) =
    let all = flat_map (λ (p : ProductionAst). p.symbols) ast.productions in
    let rest = map (λ (s : SymbolAst). s.word.text) all in
    let stands : Contains all s = gives_flat (λ (p : ProductionAst). p.symbols) ast.productions s u.production (member_at ast.productions u.number u.production u.at) u.stands in
    list_any-append (bytes_eq s.word.text) (start_names ast) rest
    ∙ or_other (has (start_names ast) s.word.text) (has rest s.word.text) (any_map (λ (s : SymbolAst). s.word.text) (bytes_eq s.word.text) all ∙ gives_any (λ (v : SymbolAst). bytes_eq s.word.text v.word.text) all s stands (text_same s.word.text s.word.text refl))

pub walk_bound : (ast : Ast) (names : List (List ℕ)) (at : ℕ) → Walked ast names at → IsDistinct bytes_eq names → length names ≤ length (all_names ast)
walk_bound ast names at w apart = length-le_from_is_member nat_list_eq_equiv names (all_names ast) apart (λ q h. is_there ast q (w.reached q h))

-- The tokens so far: those that stand under the first `at` of these names.
pub record Gathered (ast : Ast) (reached tokens : List (List ℕ)) (at : ℕ) : Type 0 where
  pub used : (t : List ℕ) → has tokens t ≡ true → IsUsed ast t
  pub all : (k : ℕ) (q : List ℕ) (s : SymbolAst) → k < at → slice_get reached k ≡ Some q → Uses ast q s → s.is_token ≡ true → has tokens s.word.text ≡ true

pub gather_start : (ast : Ast) (reached : List (List ℕ)) → Gathered ast reached [] 0
gather_start ast reached = record {
  used = λ t h. absurd (true≢false (sym h));
  all = λ k q s l e u n. absurd (omega (arith, l));
}

module _ (ast : Ast) (reached tokens : List (List ℕ)) (at : ℕ) (q : List ℕ) (apart : IsDistinct bytes_eq (rule_names ast)) (there : slice_get reached at ≡ Some q) (is : IsReached ast q) where
  abbrev gathered : List (List ℕ)
  gathered = with_symbol_names is_token_symbol tokens (symbols_under ast q)

  abbrev held : List ℕ → Bool
  held t = list_any (names_it is_token_symbol t) (symbols_under ast q)

  pub gather_step : Gathered ast reached tokens at → Gathered ast reached gathered (at + 1)
  gather_step w = record {
    used = λ t h. from t (either (has tokens t) (held t) (sym (has_symbols is_token_symbol tokens (symbols_under ast q) t) ∙ h));
    all = λ k t s l e u n. next k t s e u n (split k at l);
  }
    where
      from : (t : List ℕ) → (has tokens t ≡ true) ⊎ (held t ≡ true) → IsUsed ast t
      from t (inl h) = w.used t h
      from t (inr h) =
          let g = any_gives (names_it is_token_symbol t) (symbols_under ast q) h in
          record {
            name = q;
            reached = is;
            symbol = g.0;
            uses = gives_uses ast q g.0 g.1;
            is_token = and_one g.0.is_token (bytes_eq t g.0.word.text) g.2;
            is_it = sym (same_text t g.0.word.text (and_other g.0.is_token (bytes_eq t g.0.word.text) g.2));
          }

      split : (k n : ℕ) → k < n + 1 → (k < n) ⊎ (k ≡ n)
      split k n l = grind arith

      next : (k : ℕ) (t : List ℕ) (s : SymbolAst) → slice_get reached k ≡ Some t → Uses ast t s → s.is_token ≡ true → (k < at) ⊎ (k ≡ at) → has gathered s.word.text ≡ true
      next k t s e u n (inl l) = has_symbols is_token_symbol tokens (symbols_under ast q) s.word.text ∙ or_one (has tokens s.word.text) (held s.word.text) (w.all k t s l e u n)
      next k t s e u n (inr here) =
          let same : t ≡ q = some_same t q (sym e ∙ ap (slice_get reached) here ∙ there) in
          let holds : held s.word.text ≡ true = gives_any (names_it is_token_symbol s.word.text) (symbols_under ast q) s (uses_gives ast q s apart (subst (λ v. Uses ast v s) same u)) (both s.is_token (bytes_eq s.word.text s.word.text) n (text_same s.word.text s.word.text refl)) in
          has_symbols is_token_symbol tokens (symbols_under ast q) s.word.text ∙ or_other (has tokens s.word.text) (held s.word.text) holds

pub gather_end : (ast : Ast) (reached tokens : List (List ℕ)) (at : ℕ) → Gathered ast reached tokens at → length reached ≤ at → ((q : List ℕ) → IsReached ast q → has reached q ≡ true) → (t : List ℕ) → IsUsed ast t → has tokens t ≡ true
gather_end ast reached tokens at w l all t u =
    let k = has_gives reached u.name (all u.name u.reached) in
    subst (λ v. has tokens v ≡ true) u.is_it (w.all k.0 u.name u.symbol (omega (arith, k.1, l)) k.2 u.uses u.is_token)
