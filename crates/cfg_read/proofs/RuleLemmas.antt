-- Rules of headings, and the numbers of their productions.
use Rattle.std.proofs.Common.{◌≡◌, ℕ, zero, suc, ◌+◌, ◌-◌, Bool, true, false, not, ◌||◌, List, [], ◌∷◌, ◌++◌, map, fold, length, if◌then◌else◌, cond, refl, sym, ap, ◌∙◌, arith, slice_get, Option, None, Some, option_map, is_some, true≢false, Bor}
use Rattle.std.specs.List.{flat_map, position_or_len, IsDistinct, AllByRecursion}
use Rattle.std.specs.Map.{keys_of, values_of, lookup}
use Rattle.std.specs.Option.{option_or, option_copied}
use Rattle.std.specs.Str.{bytes_eq}
use Rattle.std.specs.String.{string_bytes, string_eq}
use Rattle.std.specs.declared.alloc.Global.{Global}
use Rattle.std.specs.declared.string.String.{String}
use Rattle.std.proofs.lemmas.List.{append_assoc, append-nil, map-append}
use Rattle.std.proofs.lemmas.List.Sums.{fold_push, fold-append}
use Rattle.std.proofs.lemmas.Slice.Eq.{bytes_eq-Decides}
use Rattle.indexmap.specs.IndexMap.{set_value_at, insert_entry}
use Rattle.cfg_read.specs.declared.yacc.ast.Rule.{Rule}
use Rattle.cfg_read.specs.declared.yacc.parser.syntax.Word.{Word}
use Rattle.cfg_read.specs.SyntaxTexts.{WordText, RuleText, SyntaxText}
use Rattle.cfg_read.specs.Names.{is_named, is_among, with_distinct, distinct}
use Rattle.cfg_read.specs.FreshRules.{FreshText, fresh_of, fresh_words, rule_words}
use Rattle.cfg_read.specs.Asts.{RuleAst, heads, heads_in, fresh_heads, heading_type, last_text, text_of, rule_ast}
use Rattle.cfg_read.specs.AstModels.{named_rule}
use Rattle.cfg_read.specs.SyntaxModels.{word_of}
use Rattle.cfg_read.specs.AstBuild.{headed, blank_headings, fresh_rule, has_rule, with_first, with_numbers}
use Rattle.cfg_read.proofs.AstLemmas.{found_by}
use Rattle.cfg_read.proofs.Grouping.{or_left, or_right}
use Rattle.cfg_read.proofs.NameLemmas.{any_map, among_more, among_distinct}

both_true : (a b : Bool) → (a ≡ true → b ≡ true) → (b ≡ true → a ≡ true) → a ≡ b
both_true true b f g = sym (f refl)
both_true false true f g = g refl
both_true false false f g = refl

pub bytes_swap : (a b : List ℕ) → bytes_eq a b ≡ bytes_eq b a
bytes_swap a b = both_true (bytes_eq a b) (bytes_eq b a) (λ t. (bytes_eq-Decides b a).1 (sym ((bytes_eq-Decides a b).0 t))) (λ t. (bytes_eq-Decides a b).1 (sym ((bytes_eq-Decides b a).0 t)))

pub bytes_same : (a : List ℕ) → bytes_eq a a ≡ true
bytes_same a = (bytes_eq-Decides a a).1 refl

-- where a name stands among keys
abbrev pub place_in : List ℕ → List (String Global × Rule) → ℕ
place_in q es = position_or_len (λ (k : String Global). bytes_eq q (string_bytes k)) (keys_of es)

abbrev with_productions : RuleAst → List ℕ → RuleAst
with_productions r ps = record { name = r.name; productions = ps; action_type = r.action_type }

-- with more productions, if the rule has this name
abbrev pub with_more : List ℕ → List ℕ → RuleAst → RuleAst
with_more name ns r = record { name = r.name; productions = r.productions ++ (if bytes_eq name r.name.text then ns else []); action_type = r.action_type }

-- a rule of another name stays
other_stays : (q : List ℕ) (ns : List ℕ) (r : RuleAst) → bytes_eq q r.name.text ≡ false → r ≡ with_more q ns r
other_stays q ns r h = sym (ap (λ (b : Bool). with_productions r (r.productions ++ (if b then ns else []))) h ∙ ap (with_productions r) (append-nil r.productions))

others_stay : (k : String Global) (q : List ℕ) (ns : List ℕ) (es : List (String Global × Rule)) → q ≡ string_bytes k → AllByRecursion (λ y. string_eq k y ≡ false) (keys_of es)
    → map named_rule es ≡ map (with_more q ns) (map named_rule es)
others_stay k q ns [] same h = refl
others_stay k q ns (e ∷ es) same h =
    let apart : bytes_eq q (string_bytes e.0) ≡ false = ap (λ (t : List ℕ). bytes_eq t (string_bytes e.0)) same ∙ h.0 in
    ap (λ r. r ∷ map named_rule es) (other_stays q ns (named_rule e) apart) ∙ ap (λ l. with_more q ns (named_rule e) ∷ l) (others_stay k q ns es same h.1)

-- a name that no key has
pub unnumbered : (q : List ℕ) (ns : List ℕ) (es : List (String Global × Rule)) → is_some (lookup (λ (k : String Global). bytes_eq q (string_bytes k)) es) ≡ false
    → map named_rule es ≡ map (with_more q ns) (map named_rule es)
unnumbered q ns [] h = refl
unnumbered q ns (e ∷ es) h = by (bytes_eq q (string_bytes e.0)) refl h (unnumbered q ns es)
  where
    by : (b : Bool) → bytes_eq q (string_bytes e.0) ≡ b → is_some (cond b (Some e.1) (lookup (λ (k : String Global). bytes_eq q (string_bytes k)) es)) ≡ false
        → (is_some (lookup (λ (k : String Global). bytes_eq q (string_bytes k)) es) ≡ false → map named_rule es ≡ map (with_more q ns) (map named_rule es))
        → map named_rule (e ∷ es) ≡ map (with_more q ns) (map named_rule (e ∷ es))
    by true same t rest = absurd (true≢false t)
    by false apart t rest = ap (λ r. r ∷ map named_rule es) (other_stays q ns (named_rule e) apart) ∙ ap (λ l. with_more q ns (named_rule e) ∷ l) (rest t)

-- a rule with more productions
abbrev pub IsNumbered : List ℕ → Rule → Rule → Type 0
IsNumbered ns old new = (new.name ≡ old.name) × (new.pidxs.items ≡ old.pidxs.items ++ ns) × (new.actiont ≡ old.actiont)

same_value : (old new : Rule) → Some old ≡ Some new → old ≡ new
same_value old new e = cc

numbered_entry : (q : List ℕ) (ns : List ℕ) (k : String Global) (old new : Rule) → bytes_eq q (string_bytes k) ≡ true → IsNumbered ns old new → named_rule (k, new) ≡ with_more q ns (named_rule (k, old))
numbered_entry q ns k old new h is =
    ap (λ u. named_rule (k, record new { name = u })) is.0
    ∙ ap (λ u. named_rule (k, record new { name = old.name; actiont = u })) is.2
    ∙ ap (with_productions (named_rule (k, old))) is.1
    ∙ ap (λ (b : Bool). with_productions (named_rule (k, old)) (old.pidxs.items ++ (if b then ns else []))) (sym h)

pub numbered : (q : List ℕ) (ns : List ℕ) (old new : Rule) (es : List (String Global × Rule)) → IsDistinct string_eq (keys_of es) → slice_get (values_of es) (place_in q es) ≡ Some old → IsNumbered ns old new
    → map named_rule (set_value_at es (place_in q es) new) ≡ map (with_more q ns) (map named_rule es)
unfolding IsDistinct
numbered q ns old new [] apart at is = refl
numbered q ns old new (e ∷ es) apart at is = by (bytes_eq q (string_bytes e.0)) refl at (λ h. numbered q ns old new es apart.1 h is)
  where
    by : (b : Bool) → bytes_eq q (string_bytes e.0) ≡ b → slice_get (e.1 ∷ values_of es) (cond (not b) (1 + place_in q es) 0) ≡ Some old
        → (slice_get (values_of es) (place_in q es) ≡ Some old → map named_rule (set_value_at es (place_in q es) new) ≡ map (with_more q ns) (map named_rule es))
        → map named_rule (set_value_at (e ∷ es) (cond (not b) (1 + place_in q es) 0) new) ≡ map (with_more q ns) (map named_rule (e ∷ es))
    by true same h rest =
        let was : named_rule (e.0, e.1) ≡ named_rule (e.0, old) = ap (λ v. named_rule (e.0, v)) (same_value e.1 old h) in
        let here = numbered_entry q ns e.0 old new same is ∙ ap (with_more q ns) (sym was) in
        ap (λ r. r ∷ map named_rule es) here
        ∙ ap (λ l. with_more q ns (named_rule e) ∷ l) (others_stay e.0 q ns es ((bytes_eq-Decides q (string_bytes e.0)).0 same) apart.0)
    by false other h rest =
        let next : 1 + place_in q es ≡ suc (place_in q es) = omega arith in
        let at : slice_get (values_of es) (place_in q es) ≡ Some old = sym (ap (slice_get (e.1 ∷ values_of es)) next) ∙ h in
        ap (λ i. map named_rule (set_value_at (e ∷ es) i new)) next
        ∙ ap (λ r. r ∷ map named_rule (set_value_at es (place_in q es) new)) (other_stays q ns (named_rule e) other)
        ∙ ap (λ l. with_more q ns (named_rule e) ∷ l) (rest at)

-- the index that a look-up gives
pub index_is : (b : Bool) (p i : ℕ) → cond b (Some p) None ≡ Some i → p ≡ i
index_is true p i e = cc
index_is false p i e = absurd (true≢false (sym (ap is_some e)))

-- names and keys after a write
pub keys_stay : (es : List (String Global × Rule)) (i : ℕ) (new : Rule) → map (λ (e : String Global × Rule). string_bytes e.0) (set_value_at es i new) ≡ map (λ (e : String Global × Rule). string_bytes e.0) es
keys_stay [] i new = refl
keys_stay (e ∷ es) zero new = refl
keys_stay (e ∷ es) (suc i) new = ap (λ l. string_bytes e.0 ∷ l) (keys_stay es i new)

pub names_stay : (es : List (String Global × Rule)) (i : ℕ) (old new : Rule) → slice_get (values_of es) i ≡ Some old → new.name ≡ old.name
    → map (λ (e : String Global × Rule). string_bytes e.1.name.0) (set_value_at es i new) ≡ map (λ (e : String Global × Rule). string_bytes e.1.name.0) es
names_stay [] i old new at same = refl
names_stay (e ∷ es) zero old new at same =
    ap (λ u. string_bytes u.0 ∷ map (λ (e : String Global × Rule). string_bytes e.1.name.0) es) (same ∙ sym (ap (λ (v : Rule). v.name) (same_value e.1 old at)))
names_stay (e ∷ es) (suc i) old new at same = ap (λ l. string_bytes e.1.name.0 ∷ l) (names_stay es i old new at same)

-- the names of headings
abbrev names : List RuleText → List WordText
names rs = map (λ (r : RuleText). r.name) rs

module _ (x : SyntaxText) where
  abbrev shared : Option (List ℕ)
  shared = last_text x.action_types

  -- a rule without productions
  abbrev pub blank : List RuleText → WordText → RuleAst
  blank rs w = record { name = w; productions = []; action_type = heading_type x rs w.text }

  abbrev pub blanks : List RuleText → List RuleAst
  blanks rs = map (blank rs) (distinct (names rs))

  type_known : (done : List RuleText) (r : RuleText) (q : List ℕ) → is_among (names done) q ≡ true → heading_type x (done ++ r ∷ []) q ≡ heading_type x done q
  type_known [] r q h = absurd (true≢false (sym h))
  type_known (d ∷ done) r q h = by (bytes_eq d.name.text q) refl (type_known done r q)
    where
      own : Option (List ℕ)
      own = option_or (text_of d.action_type) shared

      by : (b : Bool) → bytes_eq d.name.text q ≡ b → (is_among (names done) q ≡ true → heading_type x (done ++ r ∷ []) q ≡ heading_type x done q)
          → (if b then own else heading_type x (done ++ r ∷ []) q) ≡ (if b then own else heading_type x done q)
      by true e rest = refl
      by false e rest = rest (ap (λ (b : Bool). b || is_among (names done) q) (sym (bytes_swap q d.name.text ∙ e)) ∙ h)

  type_new : (done : List RuleText) (r : RuleText) (q : List ℕ) → is_among (names done) q ≡ false → bytes_eq r.name.text q ≡ true → option_or (text_of r.action_type) shared ≡ heading_type x (done ++ r ∷ []) q
  type_new [] r q h same = ap (λ (b : Bool). if b then option_or (text_of r.action_type) shared else None) (sym same)
  type_new (d ∷ done) r q h same =
      let other : bytes_eq d.name.text q ≡ false = bytes_swap d.name.text q ∙ or_left (bytes_eq q d.name.text) (is_among (names done) q) h in
      type_new done r q (or_right (bytes_eq q d.name.text) (is_among (names done) q) h) same
      ∙ ap (λ (b : Bool). if b then option_or (text_of d.action_type) shared else heading_type x (done ++ r ∷ []) q) (sym other)

  or_true : (a b : Bool) → b ≡ true → (a || b) ≡ true
  or_true true b h = refl
  or_true false b h = h

  blanks_stay : (done : List RuleText) (r : RuleText) (vs : List WordText) → ((w : WordText) → is_among vs w.text ≡ true → is_among (names done) w.text ≡ true) → map (blank done) vs ≡ map (blank (done ++ r ∷ [])) vs
  blanks_stay done r [] f = refl
  blanks_stay done r (v ∷ vs) f =
      let here : is_among (v ∷ vs) v.text ≡ true = ap (λ (b : Bool). b || is_among vs v.text) (bytes_same v.text) in
      ap (λ t. (let b : RuleAst = record { name = v; productions = []; action_type = t } in b) ∷ map (blank done) vs) (sym (type_known done r v.text (f v here)))
      ∙ ap (λ l. blank (done ++ r ∷ []) v ∷ l) (blanks_stay done r vs (λ w h. f w (or_true (bytes_eq w.text v.text) (is_among vs w.text) h)))

  has_blank : (done : List RuleText) (vs : List WordText) (q : List ℕ) → has_rule (map (blank done) vs) q ≡ is_among vs q
  has_blank done vs q = any_map (blank done) (λ (r : RuleAst). bytes_eq q r.name.text) vs

  step : (done : List RuleText) (r : RuleText) → with_first (blanks done) (headed shared r) ≡ blanks (done ++ r ∷ [])
  step done r =
      ap (λ (b : Bool). if b then blanks done else blanks done ++ headed shared r ∷ []) (has_blank done vs q)
      ∙ by (is_among vs q) refl
      ∙ sym (ap (map (blank (done ++ r ∷ []))) (ap distinct (map-append (λ (r : RuleText). r.name) done (r ∷ [])) ∙ fold_push with_distinct [] (names done) r.name))
    where
      vs : List WordText
      vs = distinct (names done)

      q : List ℕ
      q = r.name.text

      all : map (blank done) vs ≡ map (blank (done ++ r ∷ [])) vs
      all = blanks_stay done r vs (λ w h. sym (among_distinct (names done) w.text) ∙ h)

      by : (b : Bool) → is_among vs q ≡ b → (if b then blanks done else blanks done ++ headed shared r ∷ []) ≡ map (blank (done ++ r ∷ [])) (if b then vs else vs ++ r.name ∷ [])
      by true e = all
      by false e =
          ap (λ l. l ++ headed shared r ∷ []) all
          ∙ ap (λ t. map (blank (done ++ r ∷ [])) vs ++ (let b : RuleAst = record { name = r.name; productions = []; action_type = t } in b) ∷ []) (type_new done r q (sym (among_distinct (names done) q) ∙ e) (bytes_same q))
          ∙ sym (map-append (blank (done ++ r ∷ [])) vs (r.name ∷ []))

  go : (acc : List RuleAst) (done more : List RuleText) → acc ≡ blanks done → fold with_first acc (map (headed shared) more) ≡ blanks (done ++ more)
  go acc done [] h = h ∙ ap blanks (sym (append-nil done))
  go acc done (r ∷ more) h =
      go (with_first acc (headed shared r)) (done ++ r ∷ []) more (ap (λ rs. with_first rs (headed shared r)) h ∙ step done r)
      ∙ ap blanks (append_assoc done (r ∷ []) more)

  pub headings_once : (rs : List RuleText) → fold with_first [] (map (headed shared) rs) ≡ blanks rs
  headings_once rs = go [] [] rs refl

  -- Fresh rules behind those of headings: they have no type, since no heading has their names.
  type_none : (rs : List RuleText) (q : List ℕ) → is_among (names rs) q ≡ false → heading_type x rs q ≡ None
  type_none [] q h = refl
  type_none (r ∷ rs) q h =
      let other : bytes_eq r.name.text q ≡ false = bytes_swap r.name.text q ∙ or_left (bytes_eq q r.name.text) (is_among (names rs) q) h in
      ap (λ (b : Bool). if b then option_or (text_of r.action_type) shared else heading_type x rs q) other
      ∙ type_none rs q (or_right (bytes_eq q r.name.text) (is_among (names rs) q) h)

  fresh_step : (rs : List RuleText) (vs : List WordText) (w : WordText) → ((q : List ℕ) → is_among vs q ≡ false → is_among (names rs) q ≡ false)
      → with_first (map (blank rs) vs) (fresh_rule w) ≡ map (blank rs) (with_distinct vs w)
  fresh_step rs vs w apart = ap (λ (b : Bool). if b then map (blank rs) vs else map (blank rs) vs ++ fresh_rule w ∷ []) (has_blank rs vs w.text) ∙ by (is_among vs w.text) refl
    where
      by : (b : Bool) → is_among vs w.text ≡ b → (if b then map (blank rs) vs else map (blank rs) vs ++ fresh_rule w ∷ []) ≡ map (blank rs) (if b then vs else vs ++ w ∷ [])
      by true e = refl
      by false e =
          ap (λ t. map (blank rs) vs ++ (let b : RuleAst = record { name = w; productions = []; action_type = t } in b) ∷ []) (sym (type_none rs w.text (apart w.text e)))
          ∙ sym (map-append (blank rs) vs (w ∷ []))

  fresh_go : (rs : List RuleText) (ws vs : List WordText) → ((q : List ℕ) → is_among vs q ≡ false → is_among (names rs) q ≡ false)
      → fold with_first (map (blank rs) vs) (map fresh_rule ws) ≡ map (blank rs) (fold with_distinct vs ws)
  fresh_go rs [] vs apart = refl
  fresh_go rs (w ∷ ws) vs apart =
      ap (λ l. fold with_first l (map fresh_rule ws)) (fresh_step rs vs w apart)
      ∙ fresh_go rs ws (with_distinct vs w) (λ q h. apart q (or_left (is_among vs q) (is_named q w) (sym (among_more vs w q) ∙ h)))

  pub fresh_behind : (ws : List WordText) → fold with_first (fold with_first [] (map (headed shared) x.rules)) (map fresh_rule ws) ≡ map (blank x.rules) (distinct (names x.rules ++ ws))
  fresh_behind ws =
      ap (λ l. fold with_first l (map fresh_rule ws)) (headings_once x.rules)
      ∙ fresh_go x.rules ws (distinct (names x.rules)) (λ q h. sym (among_distinct (names x.rules) q) ∙ h)
      ∙ ap (map (blank x.rules)) (sym (fold-append with_distinct [] (names x.rules) ws))

  pub blanks_numbered : (vs : List WordText) → map (with_numbers (heads x)) (map (blank x.rules) vs) ≡ map (rule_ast x) vs
  blanks_numbered [] = refl
  blanks_numbered (v ∷ vs) = ap (λ l. rule_ast x v ∷ l) (blanks_numbered vs)

-- The rules with their numbers are those of the text.
pub rules_made : (x : SyntaxText) (fs : List FreshText) (made : List RuleAst) (hs : List (List ℕ)) → fs ≡ fresh_of x → made ≡ fold with_first (blank_headings x) (map fresh_rule (map (λ (f : FreshText). f.word) fs))
    → hs ≡ flat_map heads_in x.rules ++ flat_map fresh_heads fs → map (with_numbers hs) made ≡ map (rule_ast x) (rule_words x)
rules_made x fs made hs fresh blank_ones numbers =
    ap (λ l. map (with_numbers l) made) (numbers ∙ ap (λ (l : List FreshText). flat_map heads_in x.rules ++ flat_map fresh_heads l) fresh)
    ∙ ap (map (with_numbers (heads x))) (blank_ones ∙ ap (λ (l : List FreshText). fold with_first (blank_headings x) (map fresh_rule (map (λ (f : FreshText). f.word) l))) fresh ∙ fresh_behind x (fresh_words x))
    ∙ blanks_numbered x (rule_words x)

-- a name that no key has goes last
pub entries_new : (q : List ℕ) (k : String Global) (v : Rule) (es : List (String Global × Rule)) → string_bytes k ≡ q → is_some (lookup (λ (k : String Global). bytes_eq q (string_bytes k)) es) ≡ false
    → insert_entry string_eq es k v ≡ es ++ (k, v) ∷ []
entries_new q k v [] same h = refl
entries_new q k v (e ∷ es) same h = by (bytes_eq q (string_bytes e.0)) refl h (entries_new q k v es same)
  where
    by : (b : Bool) → bytes_eq q (string_bytes e.0) ≡ b → is_some (cond b (Some e.1) (lookup (λ (k : String Global). bytes_eq q (string_bytes k)) es)) ≡ false
        → (is_some (lookup (λ (k : String Global). bytes_eq q (string_bytes k)) es) ≡ false → insert_entry string_eq es k v ≡ es ++ (k, v) ∷ [])
        → (if string_eq k e.0 then (e.0, v) ∷ es else e ∷ insert_entry string_eq es k v) ≡ (e ∷ es) ++ (k, v) ∷ []
    by true e0 t rest = absurd (true≢false t)
    by false e0 t rest =
        ap (λ (b : Bool). if b then (e.0, v) ∷ es else e ∷ insert_entry string_eq es k v) (ap (λ (u : List ℕ). bytes_eq u (string_bytes e.0)) same ∙ e0)
        ∙ ap (λ l. e ∷ l) (rest t)

abbrev pub with_text : List ℕ → RuleAst → RuleAst
with_text t r = record { name = record { text = t; span = r.name.span }; productions = r.productions; action_type = r.action_type }

-- whether a rule is there
pub found_rule : (es : List (String Global × Rule)) (q : List ℕ) → is_some (lookup (λ (k : String Global). bytes_eq q (string_bytes k)) es) ≡ has_rule (map named_rule es) q
found_rule es q = found_by named_rule (λ (r : RuleAst). r.name.text) (λ e. refl) es q

-- the last of these words
pub last_is : (ws : List Word) → text_of (option_map word_of (slice_get ws (length ws - 1))) ≡ last_text (map word_of ws)
last_is [] = refl
last_is (w ∷ []) = refl
last_is (w ∷ v ∷ ws) =
    let next : length (w ∷ v ∷ ws) - 1 ≡ suc (length (v ∷ ws) - 1) = omega arith in
    ap (λ n. text_of (option_map word_of (slice_get (w ∷ v ∷ ws) n))) next ∙ last_is (v ∷ ws)

pub word_there : (o : Option (Bor Word)) → option_map (λ (w : Bor Word). word_of w.now) o ≡ option_map word_of (option_copied o)
word_there None = refl
word_there (Some w) = refl

pub copied_is_some : {A : Type 0} (o : Option (Bor A)) → is_some o ≡ is_some (option_copied o)
copied_is_some None = refl
copied_is_some (Some a) = refl

-- the key of a rule in a map, and the name that it has itself
abbrev pub both_names : String Global × Rule → List ℕ × List ℕ
both_names e = (string_bytes e.0, string_bytes e.1.name.0)

pub own_of_both : (es : List (String Global × Rule)) → map (λ (e : String Global × Rule). string_bytes e.1.name.0) es ≡ map (λ (x : List ℕ × List ℕ). x.1) (map both_names es)
own_of_both [] = refl
own_of_both (e ∷ es) = ap (λ l. string_bytes e.1.name.0 ∷ l) (own_of_both es)

pub key_of_both : (es : List (String Global × Rule)) → map (λ (e : String Global × Rule). string_bytes e.0) es ≡ map (λ (x : List ℕ × List ℕ). x.0) (map both_names es)
key_of_both [] = refl
key_of_both (e ∷ es) = ap (λ l. string_bytes e.0 ∷ l) (key_of_both es)
