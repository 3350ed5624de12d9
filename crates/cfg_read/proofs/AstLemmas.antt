-- A map from names to indices, with one more name.
use Rattle.std.proofs.lemmas.List.{append-nil, append_assoc}
use Rattle.std.proofs.lemmas.List.Sums.{fold-append}
use Rattle.cfg_read.specs.Asts.{level_precedences, precedences_at, precedences_of, with_precedence_of}
use Rattle.std.proofs.Common.{suc, ◌+◌, length, fold, arith, ◌≡◌, ℕ, Bool, true, false, not, ◌||◌, List, [], ◌∷◌, ◌++◌, map, is_some, cond, Option, None, Some, if◌then◌else◌, refl, sym, ap, ◌∙◌}
use Rattle.std.specs.List.{list_any, position_or_len}
use Rattle.std.specs.Map.{lookup, keys_of}
use Rattle.std.specs.Str.{bytes_eq}
use Rattle.std.specs.String.{string_bytes, string_eq}
use Rattle.std.specs.declared.alloc.Global.{Global}
use Rattle.std.specs.declared.string.String.{String}
use Rattle.indexmap.specs.IndexMap.{insert_entry, set_value_at}
use Rattle.cfg_base.specs.SpanModel.{SpanModel}
use Rattle.cfg_read.specs.SyntaxTexts.{WordText, LevelText}
use Rattle.cfg_read.specs.Names.{is_among, with_distinct}
use Rattle.cfg_read.specs.AstModels.{named_span}
use Rattle.cfg_read.proofs.Grouping.{or_left, or_right}

module _ {X Y : Type 0} (f : String Global × X → Y) (name : Y → List ℕ) (named : (e : String Global × X) → name (f e) ≡ string_bytes e.0) where
  -- what a look-up answers
  pub found_by : (es : List (String Global × X)) (q : List ℕ) → is_some (lookup (λ (k : String Global). bytes_eq q (string_bytes k)) es) ≡ list_any (λ (y : Y). bytes_eq q (name y)) (map f es)
  found_by [] q = refl
  found_by (e ∷ es) q = by (bytes_eq q (string_bytes e.0)) (found_by es q) ∙ ap (λ (t : List ℕ). bytes_eq q t || list_any (λ (y : Y). bytes_eq q (name y)) (map f es)) (sym (named e))
    where
      by : (b : Bool) → is_some (lookup (λ (k : String Global). bytes_eq q (string_bytes k)) es) ≡ list_any (λ (y : Y). bytes_eq q (name y)) (map f es)
          → is_some (cond b (Some e.1) (lookup (λ (k : String Global). bytes_eq q (string_bytes k)) es)) ≡ (b || list_any (λ (y : Y). bytes_eq q (name y)) (map f es))
      by true rest = refl
      by false rest = rest

  -- a new name goes last
  pub insert_by : (es : List (String Global × X)) (k : String Global) (v : X) (q : List ℕ) → string_bytes k ≡ q → list_any (λ (y : Y). bytes_eq q (name y)) (map f es) ≡ false
      → map f (insert_entry string_eq es k v) ≡ map f es ++ f (k, v) ∷ []
  insert_by [] k v q same h = refl
  insert_by (e ∷ es) k v q same h =
      let apart : string_eq k e.0 ≡ false = ap (λ (t : List ℕ). bytes_eq t (string_bytes e.0)) same ∙ ap (bytes_eq q) (sym (named e)) ∙ or_left (bytes_eq q (name (f e))) (list_any (λ (y : Y). bytes_eq q (name y)) (map f es)) h in
      let rest = insert_by es k v q same (or_right (bytes_eq q (name (f e))) (list_any (λ (y : Y). bytes_eq q (name y)) (map f es)) h) in
      ap (λ (b : Bool). map f (if b then (e.0, v) ∷ es else e ∷ insert_entry string_eq es k v)) apart
      ∙ ap (λ (l : List Y). f e ∷ l) rest

  same_value : (x y : X) → Some x ≡ Some y → y ≡ x
  same_value x y e = cc

  -- a value that is put back in its place
  pub put_back : (es : List (String Global × X)) (k : String Global) (v old : X) → lookup (string_eq k) es ≡ Some old
      → map f (set_value_at (insert_entry string_eq es k v) (position_or_len (string_eq k) (keys_of es)) old) ≡ map f es
  put_back [] k v old h = cc
  put_back (e ∷ es) k v old h = by (string_eq k e.0) h (put_back es k v old)
    where
      by : (b : Bool) → cond b (Some e.1) (lookup (string_eq k) es) ≡ Some old
          → (lookup (string_eq k) es ≡ Some old → map f (set_value_at (insert_entry string_eq es k v) (position_or_len (string_eq k) (keys_of es)) old) ≡ map f es)
          → map f (set_value_at (if b then (e.0, v) ∷ es else e ∷ insert_entry string_eq es k v) (cond (not b) (1 + position_or_len (string_eq k) (keys_of es)) 0) old) ≡ map f (e ∷ es)
      by true is rest = ap (λ (x : X). f (e.0, x) ∷ map f es) (same_value e.1 old is)
      by false is rest =
          let next : 1 + position_or_len (string_eq k) (keys_of es) ≡ suc (position_or_len (string_eq k) (keys_of es)) = omega arith in
          ap (λ (n : ℕ). map f (set_value_at (e ∷ insert_entry string_eq es k v) n old)) next ∙ ap (λ (l : List Y). f e ∷ l) (rest is)

-- a look-up that answers nothing
pub none_of : {X : Type 0} (o : Option X) → ((x : X) → o ≡ Some x → ⊥) → is_some o ≡ false
none_of None h = refl
none_of (Some x) h = absurd (h x refl)

pub found_among : (es : List (String Global × SpanModel)) (q : List ℕ) → is_some (lookup (λ (k : String Global). bytes_eq q (string_bytes k)) es) ≡ is_among (map named_span es) q
found_among es q = found_by named_span (λ (w : WordText). w.text) (λ e. refl) es q

pub insert_new : (es : List (String Global × SpanModel)) (k : String Global) (w : WordText) → string_bytes k ≡ w.text → is_among (map named_span es) w.text ≡ false
    → map named_span (insert_entry string_eq es k w.span) ≡ map named_span es ++ w ∷ []
insert_new es k w same h =
    insert_by named_span (λ (v : WordText). v.text) (λ e. refl) es k w.span w.text same h
    ∙ ap (λ (t : List ℕ). map named_span es ++ (let v : WordText = record { text = t; span = w.span } in v) ∷ []) same

-- a name that wasn't there, and one that was
pub distinct_new : (vs : List WordText) (w : WordText) → is_among vs w.text ≡ false → vs ++ w ∷ [] ≡ with_distinct vs w
distinct_new vs w h = ap (λ (b : Bool). if b then vs else vs ++ w ∷ []) (sym h)

pub distinct_known : (vs : List WordText) (w : WordText) → is_among vs w.text ≡ true → vs ≡ with_distinct vs w
distinct_known vs w h = ap (λ (b : Bool). if b then vs else vs ++ w ∷ []) (sym h)

-- one more precedence line
pub precedences_more : (n : ℕ) (ls : List LevelText) (l : LevelText) → precedences_at n (ls ++ l ∷ []) ≡ precedences_at n ls ++ level_precedences (n + length ls) l
precedences_more n [] l = append-nil (level_precedences n l) ∙ ap (λ (m : ℕ). level_precedences m l) (omega arith)
precedences_more n (k ∷ ls) l =
    let next : suc n + length ls ≡ n + suc (length ls) = omega arith in
    ap (λ ps. level_precedences n k ++ ps) (precedences_more (suc n) ls l)
    ∙ sym (append_assoc (level_precedences n k) (precedences_at (suc n) ls) (level_precedences (suc n + length ls) l))
    ∙ ap (λ (m : ℕ). (level_precedences n k ++ precedences_at (suc n) ls) ++ level_precedences m l) next

pub precedences_step : (ls : List LevelText) (l : LevelText) (n : ℕ) → n ≡ length ls → precedences_of (ls ++ l ∷ []) ≡ fold with_precedence_of (precedences_of ls) (level_precedences n l)
precedences_step ls l n e =
    let number : 0 + length ls ≡ n = omega (arith, e) in
    ap (fold with_precedence_of []) (precedences_more 0 ls l)
    ∙ ap (λ (m : ℕ). fold with_precedence_of [] (precedences_at 0 ls ++ level_precedences m l)) number
    ∙ fold-append with_precedence_of [] (precedences_at 0 ls) (level_precedences n l)
