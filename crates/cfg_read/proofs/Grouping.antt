-- The spans of each name, one word after another.
use Rattle.std.proofs.Common.{◌≡◌, ℕ, zero, suc, ◌+◌, ◌<◌, ◌≤◌, Bool, true, false, not, ◌||◌, List, [], ◌∷◌, ◌++◌, map, filter, fold, length, get_or, set, if◌then◌else◌, cond, refl, sym, ap, ◌∙◌, arith, Bor, Vec, true≢false}
use Rattle.std.specs.declared.alloc.Global.{Global}
use Rattle.std.specs.List.{flat_map, position_or_len}
use Rattle.std.specs.Str.{bytes_eq}
use Rattle.std.proofs.lemmas.List.{map-append, length_push, append_assoc}
use Rattle.std.proofs.lemmas.List.Folds.{list_any-append}
use Rattle.std.proofs.lemmas.List.Sums.{fold_push}
use Rattle.std.proofs.lemmas.Slice.Eq.{bytes_eq-Decides}
use Rattle.cfg_base.specs.SpanModel.{SpanModel}
use Rattle.cfg_read.specs.SyntaxTexts.{WordText}
use Rattle.cfg_read.specs.Names.{is_named, is_among, with_distinct, distinct, texts}
use Rattle.cfg_read.specs.Validity.{FailureKind, repeated, repeated_names, groups_of, word_spans}
use Rattle.cfg_read.specs.ErrorModels.{span_lists, with_span}
use Rattle.cfg_read.proofs.NameLemmas.{or_false, among_distinct}

-- no name stands twice
pub data Apart : List WordText → Type 0 where
  none : Apart []
  more : {w : WordText} {ws : List WordText} → is_among ws w.text ≡ false → Apart ws → Apart (w ∷ ws)

false_from : (b : Bool) → (b ≡ true → false ≡ true) → b ≡ false
false_from true h = sym (h refl)
false_from false h = refl

pub or_left : (a b : Bool) → (a || b) ≡ false → a ≡ false
or_left true b h = h
or_left false b h = refl

pub or_right : (a b : Bool) → (a || b) ≡ false → b ≡ false
or_right true b h = absurd (true≢false h)
or_right false b h = h

bytes_sym : (a b : List ℕ) → bytes_eq a b ≡ false → bytes_eq b a ≡ false
bytes_sym a b h = false_from (bytes_eq b a) (λ t. sym h ∙ (bytes_eq-Decides a b).1 (sym ((bytes_eq-Decides b a).0 t)))

Apart-push : (acc : List WordText) (w : WordText) → Apart acc → is_among acc w.text ≡ false → Apart (acc ++ w ∷ [])
Apart-push [] w none h = more refl none
Apart-push (a ∷ acc) w (more ha rest) h =
    more (list_any-append (is_named a.text) acc (w ∷ []) ∙ ap (λ b. b || (bytes_eq a.text w.text || false)) ha ∙ or_false (bytes_eq a.text w.text) ∙ bytes_sym w.text a.text (or_left (bytes_eq w.text a.text) (is_among acc w.text) h))
    (Apart-push acc w rest (or_right (bytes_eq w.text a.text) (is_among acc w.text) h))

Apart-step : (acc : List WordText) (w : WordText) → Apart acc → Apart (with_distinct acc w)
Apart-step acc w ok = by (is_among acc w.text) refl
  where
    by : (b : Bool) → is_among acc w.text ≡ b → Apart (if b then acc else acc ++ w ∷ [])
    by true e = ok
    by false e = Apart-push acc w ok e

Apart-all : (acc ws : List WordText) → Apart acc → Apart (fold with_distinct acc ws)
Apart-all acc [] ok = ok
Apart-all acc (w ∷ ws) ok = Apart-all (with_distinct acc w) ws (Apart-step acc w ok)

pub Apart-distinct : (ws : List WordText) → Apart (distinct ws)
Apart-distinct ws = Apart-all [] ws none

-- where a name stands
abbrev spans_named : List WordText → WordText → List SpanModel
spans_named ws v = word_spans (filter (is_named v.text) ws)

filter_push : (p : WordText → Bool) (ws : List WordText) (w : WordText) → filter p (ws ++ w ∷ []) ≡ filter p ws ++ (if p w then w ∷ [] else [])
filter_push p [] w = refl
filter_push p (v ∷ ws) w = by (p v) (filter_push p ws w)
  where
    by : (b : Bool) → filter p (ws ++ w ∷ []) ≡ filter p ws ++ (if p w then w ∷ [] else [])
        → (if b then v ∷ filter p (ws ++ w ∷ []) else filter p (ws ++ w ∷ [])) ≡ (if b then v ∷ filter p ws else filter p ws) ++ (if p w then w ∷ [] else [])
    by true rest = ap (λ l. v ∷ l) rest
    by false rest = rest

pub append-nil : {A : Type 0} (xs : List A) → xs ++ [] ≡ xs
append-nil [] = refl
append-nil (x ∷ xs) = ap (λ l. x ∷ l) (append-nil xs)

spans_named_same : (ws : List WordText) (v w : WordText) → bytes_eq v.text w.text ≡ true → spans_named (ws ++ w ∷ []) v ≡ spans_named ws v ++ w.span ∷ []
spans_named_same ws v w h =
    ap word_spans (filter_push (is_named v.text) ws w ∙ ap (λ (b : Bool). filter (is_named v.text) ws ++ (if b then w ∷ [] else [])) h)
    ∙ map-append (λ (u : WordText). u.span) (filter (is_named v.text) ws) (w ∷ [])

spans_named_other : (ws : List WordText) (v w : WordText) → bytes_eq v.text w.text ≡ false → spans_named (ws ++ w ∷ []) v ≡ spans_named ws v
spans_named_other ws v w h =
    ap word_spans (filter_push (is_named v.text) ws w ∙ ap (λ (b : Bool). filter (is_named v.text) ws ++ (if b then w ∷ [] else [])) h ∙ append-nil (filter (is_named v.text) ws))

-- those of other names stay
others_stay : (ws vs : List WordText) (w : WordText) → is_among vs w.text ≡ false → map (spans_named (ws ++ w ∷ [])) vs ≡ map (spans_named ws) vs
others_stay ws [] w h = refl
others_stay ws (v ∷ vs) w h =
    let here = spans_named_other ws v w (bytes_sym w.text v.text (or_left (bytes_eq w.text v.text) (is_among vs w.text) h)) in
    let there = others_stay ws vs w (or_right (bytes_eq w.text v.text) (is_among vs w.text) h) in
    ap (λ l. l ∷ map (spans_named (ws ++ w ∷ [])) vs) here ∙ ap (λ l. spans_named ws v ∷ l) there

-- a name that stands there
known_step : (ws vs : List WordText) (w : WordText) → Apart vs → is_among vs w.text ≡ true → map (spans_named (ws ++ w ∷ [])) vs ≡ with_span (map (spans_named ws) vs) (position_or_len (bytes_eq w.text) (texts vs)) w.span
known_step ws [] w none h = absurd (true≢false (sym h))
known_step ws (v ∷ vs) w (more apart rest) h = by (bytes_eq w.text v.text) refl (λ e. known_step ws vs w rest e)
  where
    by : (b : Bool) → bytes_eq w.text v.text ≡ b
        → (is_among vs w.text ≡ true → map (spans_named (ws ++ w ∷ [])) vs ≡ with_span (map (spans_named ws) vs) (position_or_len (bytes_eq w.text) (texts vs)) w.span)
        → map (spans_named (ws ++ w ∷ [])) (v ∷ vs) ≡ with_span (map (spans_named ws) (v ∷ vs)) (cond (not b) (1 + position_or_len (bytes_eq w.text) (texts vs)) 0) w.span
    by true e further =
        let same : w.text ≡ v.text = (bytes_eq-Decides w.text v.text).0 e in
        let here : spans_named (ws ++ w ∷ []) v ≡ spans_named ws v ++ w.span ∷ [] = spans_named_same ws v w ((bytes_eq-Decides v.text w.text).1 (sym same)) in
        let gone : is_among vs w.text ≡ false = ap (λ (t : List ℕ). is_among vs t) same ∙ apart in
        let there = others_stay ws vs w gone in
        ap (λ l. l ∷ map (spans_named (ws ++ w ∷ [])) vs) here ∙ ap (λ l. (spans_named ws v ++ w.span ∷ []) ∷ l) there
    by false e further =
        let here = spans_named_other ws v w (bytes_sym w.text v.text e) in
        let next : suc (position_or_len (bytes_eq w.text) (texts vs)) ≡ 1 + position_or_len (bytes_eq w.text) (texts vs) = omega arith in
        let still : is_among vs w.text ≡ true = ap (λ (b : Bool). b || is_among vs w.text) (sym e) ∙ h in
        let there = further still in
        ap (λ l. l ∷ map (spans_named (ws ++ w ∷ [])) vs) here ∙ ap (λ l. spans_named ws v ∷ l) there
        ∙ ap (λ (n : ℕ). with_span (map (spans_named ws) (v ∷ vs)) n w.span) next

nothing_there : (ws : List WordText) (q : List ℕ) → is_among ws q ≡ false → filter (is_named q) ws ≡ []
nothing_there [] q h = refl
nothing_there (w ∷ ws) q h =
    ap (λ (b : Bool). if b then w ∷ filter (is_named q) ws else filter (is_named q) ws) (or_left (bytes_eq q w.text) (is_among ws q) h)
    ∙ nothing_there ws q (or_right (bytes_eq q w.text) (is_among ws q) h)

with_place_end : (gs : List (List SpanModel)) (n : ℕ) (at : SpanModel) → n ≡ length gs → with_span gs n at ≡ gs ++ (at ∷ []) ∷ []
with_place_end [] n at e = refl
with_place_end (g ∷ gs) n at e = ap (λ m. with_span (g ∷ gs) m at) e ∙ ap (λ l. g ∷ l) (with_place_end gs (length gs) at refl)

past_all : (vs : List WordText) (q : List ℕ) → is_among vs q ≡ false → position_or_len (bytes_eq q) (texts vs) ≡ length vs
past_all [] q h = refl
past_all (v ∷ vs) q h =
    let rest = past_all vs q (or_right (bytes_eq q v.text) (is_among vs q) h) in
    let next : 1 + length vs ≡ suc (length vs) = omega arith in
    ap (λ (b : Bool). cond (not b) (1 + position_or_len (bytes_eq q) (texts vs)) 0) (or_left (bytes_eq q v.text) (is_among vs q) h) ∙ ap (λ (n : ℕ). 1 + n) rest ∙ next

length_map : {A B : Type 0} (f : A → B) (xs : List A) → length (map f xs) ≡ length xs
length_map f [] = refl
length_map f (x ∷ xs) = ap suc (length_map f xs)

-- a new name
new_step : (ws vs : List WordText) (w : WordText) → is_among vs w.text ≡ false → is_among ws w.text ≡ false → map (spans_named (ws ++ w ∷ [])) (vs ++ w ∷ []) ≡ with_span (map (spans_named ws) vs) (position_or_len (bytes_eq w.text) (texts vs)) w.span
new_step ws vs w h there =
    map-append (spans_named (ws ++ w ∷ [])) vs (w ∷ [])
    ∙ ap (λ l. l ++ spans_named (ws ++ w ∷ []) w ∷ []) (others_stay ws vs w h)
    ∙ ap (λ l. map (spans_named ws) vs ++ l ∷ []) (spans_named_same ws w w ((bytes_eq-Decides w.text w.text).1 refl) ∙ ap (λ l. word_spans l ++ w.span ∷ []) (nothing_there ws w.text there))
    ∙ sym (with_place_end (map (spans_named ws) vs) (position_or_len (bytes_eq w.text) (texts vs)) w.span (past_all vs w.text h ∙ sym (length_map (spans_named ws) vs)))

pub groups_step : (ws : List WordText) (w : WordText) → groups_of (ws ++ w ∷ []) ≡ with_span (groups_of ws) (position_or_len (bytes_eq w.text) (texts (distinct ws))) w.span
groups_step ws w = ap (map (spans_named (ws ++ w ∷ []))) (fold_push with_distinct [] ws w) ∙ by (is_among (distinct ws) w.text) refl
  where
    by : (b : Bool) → is_among (distinct ws) w.text ≡ b → map (spans_named (ws ++ w ∷ [])) (if b then distinct ws else distinct ws ++ w ∷ []) ≡ with_span (groups_of ws) (position_or_len (bytes_eq w.text) (texts (distinct ws))) w.span
    by true e = known_step ws (distinct ws) w (Apart-distinct ws) e
    by false e = new_step ws (distinct ws) w e (sym (among_distinct ws w.text) ∙ e)

-- the number that a set of names answers for one more
pub number_at : (keys : List (Bor (List ℕ))) (vs : List WordText) (q : List ℕ) → map (λ (k : Bor (List ℕ)). k.now) keys ≡ texts vs → position_or_len (λ (k : Bor (List ℕ)). bytes_eq q k.now) keys ≡ position_or_len (bytes_eq q) (texts vs)
number_at keys vs q same = by keys ∙ ap (position_or_len (bytes_eq q)) same
  where
    by : (ks : List (Bor (List ℕ))) → position_or_len (λ (k : Bor (List ℕ)). bytes_eq q k.now) ks ≡ position_or_len (bytes_eq q) (map (λ (k : Bor (List ℕ)). k.now) ks)
    by [] = refl
    by (k ∷ ks) = ap (λ n. cond (not (bytes_eq q k.now)) (1 + n) 0) (by ks)

-- as many lists of spans as names
pub groups_counted : (keys : List (Bor (List ℕ))) (gs : List (Vec SpanModel Global)) (ws : List WordText) → map (λ (k : Bor (List ℕ)). k.now) keys ≡ texts (distinct ws) → span_lists gs ≡ groups_of ws → length keys ≡ length gs
groups_counted keys gs ws names groups =
    sym (length_map (λ (k : Bor (List ℕ)). k.now) keys) ∙ ap length names ∙ length_map (λ (w : WordText). w.text) (distinct ws)
    ∙ sym (length_map (spans_named ws) (distinct ws)) ∙ sym (ap length groups) ∙ length_map (λ (g : Vec SpanModel Global). g.items) gs

-- an index in a list that is there
pub with_span_set : (gs : List (Vec SpanModel Global)) (n : ℕ) (d g : Vec SpanModel Global) (at : SpanModel) → n < length gs → g.items ≡ (get_or gs n d).items ++ at ∷ [] → span_lists (set gs n g) ≡ with_span (span_lists gs) n at
with_span_set [] n d g at within h = absurd (omega arith)
with_span_set (f ∷ gs) zero d g at within h = ap (λ l. l ∷ span_lists gs) h
with_span_set (f ∷ gs) (suc n) d g at within h = ap (λ l. f.items ∷ l) (with_span_set gs n d g at (omega arith) h)

-- an index in a new list
pub with_span_push : (gs : List (Vec SpanModel Global)) (n : ℕ) (g : Vec SpanModel Global) (at : SpanModel) → n ≡ length gs → g.items ≡ at ∷ [] → span_lists (gs ++ g ∷ []) ≡ with_span (span_lists gs) n at
with_span_push gs n g at e h =
    map-append (λ (f : Vec SpanModel Global). f.items) gs (g ∷ []) ∙ ap (λ l. span_lists gs ++ l ∷ []) h
    ∙ sym (with_place_end (span_lists gs) n at (e ∙ sym (length_map (λ (f : Vec SpanModel Global). f.items) gs)))

pub position_le : {A : Type 0} (p : A → Bool) → (xs : List A) → position_or_len p xs ≤ length xs
position_le p [] = omega arith
position_le p (x ∷ xs) = by (not (p x)) (position_le p xs)
  where
    by : (b : Bool) → position_or_len p xs ≤ length xs → cond b (1 + position_or_len p xs) 0 ≤ suc (length xs)
    by true h = omega (arith, h)
    by false h = omega arith

pub not_true : (b : Bool) → not b ≡ true → b ≡ false
not_true true h = sym h
not_true false h = refl

-- as long as names are new no list of spans has two
repeated_last : (k : FailureKind) (gs : List (List SpanModel)) (at : SpanModel) → flat_map (repeated k) (gs ++ (at ∷ []) ∷ []) ≡ flat_map (repeated k) gs
repeated_last k [] at = refl
repeated_last k (g ∷ gs) at = ap (λ l. repeated k g ++ l) (repeated_last k gs at)

pub new_names_once : (k : FailureKind) (ws : List WordText) (w : WordText) → is_among ws w.text ≡ false → repeated_names k ws ≡ [] → repeated_names k (ws ++ w ∷ []) ≡ []
new_names_once k ws w new once =
    let there : is_among (distinct ws) w.text ≡ false = among_distinct ws w.text ∙ new in
    ap (flat_map (repeated k)) (groups_step ws w)
    ∙ ap (flat_map (repeated k)) (with_place_end (groups_of ws) (position_or_len (bytes_eq w.text) (texts (distinct ws))) w.span (past_all (distinct ws) w.text there ∙ sym (length_map (spans_named ws) (distinct ws))))
    ∙ repeated_last k (groups_of ws) w.span
    ∙ once

-- names are no more than words
grown_by : (acc ws : List WordText) → length (fold with_distinct acc ws) ≤ length acc + length ws
grown_by acc [] = omega arith
grown_by acc (w ∷ ws) = by (is_among acc w.text) (grown_by (with_distinct acc w) ws)
  where
    by : (b : Bool) → length (fold with_distinct (if b then acc else acc ++ w ∷ []) ws) ≤ length (if b then acc else acc ++ w ∷ []) + length ws
        → length (fold with_distinct (if b then acc else acc ++ w ∷ []) ws) ≤ length acc + suc (length ws)
    by true h = omega (arith, h)
    by false h = let more = length_push acc w in omega (arith, h, more)

once_from : (k : FailureKind) (done ws : List WordText) → repeated_names k done ≡ [] → length (distinct done) ≡ length done
    → length (fold with_distinct (distinct done) ws) ≡ length done + length ws → repeated_names k (done ++ ws) ≡ []
once_from k done [] once same all = ap (repeated_names k) (append-nil done) ∙ once
once_from k done (w ∷ ws) once same all = by (is_among (distinct done) w.text) refl (once_from k (done ++ w ∷ []) ws)
  where
    step : Bool → List WordText
    step b = if b then distinct done else distinct done ++ w ∷ []

    by : (b : Bool) → is_among (distinct done) w.text ≡ b
        → (repeated_names k (done ++ w ∷ []) ≡ [] → length (distinct (done ++ w ∷ [])) ≡ length (done ++ w ∷ [])
        → length (fold with_distinct (distinct (done ++ w ∷ [])) ws) ≡ length (done ++ w ∷ []) + length ws → repeated_names k ((done ++ w ∷ []) ++ ws) ≡ [])
        → repeated_names k (done ++ w ∷ ws) ≡ []
    by true e rest =
        let few : length (fold with_distinct (distinct done) ws) ≤ length (distinct done) + length ws = grown_by (distinct done) ws in
        let is : length (fold with_distinct (distinct done) ws) ≡ length done + suc (length ws) = ap (λ (b : Bool). length (fold with_distinct (step b) ws)) (sym e) ∙ all in
        absurd (omega (arith, few, is, same))
    by false e rest =
        let next : distinct (done ++ w ∷ []) ≡ distinct done ++ w ∷ [] = fold_push with_distinct [] done w ∙ ap step e in
        let longer = length_push done w in
        let counted : length (distinct (done ++ w ∷ [])) ≡ length (done ++ w ∷ []) = ap length next ∙ length_push (distinct done) w ∙ ap (λ n. n + 1) same ∙ sym longer in
        let sum : length done + suc (length ws) ≡ length (done ++ w ∷ []) + length ws = omega (arith, longer) in
        let still : length (fold with_distinct (distinct (done ++ w ∷ [])) ws) ≡ length (done ++ w ∷ []) + length ws =
        ap (λ vs. length (fold with_distinct vs ws)) next ∙ ap (λ (b : Bool). length (fold with_distinct (step b) ws)) (sym e) ∙ all ∙ sum in
        ap (repeated_names k) (sym (append_assoc done (w ∷ []) ws))
        ∙ rest (new_names_once k done w (sym (among_distinct done w.text) ∙ e) once) counted still

-- as many names as words: none is told as repeated
pub as_many : (k : FailureKind) (ws : List WordText) → length (distinct ws) ≡ length ws → repeated_names k ws ≡ []
as_many k ws same = once_from k [] ws refl refl (same ∙ omega arith)
