-- State graphs as texts.
use Rattle.std.proofs.Common.{◌≡◌, ℕ, zero, suc, ◌+◌, ◌-◌, ◌<◌, ◌≤◌, Bool, true, false, cond, List, [], ◌∷◌, ◌++◌, length, get_or, map, take, drop, replicate, min, Some, refl, sym, ap, ◌∙◌, subst, arith, append_assoc, append-nil, ◌⊎◌, inl, inr}
use Rattle.std.specs.Prelude.{codes, All}
use Rattle.std.specs.List.{filter, flat_map, join_by, range_with_len, repeat}
use Rattle.std.specs.Fmt.{decimal}
use Rattle.std.proofs.lemmas.List.{flat_map_more, get_or-map, length-map, length-append, length-replicate, map-append, map-id, map_more, map_push, take-map, drop-map, nil_from_length}
use Rattle.std.proofs.lemmas.List.Elements.{All-drop, All-take, All-get_or, All-filter, All-head, All-tail, All-push, All-weaker, filter-append}
use Rattle.std.proofs.lemmas.Bool.{eq-eqb, ne_eqb}
use Rattle.std.proofs.lemmas.List.FromFn.{length-range_with_len, get_or-range_with_len, map-range_with_len_more}
use Rattle.std.proofs.lemmas.Option.{slice_get-get_or}
use Rattle.std.specs.declared.ops.Bound.TheVariants.{Unbounded}
use Rattle.vob.specs.Walk.{has_item, indices, indices_of, walk}
use Rattle.cfg_theory.specs.Grammar.{Sym, Grammar, InRange, WellFormed, body_of}
use Rattle.cfg_numbered.specs.Value.{GrammarValue}
use Rattle.lr_theory.specs.Building.{same_symbol}
use Rattle.lr_theory.specs.Itemset.{Entry, ItemSet, entry_at, FitsGrammar}
use Rattle.lr_theory.specs.ItemLists.{IsAt}
use Rattle.lr_theory.proofs.GraphLaws.{finished_law}
use Rattle.lr_theory.proofs.ItemLists.{stands, item_of, items_of, rows_of, put_together, ascending}
use Rattle.lr_theory.proofs.Place.{same_symbol_refl}
use Rattle.state_table.specs.GraphTexts.{spaced, dotted, head_text, looks_text, item_text, tokens_of, edges_to, by_target, NoneLead, state_lines, state_text, line, lines_text, front_width, number_front, sets_of}
use Rattle.state_table.specs.Graphs.{GraphValue, graph_of, target_in, IsGraphOf}

-- ---- texts joined

joined : {A : Type 0} (a b c d : List A) → ((a ++ b) ++ c) ++ d ≡ a ++ ((b ++ c) ++ d)
joined a b c d = ap (λ l. l ++ d) (append_assoc a b c) ∙ append_assoc a (b ++ c) d

-- symbols on both sides of a dot
pub dotted_put : (v : GrammarValue) (body passed left : List Sym) (dot : ℕ) (s0 s1 s2 s3 : List ℕ) → passed ≡ take dot body → left ≡ drop dot body →
    s1 ≡ s0 ++ flat_map (spaced v) passed → s2 ≡ s1 ++ codes " ." → s3 ≡ s2 ++ flat_map (spaced v) left → s3 ≡ s0 ++ dotted v body dot
dotted_put v body passed left dot s0 s1 s2 s3 p l e1 e2 e3 =
    e3 ∙ ap (λ t. t ++ flat_map (spaced v) left) (e2 ∙ ap (λ t. t ++ codes " .") e1)
    ∙ joined s0 (flat_map (spaced v) passed) (codes " .") (flat_map (spaced v) left)
    ∙ ap (λ t. s0 ++ ((flat_map (spaced v) t ++ codes " .") ++ flat_map (spaced v) left)) p
    ∙ ap (λ t. s0 ++ ((flat_map (spaced v) (take dot body) ++ codes " .") ++ flat_map (spaced v) t)) l

-- an item's parts one after another
pub item_put : (v : GrammarValue) (e : Entry) (p d : ℕ) (bits : List Bool) (s1 s2 s3 s4 s5 : List ℕ) → p ≡ e.production → d ≡ e.dot → bits ≡ e.lookaheads →
    s1 ≡ head_text v p → s2 ≡ s1 ++ dotted v (body_of v.grammar p) d → s3 ≡ s2 ++ codes ", " → s4 ≡ s3 ++ looks_text v bits → s5 ≡ s4 ++ codes "]" → s5 ≡ item_text v e
item_put v e p d bits s1 s2 s3 s4 s5 ep ed eb e1 e2 e3 e4 e5 =
    e5 ∙ ap (λ t. t ++ codes "]") (e4 ∙ ap (λ t. t ++ looks_text v bits) (e3 ∙ ap (λ t. t ++ codes ", ") (e2 ∙ ap (λ t. t ++ dotted v (body_of v.grammar p) d) e1)))
    ∙ ap (λ x. item_text v (record { production = x; dot = d; lookaheads = bits })) ep
    ∙ ap (λ x. item_text v (record { production = e.production; dot = x; lookaheads = bits })) ed
    ∙ ap (λ x. item_text v (record { production = e.production; dot = e.dot; lookaheads = x })) eb

-- ---- tokens, parted

module _ {X : Type 0} (f : X → List ℕ) (sep : List ℕ) where
  -- what is still to come, where the next has this before it
  abbrev pub behind_gap : List ℕ → List X → List ℕ
  behind_gap gap [] = []
  behind_gap gap (x ∷ xs) = (gap ++ f x) ++ flat_map (λ y. sep ++ f y) xs

  pub no_gap : (xs : List X) → behind_gap [] xs ≡ join_by f sep xs
  no_gap [] = refl
  no_gap (x ∷ xs) = refl

  all_gaps : (xs : List X) → behind_gap sep xs ≡ flat_map (λ y. sep ++ f y) xs
  all_gaps [] = refl
  all_gaps (x ∷ xs) = refl

  pub gap_more : (gap old new whole : List ℕ) (x : X) (xs rest : List X) → rest ≡ x ∷ xs → old ++ behind_gap gap rest ≡ whole → new ≡ old ++ (gap ++ f x) → new ++ behind_gap sep xs ≡ whole
  gap_more gap old new whole x xs rest e was now =
      ap (λ t. t ++ behind_gap sep xs) now ∙ append_assoc old (gap ++ f x) (behind_gap sep xs)
      ∙ ap (λ t. old ++ ((gap ++ f x) ++ t)) (all_gaps xs) ∙ sym (ap (λ t. old ++ behind_gap gap t) e) ∙ was

  pub gap_end : (gap old whole : List ℕ) (rest : List X) → rest ≡ [] → old ++ behind_gap gap rest ≡ whole → old ≡ whole
  gap_end gap old whole rest e was = sym (append-nil old) ∙ sym (ap (λ t. old ++ behind_gap gap t) e) ∙ was

range_below : (n : ℕ) → All (λ t. t < n) (range_with_len 0 (n - 0))
range_below n = λ k d lt.
    (let len = length-range_with_len 0 (n - 0) in
    let is = get_or-range_with_len 0 (n - 0) k d (omega (arith, lt, len)) in
    omega (arith, lt, len, is))

all_walked : (bits : List Bool) → walk true bits Unbounded Unbounded ≡ tokens_of bits
all_walked bits = let e : min (length bits) (length bits) ≡ length bits = omega arith in ap (indices_of true bits 0) e

-- the walk that begins
pub walk_below : (bits : List Bool) (n : ℕ) (left : List ℕ) → left ≡ walk true bits Unbounded Unbounded → length bits ≡ n → All (λ t. t < n) left
walk_below bits n left e len =
    subst (All (λ t. t < n)) (sym (e ∙ all_walked bits)) (subst (λ m. All (λ t. t < m) (tokens_of bits)) len (All-filter (has_item true bits) (λ t. t < length bits) (indices 0 (length bits)) (range_below (length bits))))

pub walk_begins : (f : ℕ → List ℕ) (sep old : List ℕ) (bits : List Bool) (left : List ℕ) → left ≡ walk true bits Unbounded Unbounded → old ++ behind_gap f sep [] left ≡ old ++ join_by f sep (tokens_of bits)
walk_begins f sep old bits left e = ap (λ l. old ++ l) (no_gap f sep left ∙ ap (join_by f sep) (e ∙ all_walked bits))

-- ---- lists of lines

-- one more line
pub shown_more : {T E F : Type 0} (g : T → F) (f : E → F) (before old new : List T) (xs : List E) (i : ℕ) (d : E) (t : T) → i < length xs → map g old ≡ map g before ++ map f (take i xs) → new ≡ old ++ t ∷ [] → g t ≡ f (get_or xs i d) →
    map g new ≡ map g before ++ map f (take (i + 1) xs)
shown_more g f before old new xs i d t lt was now is =
    ap (map g) now ∙ map_push g old t ∙ ap (λ l. l ++ g t ∷ []) was ∙ append_assoc (map g before) (map f (take i xs)) (g t ∷ [])
    ∙ ap (λ l. map g before ++ l) (ap (λ y. map f (take i xs) ++ y ∷ []) is ∙ sym (map_more f xs i d lt))

-- what is kept of one more entry
pub kept_more : {E F L : Type 0} (see : E → F) (keep : F → Bool) (f : F → L) (xs : List E) (i : ℕ) (x : E) → i < length xs → x ≡ get_or xs i x → (before old new : List L) → old ≡ before ++ map f (filter keep (map see (take i xs))) →
    new ≡ old ++ map f (filter keep (see x ∷ [])) → new ≡ before ++ map f (filter keep (map see (take (i + 1) xs)))
kept_more see keep f xs i x lt at before old new was now =
    now ∙ ap (λ l. l ++ map f (filter keep (see x ∷ []))) was ∙ append_assoc before (map f (filter keep (map see (take i xs)))) (map f (filter keep (see x ∷ [])))
    ∙ ap (λ l. before ++ l) (sym (map-append f (filter keep (map see (take i xs))) (filter keep (see x ∷ [])))
    ∙ ap (map f) (sym (filter-append keep (map see (take i xs)) (see x ∷ [])) ∙ ap (filter keep) (sym (map_more see xs i x lt ∙ ap (λ y. map see (take i xs) ++ see y ∷ []) (sym at)))))

-- ---- over numbers

range_next : (n : ℕ) → range_with_len 0 (n + 1) ≡ range_with_len 0 n ++ n ∷ []
range_next n =
    sym (map-id (range_with_len 0 (n + 1))) ∙ map-range_with_len_more (λ (x : ℕ). x) 0 n n (omega arith) ∙ ap (λ l. l ++ n ∷ []) (map-id (range_with_len 0 n))

flat_next : {A : Type 0} (f : ℕ → List A) (n : ℕ) → flat_map f (range_with_len 0 (n + 1)) ≡ flat_map f (range_with_len 0 n) ++ f n
flat_next f n = ap (flat_map f) (range_next n) ∙ sym (flat_map_more f [] (range_with_len 0 n) n)

-- the text of one more number
pub number_put : {A : Type 0} (f : ℕ → List A) (n : ℕ) (before old new : List A) → old ≡ before ++ flat_map f (range_with_len 0 n) → new ≡ old ++ f n → new ≡ before ++ flat_map f (range_with_len 0 (n + 1))
number_put f n before old new was now =
    now ∙ ap (λ l. l ++ f n) was ∙ append_assoc before (flat_map f (range_with_len 0 n)) (f n) ∙ ap (λ l. before ++ l) (sym (flat_next f n))

-- ---- edges by their targets

pub edge_kept : (e : Sym × ℕ) (t : ℕ) → e.1 ≡ t → edges_to (e ∷ []) t ≡ e ∷ []
edge_kept e t is = ap (λ b. cond b (e ∷ []) []) (eq-eqb e.1 t is)

pub edge_left : (e : Sym × ℕ) (t : ℕ) → (e.1 ≡ t → ⊥) → edges_to (e ∷ []) t ≡ []
edge_left e t ne = ap (λ b. cond b (e ∷ []) []) (ne_eqb e.1 t ne)

none_to : (es : List (Sym × ℕ)) (t : ℕ) → All (λ e. e.1 ≡ t → ⊥) es → edges_to es t ≡ []
none_to [] t h = refl
none_to (e ∷ es) t h = ap (λ b. cond b (e ∷ edges_to es t) (edges_to es t)) (ne_eqb e.1 t (All-head (λ (x : Sym × ℕ). x.1 ≡ t → ⊥) e es h)) ∙ none_to es t (All-tail (λ (x : Sym × ℕ). x.1 ≡ t → ⊥) e es h)

none_between : (es : List (Sym × ℕ)) (from to t : ℕ) → NoneLead es from to → from ≤ t → t < to → edges_to es t ≡ []
none_between es from to t h ge lt = none_to es t (All-weaker (λ (e : Sym × ℕ). (e.1 < from) ⊎ (to ≤ e.1)) (λ (e : Sym × ℕ). e.1 ≡ t → ⊥) differs es h)
  where
    differs : (e : Sym × ℕ) → (e.1 < from) ⊎ (to ≤ e.1) → e.1 ≡ t → ⊥
    differs e (inl l) is = omega (arith, l, is, ge)
    differs e (inr l) is = omega (arith, l, is, lt)

skipped : (es : List (Sym × ℕ)) (from n : ℕ) → ((t : ℕ) → from ≤ t → t < from + n → edges_to es t ≡ []) → by_target (from + n) es ≡ by_target from es
skipped es from zero h = let e : from + 0 ≡ from = omega arith in ap (λ k. by_target k es) e
skipped es from (suc n) h =
    let e : from + suc n ≡ (from + n) + 1 = omega arith in
    ap (λ k. by_target k es) e ∙ flat_next (edges_to es) (from + n) ∙ ap (λ l. by_target (from + n) es ++ l) (h (from + n) (omega arith) (omega arith)) ∙ append-nil (by_target (from + n) es)
    ∙ skipped es from n (λ t ge lt. h t ge (omega (arith, lt)))

-- the edges to the next target
pub target_put : {L : Type 0} (f : Sym × ℕ → L) (es : List (Sym × ℕ)) (from target : ℕ) (before old new : List L) → from ≤ target → NoneLead es from target → old ≡ before ++ map f (by_target from es) → new ≡ old ++ map f (edges_to es target) →
    new ≡ before ++ map f (by_target (target + 1) es)
target_put f es from target before old new ge none was now =
    let e : from + (target - from) ≡ target = omega (arith, ge) in
    let same : by_target from es ≡ by_target target es = sym (skipped es from (target - from) (λ t a b. none_between es from target t none a (omega (arith, b, e)))) ∙ ap (λ k. by_target k es) e in
    now ∙ ap (λ l. l ++ map f (edges_to es target)) (was ∙ ap (λ l. before ++ map f l) same) ∙ append_assoc before (map f (by_target target es)) (map f (edges_to es target))
    ∙ ap (λ l. before ++ l) (sym (map-append f (by_target target es) (edges_to es target)) ∙ ap (map f) (sym (flat_next (edges_to es) target)))

-- one more edge, and a target that isn't greater
pub none_more : {E : Type 0} (see : E → Sym × ℕ) (xs : List E) (i : ℕ) (x : E) (from old new : ℕ) → i < length xs → x ≡ get_or xs i x → new ≤ old → NoneLead (map see (take i xs)) from old → ((see x).1 < from) ⊎ (new ≤ (see x).1) → NoneLead (map see (take (i + 1) xs)) from new
none_more see xs i x from old new lt at le was here =
    subst (λ l. NoneLead l from new) (sym (map_more see xs i x lt ∙ ap (λ y. map see (take i xs) ++ see y ∷ []) (sym at)))
    (All-push (λ (e : Sym × ℕ). (e.1 < from) ⊎ (new ≤ e.1)) (map see (take i xs)) (see x) (All-weaker (λ (e : Sym × ℕ). (e.1 < from) ⊎ (old ≤ e.1)) (λ (e : Sym × ℕ). (e.1 < from) ⊎ (new ≤ e.1)) less (map see (take i xs)) was) here)
  where
    less : (e : Sym × ℕ) → (e.1 < from) ⊎ (old ≤ e.1) → (e.1 < from) ⊎ (new ≤ e.1)
    less e (inl l) = inl l
    less e (inr l) = inr (omega (arith, l, le))

-- ---- fronts

pub spaces_are : (n : ℕ) → repeat {A = ℕ} n (32 ∷ []) ≡ replicate n 32
spaces_are zero = refl
spaces_are (suc n) = ap (λ l. 32 ∷ l) (spaces_are n)

pub gap_is : (count n : ℕ) (widest gap : List ℕ) → widest ≡ decimal (count - 1) ++ codes ": " → n ≡ length widest → gap ≡ repeat {A = ℕ} n (32 ∷ []) → gap ≡ replicate (front_width count) 32
gap_is count n widest gap ew en eg = eg ∙ spaces_are n ∙ ap (λ k. replicate k 32) (en ∙ ap length ew ∙ length-append (decimal (count - 1)) (codes ": "))

pub front_is : (width s n : ℕ) (label filling front : List ℕ) → label ≡ decimal s ++ codes ":" → n ≡ width - length label → filling ≡ repeat {A = ℕ} n (32 ∷ []) → front ≡ label ++ filling → front ≡ number_front width s
front_is width s n label filling front el en ef e =
    e ∙ ap (λ l. label ++ l) (ef ∙ spaces_are n ∙ ap (λ k. replicate k 32) en) ∙ ap (λ l. l ++ replicate (width - length l) 32) el

pub state_put : (v : GrammarValue) (g : GraphValue) (sets : List ItemSet) (s count n : ℕ) (set : ItemSet) (es : List (Sym × ℕ)) (front gap old new : List ℕ) (shown : List (List ℕ)) →
    count ≡ length g.cores → set ≡ get_or sets s [] → es ≡ get_or g.edges s [] → gap ≡ replicate (front_width (length g.cores)) 32 → n ≡ length gap → front ≡ number_front n s → shown ≡ state_lines v count set es →
    new ≡ old ++ lines_text front gap shown → new ≡ old ++ state_text v g sets s
state_put v g sets s count n set es front gap old new shown ec et ee eg en ef el e =
    let width : n ≡ front_width (length g.cores) = en ∙ ap length eg ∙ length-replicate (front_width (length g.cores)) 32 in
    e ∙ ap (λ l. old ++ lines_text front gap l) (el ∙ ap (λ k. state_lines v k set es) ec ∙ ap (λ t. state_lines v (length g.cores) t es) et ∙ ap (state_lines v (length g.cores) (get_or sets s [])) ee)
    ∙ ap (λ l. old ++ lines_text l gap (state_lines v (length g.cores) (get_or sets s []) (get_or g.edges s []))) (ef ∙ ap (λ k. number_front k s) width)
    ∙ ap (λ l. old ++ lines_text (number_front (front_width (length g.cores)) s) l (state_lines v (length g.cores) (get_or sets s []) (get_or g.edges s []))) eg

pub lines_put : {T : Type 0} (g : T → List ℕ) (front gap s0 s1 s2 : List ℕ) (xs : List T) (x : T) (rest : List T) → xs ≡ x ∷ rest → s1 ≡ s0 ++ line front (g x) → s2 ≡ s1 ++ flat_map (line gap) (map g rest) → s2 ≡ s0 ++ lines_text front gap (map g xs)
lines_put g front gap s0 s1 s2 xs x rest e e1 e2 =
    e2 ∙ ap (λ l. l ++ flat_map (line gap) (map g rest)) e1 ∙ append_assoc s0 (line front (g x)) (flat_map (line gap) (map g rest)) ∙ ap (λ l. s0 ++ lines_text front gap (map g l)) (sym e)

pub lines_none : {T : Type 0} (g : T → List ℕ) (front gap s0 : List ℕ) (xs : List T) → length xs ≡ 0 → s0 ≡ s0 ++ lines_text front gap (map g xs)
lines_none g front gap s0 xs n = sym (append-nil s0) ∙ ap (λ l. s0 ++ lines_text front gap (map g l)) (sym (nil_from_length xs n))

-- ---- what a grammar has

-- the symbols of a body
body_in_range : (G : Grammar) → WellFormed G → (p : ℕ) → All (InRange G) (body_of G p)
body_in_range G good p = λ k d lt. good.symbols p k (get_or (body_of G p) k d) (record { at = slice_get-get_or (body_of G p) k d lt })

module _ {S : Type 0} (see : S → Sym) (G : Grammar) (good : WellFormed G) (p n : ℕ) (xs part : List S) (is : map see xs ≡ body_of G p) where
  pub passed_is : part ≡ take n xs → map see part ≡ take n (body_of G p)
  passed_is e = ap (map see) e ∙ sym (take-map see n xs) ∙ ap (take n) is

  pub left_is : part ≡ drop n xs → map see part ≡ drop n (body_of G p)
  left_is e = ap (map see) e ∙ sym (drop-map see n xs) ∙ ap (drop n) is

  pub passed_in_range : part ≡ take n xs → All (InRange G) (map see part)
  passed_in_range e = subst (All (InRange G)) (sym (passed_is e)) (All-take (InRange G) n (body_of G p) (body_in_range G good p))

  pub left_in_range : part ≡ drop n xs → All (InRange G) (map see part)
  left_in_range e = subst (All (InRange G)) (sym (left_is e)) (All-drop (InRange G) n (body_of G p) (body_in_range G good p))

-- an entry of a set that fits
module _ (G : Grammar) (s : ItemSet) (fits : FitsGrammar G s) (k : ℕ) (d : Entry) (lt : k < length s) where
  abbrev x : Entry
  x = get_or s k d

  stands_at : IsAt (items_of s) k x.production x.dot
  stands_at =
      let n = length-map s item_of in
      let is = get_or-map item_of s k d (record { production = x.production; dot = x.dot }) lt in
      record { within = omega (arith, n, lt); production = ap (λ i. i.production) is; dot = ap (λ i. i.dot) is }

  pub entry_stands : entry_at s x.production x.dot ≡ Some x.lookaheads
  entry_stands =
      subst (λ w. entry_at w x.production x.dot ≡ Some (get_or (rows_of s) k [])) (put_together s)
      (stands (items_of s) (rows_of s) k x.production x.dot (ascending s fits.ordered) (length-map s (λ e. e.lookaheads) ∙ sym (length-map s item_of)) stands_at)
      ∙ ap Some (get_or-map (λ e. e.lookaheads) s k d [] lt)

  pub entry_production : x.production < length G.productions
  entry_production = fits.productions x.production x.dot (record { lookaheads = x.lookaheads; at = entry_stands })

  pub entry_dot : x.dot ≤ length (body_of G x.production)
  entry_dot = fits.dots x.production x.dot (record { lookaheads = x.lookaheads; at = entry_stands })

  pub entry_flags : length x.lookaheads ≡ G.tokens
  entry_flags = fits.flags x.production x.dot x.lookaheads entry_stands

-- ---- what a graph has

some_target : (es : List (Sym × ℕ)) (k : ℕ) (d : Sym × ℕ) → k < length es → (target : ℕ) × (target_in es (get_or es k d).0 ≡ Some target)
some_target [] k d lt = absurd (omega (arith, lt))
some_target (e ∷ es) zero d lt = (e.1, ap (λ b. cond b (Some e.1) (target_in es e.0)) (same_symbol_refl e.0))
some_target (e ∷ es) (suc k) d lt = go (same_symbol (get_or es k d).0 e.0) (some_target es k d (omega (arith, lt)))
  where
    go : (b : Bool) → (target : ℕ) × (target_in es (get_or es k d).0 ≡ Some target) → (target : ℕ) × (cond b (Some e.1) (target_in es (get_or es k d).0) ≡ Some target)
    go true h = (e.1, refl)
    go false h = h

module _ (G : Grammar) (good : WellFormed G) (g : GraphValue) (is : IsGraphOf G g) (s : ℕ) (lt : s < length g.cores) where
  -- the symbols of its edges are those of the grammar
  pub edges_in_range : (es : List (Sym × ℕ)) → es ≡ get_or g.edges s [] → All (λ e. InRange G e.0) es
  edges_in_range es e = λ k d within.
      (let there = some_target es k d within in
      let X = (get_or es k d).0 in
      let next = (finished_law.finished G (graph_of g) good is.graph).no_other s there.0 X lt (ap (λ l. target_in l X) (sym e) ∙ there.1) in
      good.symbols next.0 next.1 X next.3)

  pub shown_fits : (core_states : Bool) → FitsGrammar G (get_or (sets_of core_states g) s [])
  shown_fits true = All-get_or (FitsGrammar G) g.cores s [] lt is.fits.0
  shown_fits false = (let n = is.closes in All-get_or (FitsGrammar G) g.closed s [] (omega (arith, n, lt)) is.fits.1)
