-- Headers with their locations replaced, key by key.
use Rattle.std.proofs.Common.{◌≡◌, ℕ, Bool, true, false, ◌||◌, List, [], ◌∷◌, ◌++◌, Option, Some, None, is_some, unwrap_or, refl, sym, ap, ◌∙◌, append_assoc, append-nil, Global}
use Rattle.std.specs.Prelude.{option_map, if◌then◌else◌}
use Rattle.std.specs.List.{list_any}
use Rattle.std.specs.Map.{lookup}
use Rattle.std.specs.Set.{is_member}
use Rattle.std.specs.Ordering.{is_eq, eq_by_cmp, nat_cmp}
use Rattle.std.specs.Cmp.Lexicographic.{slice_cmp}
use Rattle.std.specs.Str.{bytes_eq}
use Rattle.std.specs.String.{string_bytes, string_cmp}
use Rattle.std.specs.declared.string.String.{String}
use Rattle.std.specs.BTreeMap.{is_at}
use Rattle.std.proofs.lemmas.Slice.Eq.{bytes_eq-Decides}
use Rattle.std.proofs.lemmas.Map.Text.{is_eq-slice_cmp}
use Rattle.cfg_sections.specs.MarkMaps.{Marked, SetsValue, value_at, marks_at, unmarked, blank, keys_of}
use Rattle.cfg_sections.specs.declared.markmap.MergeBehavior.TheVariants.{MutuallyExclusive}
use Rattle.cfg_sections.specs.declared.header.value.HeaderValue.{HeaderValue}
use Rattle.cfg_sections.specs.HeaderTexts.{ValueText, value_text}
use Rattle.cfg_sections.specs.HeaderMaps.{map_value, map_entry, MapsHeader, PutsMapped}
use Rattle.cfg_sections.specs.SectionRepeats.{entry_text}

any_last : (t : Bool) → (t || false) ≡ (false || t)
any_last true = refl
any_last false = refl

any_step : {K : Type 0} (p : K → Bool) (x q : K) (xs : List K) → list_any p (xs ++ q ∷ []) ≡ (list_any p xs || p q) → (t : Bool) → p x ≡ t → list_any p ((x ∷ xs) ++ q ∷ []) ≡ (list_any p (x ∷ xs) || p q)
any_step p x q xs h true e = rw e refl
any_step p x q xs h false e = rw e h

any_more : {K : Type 0} (p : K → Bool) (xs : List K) (q : K) → list_any p (xs ++ q ∷ []) ≡ (list_any p xs || p q)
any_more p [] q = any_last (p q)
any_more p (x ∷ xs) q = any_step p x q xs (any_more p xs q) (p x) refl

eq_cases : (xs ys : List ℕ) (t u : Bool) → bytes_eq xs ys ≡ t → bytes_eq ys xs ≡ u → t ≡ u
eq_cases xs ys true true e f = refl
eq_cases xs ys false false e f = refl
eq_cases xs ys true false e f = let h = (bytes_eq-Decides ys xs).1 (sym ((bytes_eq-Decides xs ys).0 e)) in absurd cc
eq_cases xs ys false true e f = let h = (bytes_eq-Decides xs ys).1 (sym ((bytes_eq-Decides ys xs).0 f)) in absurd cc

member_more : (done : List (String Global)) (q k : String Global) → is_member (eq_by_cmp string_cmp) (done ++ q ∷ []) k ≡ (is_member (eq_by_cmp string_cmp) done k || bytes_eq (string_bytes q) (string_bytes k))
member_more done q k =
    let test : eq_by_cmp string_cmp k q ≡ bytes_eq (string_bytes k) (string_bytes q) = is_eq-slice_cmp (string_bytes k) (string_bytes q) in
    any_more (eq_by_cmp string_cmp k) done q ∙ ap (λ t. is_member (eq_by_cmp string_cmp) done k || t) (test ∙ eq_cases (string_bytes k) (string_bytes q) _ _ refl refl)

-- a look-up reads the bytes of its key
same_value : {V : Type 0} (h : Marked (String Global) V) (q k : String Global) → bytes_eq (string_bytes q) (string_bytes k) ≡ true → value_at string_cmp h k ≡ value_at string_cmp h q
same_value {V} h q k e =
    let F : List ℕ → Option V = λ bs. (unwrap_or (lookup (λ x. is_eq (slice_cmp nat_cmp bs (string_bytes x))) h.entries) blank).value in
    ap F (sym ((bytes_eq-Decides (string_bytes q) (string_bytes k)).0 e))

put_cases : {E : Type 0} (t d : Bool) (old mapped : Option E) (v : E) → old ≡ (if d then mapped else None) → (t ≡ true → mapped ≡ Some v) → (if t then Some v else old) ≡ (if (d || t) then mapped else None)
put_cases true true old mapped v e h = sym (h refl)
put_cases true false old mapped v e h = sym (h refl)
put_cases false true old mapped v e h = e
put_cases false false old mapped v e h = e

skip_cases : {E : Type 0} (t d : Bool) (old mapped : Option E) → old ≡ (if d then mapped else None) → (t ≡ true → mapped ≡ None) → old ≡ (if (d || t) then mapped else None)
skip_cases true true old mapped e h = e
skip_cases true false old mapped e h = e ∙ sym (h refl)
skip_cases false true old mapped e h = e
skip_cases false false old mapped e h = e

module _ {L M : Type 0} (f : L → M) where
  put_value : (t : Bool) (old : Option (HeaderValue M)) (v : HeaderValue M) (w : M × ValueText M) → entry_text v ≡ w → option_map entry_text (if t then Some v else old) ≡ (if t then Some w else option_map entry_text old)
  put_value true old v w e = ap Some e
  put_value false old v w e = refl

  pub puts_mapped : (old new : Marked (String Global) (HeaderValue M)) (key text : String Global) (v : HeaderValue L) (w : HeaderValue M) → string_bytes text ≡ string_bytes key → w.0 ≡ f v.0 → value_text w.1 ≡ map_value f (value_text v.1) → SetsValue string_cmp old new text (Some w) → PutsMapped f old new key v
  puts_mapped old new key text v w same at is sets = record {
    value = λ k. let test : is_at (string_cmp text) k ≡ bytes_eq (string_bytes text) (string_bytes k) = is_eq-slice_cmp (string_bytes text) (string_bytes k) in
        let both : entry_text w ≡ map_entry f (entry_text v) = rw (at, is) refl in
        rw (sets.value k, test, same) (put_value (bytes_eq (string_bytes key) (string_bytes k)) (value_at string_cmp old k) w _ both);
    marks = sets.marks;
    default = sets.default;
  }

  -- these keys have their values
  pub record MapsKeys (done : List (String Global)) (old : Marked (String Global) (HeaderValue L)) (new : Marked (String Global) (HeaderValue M)) : Type 0 where
    pub value : (k : String Global) → option_map entry_text (value_at string_cmp new k) ≡ (if is_member (eq_by_cmp string_cmp) done k then option_map (map_entry f) (option_map entry_text (value_at string_cmp old k)) else None)
    pub marks : (k : String Global) → marks_at string_cmp new k ≡ unmarked
    pub default : new.default ≡ MutuallyExclusive

  -- the keys that are left, behind those
  pub record MapsBefore (rest : List (String Global)) (old : Marked (String Global) (HeaderValue L)) (new : Marked (String Global) (HeaderValue M)) : Type 0 where
    pub done : List (String Global)
    pub all : done ++ rest ≡ keys_of old
    pub maps : MapsKeys done old new

  mapped_same : (old : Marked (String Global) (HeaderValue L)) (q k : String Global) (o : Option (HeaderValue L)) → value_at string_cmp old q ≡ o → bytes_eq (string_bytes q) (string_bytes k) ≡ true → option_map (map_entry f) (option_map entry_text (value_at string_cmp old k)) ≡ option_map (map_entry f) (option_map entry_text o)
  mapped_same old q k o e h = ap (λ u. option_map (map_entry f) (option_map entry_text u)) (same_value old q k h ∙ e)

  pub put_more : (rest : List (String Global)) (old : Marked (String Global) (HeaderValue L)) (new new' : Marked (String Global) (HeaderValue M)) (q : String Global) (v : HeaderValue L) → value_at string_cmp old q ≡ Some v → PutsMapped f new new' q v → MapsBefore (q ∷ rest) old new → MapsBefore rest old new'
  put_more rest old new new' q v e puts m = record {
    done = m.done ++ q ∷ [];
    all = append_assoc m.done (q ∷ []) rest ∙ m.all;
    maps = record {
      value = λ k. rw (member_more m.done q k) (puts.value k ∙ put_cases (bytes_eq (string_bytes q) (string_bytes k)) (is_member (eq_by_cmp string_cmp) m.done k) _ _ _ (m.maps.value k) (mapped_same old q k (Some v) e));
      marks = λ k. puts.marks k ∙ m.maps.marks k;
      default = puts.default ∙ m.maps.default;
    };
  }

  pub skip_more : (rest : List (String Global)) (old : Marked (String Global) (HeaderValue L)) (new : Marked (String Global) (HeaderValue M)) (q : String Global) → value_at string_cmp old q ≡ None → MapsBefore (q ∷ rest) old new → MapsBefore rest old new
  skip_more rest old new q e m = record {
    done = m.done ++ q ∷ [];
    all = append_assoc m.done (q ∷ []) rest ∙ m.all;
    maps = record {
      value = λ k. rw (member_more m.done q k) (skip_cases (bytes_eq (string_bytes q) (string_bytes k)) (is_member (eq_by_cmp string_cmp) m.done k) _ _ (m.maps.value k) (mapped_same old q k None e));
      marks = m.maps.marks;
      default = m.maps.default;
    };
  }

  whole_cases : {V E : Type 0} (g : Option V → Option E) (o : Option V) → g None ≡ None → (if is_some o then g o else None) ≡ g o
  whole_cases g None e = sym e
  whole_cases g (Some v) e = refl

  pub maps_all : (rest : List (String Global)) (old : Marked (String Global) (HeaderValue L)) (new : Marked (String Global) (HeaderValue M)) → rest ≡ [] → ((k : String Global) → is_member (eq_by_cmp string_cmp) (keys_of old) k ≡ is_some (value_at string_cmp old k)) → MapsBefore rest old new → MapsHeader f old new
  maps_all rest old new none each m =
      let whole : m.done ≡ keys_of old = sym (append-nil m.done) ∙ ap (λ xs. m.done ++ xs) (sym none) ∙ m.all in
      record {
        value = λ k. m.maps.value k ∙ ap (λ t. if t then option_map (map_entry f) (option_map entry_text (value_at string_cmp old k)) else None) (ap (λ xs. is_member (eq_by_cmp string_cmp) xs k) whole ∙ each k) ∙ whole_cases (λ o. option_map (map_entry f) (option_map entry_text o)) (value_at string_cmp old k) refl;
        marks = m.maps.marks;
        default = m.maps.default;
      }
