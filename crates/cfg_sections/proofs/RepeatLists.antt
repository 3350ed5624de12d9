-- Repeated keys, and headers, pair by pair.
use Rattle.std.proofs.Common.{◌≡◌, ℕ, ◌+◌, ◌<◌, Bool, true, false, ◌||◌, List, [], ◌∷◌, ◌++◌, length, take, drop, get_or, Option, Some, None, refl, sym, ap, ◌∙◌, append_assoc, Global}
use Rattle.std.specs.Prelude.{map, filter, if◌then◌else◌, option_map}
use Rattle.std.specs.Option.{option_or}
use Rattle.std.specs.Str.{bytes_eq}
use Rattle.std.specs.String.{string_bytes, string_cmp}
use Rattle.std.specs.declared.string.String.{String}
use Rattle.std.specs.BTreeMap.{is_at}
use Rattle.std.proofs.lemmas.List.{map_more, map_push, map-append, at_drop_more}
use Rattle.std.proofs.lemmas.Map.Text.{is_eq-slice_cmp}
use Rattle.cfg_base.specs.SpanModel.{SpanModel}
use Rattle.cfg_sections.specs.MarkMaps.{Marked, SetsValue, value_at}
use Rattle.cfg_sections.specs.declared.header.settings.Pair.{Pair}
use Rattle.cfg_sections.specs.declared.header.value.HeaderValue.{HeaderValue}
use Rattle.cfg_sections.specs.HeaderTexts.{ValueText}
use Rattle.cfg_sections.specs.Sections.{PairText}
use Rattle.cfg_sections.specs.SectionResults.{pair_text, ErrorText, repeat_text}
use Rattle.cfg_sections.specs.SectionRepeats.{spans_of, is_named, several, repeats_behind, said_by, said_of, entry_text, Holds}

places_step : (q : List ℕ) (p : Pair) (ps : List Pair) (t : Bool) → bytes_eq q (string_bytes p.key) ≡ t → spans_of q (map pair_text ps) ≡ map (λ p. p.span) (filter (λ p. bytes_eq q (string_bytes p.key)) ps) →
    spans_of q (map pair_text (p ∷ ps)) ≡ map (λ p. p.span) (filter (λ p. bytes_eq q (string_bytes p.key)) (p ∷ ps))
places_step q p ps true e h = rw e (ap (λ r. p.span ∷ r) h)
places_step q p ps false e h = rw e h

pub spans_text : (q : List ℕ) (pairs : List Pair) → spans_of q (map pair_text pairs) ≡ map (λ p. p.span) (filter (λ p. bytes_eq q (string_bytes p.key)) pairs)
spans_text q [] = refl
spans_text q (p ∷ ps) = places_step q p ps (bytes_eq q (string_bytes p.key)) refl (spans_text q ps)

named_step : (q : List ℕ) (p : PairText) (named : Bool) (earlier : List PairText) (x : PairText) → is_named q (earlier ++ p ∷ []) ≡ (is_named q earlier || bytes_eq q p.key) → (t : Bool) → bytes_eq q x.key ≡ t → is_named q ((x ∷ earlier) ++ p ∷ []) ≡ (is_named q (x ∷ earlier) || bytes_eq q p.key)
named_step q p named earlier x h true e = rw e refl
named_step q p named earlier x h false e = rw e h

named_last : (t : Bool) → (t || false) ≡ (false || t)
named_last true = refl
named_last false = refl

named_more : (q : List ℕ) (earlier : List PairText) (p : PairText) → is_named q (earlier ++ p ∷ []) ≡ (is_named q earlier || bytes_eq q p.key)
named_more q [] p = named_last (bytes_eq q p.key)
named_more q (x ∷ earlier) p = named_step q p true earlier x (named_more q earlier p) (bytes_eq q x.key) refl

left_cases : (t n : Bool) (old spans : List SpanModel) → old ≡ (if n then [] else spans) → (if t then [] else old) ≡ (if (n || t) then [] else spans)
left_cases true true old spans e = refl
left_cases true false old spans e = refl
left_cases false true old spans e = e
left_cases false false old spans e = e

-- spans that are left after the next pair's are taken out
pub left_more : (q : List ℕ) (earlier : List PairText) (p : PairText) (old new spans : List SpanModel) → new ≡ (if bytes_eq q p.key then [] else old) → old ≡ (if is_named q earlier then [] else spans) → new ≡ (if is_named q (earlier ++ p ∷ []) then [] else spans)
left_more q earlier p old new spans h e = rw (named_more q earlier p) (h ∙ left_cases (bytes_eq q p.key) (is_named q earlier) old spans e)

told_cases : (named : Bool) (spans g : List SpanModel) → g ≡ (if named then [] else spans) → several g ≡ (if named then [] else several spans)
told_cases true spans g e = rw e refl
told_cases false spans g e = rw e refl

pub told_more : (whole earlier later : List PairText) (p : PairText) (out out' total : List ErrorText) (g : List SpanModel) → g ≡ (if is_named p.key earlier then [] else spans_of p.key whole) → out' ≡ out ++ map repeat_text (several g) →
    out ++ map repeat_text (repeats_behind whole earlier (p ∷ later)) ≡ total → out' ++ map repeat_text (repeats_behind whole (earlier ++ p ∷ []) later) ≡ total
told_more whole earlier later p out out' total g same more h =
    let rest = repeats_behind whole (earlier ++ p ∷ []) later in
    rw more (append_assoc out (map repeat_text (several g)) (map repeat_text rest) ∙ ap (λ t. out ++ t) (sym (map-append repeat_text (several g) rest) ∙ ap (λ s. map repeat_text (s ++ rest)) (told_cases (is_named p.key earlier) (spans_of p.key whole) g same)) ∙ h)

pub earlier_more : (pairs : List Pair) (i : ℕ) (p : Pair) → i < length pairs → p ≡ get_or pairs i p → map pair_text (take (i + 1) pairs) ≡ map pair_text (take i pairs) ++ pair_text p ∷ []
earlier_more pairs i p below is = map_more pair_text pairs i p below ∙ ap (λ x. map pair_text (take i pairs) ++ pair_text x ∷ []) (sym is)

pub later_more : (pairs : List Pair) (i : ℕ) (p : Pair) → i < length pairs → p ≡ get_or pairs i p → map pair_text (drop i pairs) ≡ pair_text p ∷ map pair_text (drop (i + 1) pairs)
later_more pairs i p below is = at_drop_more (map pair_text) pairs i p below ∙ ap (λ x. pair_text x ∷ map pair_text (drop (i + 1) pairs)) (sym is)

or_assoc : {X : Type 0} (a b c : Option X) → option_or (option_or a b) c ≡ option_or a (option_or b c)
or_assoc None b c = refl
or_assoc (Some x) b c = refl

or_none : {X : Type 0} (a : Option X) → option_or None a ≡ option_or a None
or_none None = refl
or_none (Some x) = refl

said_push : (pairs : List PairText) (p : PairText) (q : List ℕ) → said_of (pairs ++ p ∷ []) q ≡ option_or (said_by p q) (said_of pairs q)
said_push [] p q = or_none (said_by p q)
said_push (x ∷ pairs) p q = ap (λ o. option_or o (said_by x q)) (said_push pairs p q) ∙ or_assoc (said_by p q) (said_of pairs q) (said_by x q)

value_cases : (t : Bool) (old : Option (HeaderValue SpanModel)) (v : HeaderValue SpanModel) (said : Option (SpanModel × ValueText SpanModel)) → option_map entry_text old ≡ said → option_map entry_text (if t then Some v else old) ≡ option_or (if t then Some (entry_text v) else None) said
value_cases true old v said h = refl
value_cases false old v said h = h

-- a header after one more pair
pub holds_more : (pairs : List Pair) (p : Pair) (key : String Global) (v : HeaderValue SpanModel) (old new : Marked (String Global) (HeaderValue SpanModel)) → string_bytes key ≡ string_bytes p.key → entry_text v ≡ ((pair_text p).at, (pair_text p).value) → SetsValue string_cmp old new key (Some v) → Holds old (map pair_text pairs) →
    Holds new (map pair_text (pairs ++ p ∷ []))
holds_more pairs p key v old new same is sets h = rw (map_push pair_text pairs p)
    (record {
      value = λ k. let test : is_at (string_cmp key) k ≡ bytes_eq (string_bytes key) (string_bytes k) = is_eq-slice_cmp (string_bytes key) (string_bytes k) in
          rw (said_push (map pair_text pairs) (pair_text p) (string_bytes k), sets.value k, test, same, ← is) (value_cases (bytes_eq (string_bytes p.key) (string_bytes k)) (value_at string_cmp old k) v _ (h.value k));
      marks = λ k. sets.marks k ∙ h.marks k;
      default = sets.default ∙ h.default;
    })
