-- Marking the rules to which a rule passes its lookaheads on.
use Rattle.std.proofs.Common.{◌≡◌, ℕ, ◌+◌, ◌<◌, ◌⊎◌, inl, inr, ◌↔◌, Bool, true, false, List, [], ◌∷◌, ◌++◌, length, get_or, replicate, refl, sym, ap, ◌∙◌, subst}
use Rattle.std.specs.Prelude.{map, take, IsTrue}
use Rattle.std.specs.List.{Contains}
use Rattle.std.proofs.lemmas.List.{length-replicate}
use Rattle.std.proofs.lemmas.List.Elements.{Contains-append_left, Contains-push, Contains-push_cases}
use Rattle.table_theory.proofs.CellLists.{contains_nil, contains_head, contains_cases}
use Rattle.vob.specs.Sets.{is_set}
use Rattle.vob.proofs.Bits.{none_set}
use Rattle.lrtable.specs.Opening.{Front}
use Rattle.lrtable.specs.Pruning.{Marks}
use Rattle.lrtable.specs.Reaching.{PassesTo, PassedIn}
use Rattle.lrtable.proofs.Marking.{marks_none, marks_on}
use Rattle.lrtable.proofs.OpenLaws.{map_next}

never : false ≡ true → ⊥
never e = cc

one_is : (e f : Front) → Contains (e ∷ []) f → e ≡ f
one_is e f m = elim (contains_cases e f [] m) [ inl q ↦ q | inr k ↦ absurd (contains_nil f k) ]

-- one front
pub passed_one : (e : Front) (a b : List Bool) (u v : List ℕ) → IsTrue e.nullable → Marks (λ s. e.rule ≡ s) a b u v → Marks (PassedIn (e ∷ [])) a b u v
passed_one e a b u v n h = record {
  size = h.size;
  flags = λ s. (
    λ x. elim ((h.flags s).0 x) [ inl y ↦ inl y | inr q ↦ inr (e, contains_head e [], n, q) ],
    λ x. (h.flags s).1 (elim x [ inl y ↦ inl y | inr y ↦ inr (ap (λ (f : Front). f.rule) (one_is e y.0 y.1) ∙ y.3) ]),
  );
  told = h.told;
  still = h.still;
  only = h.only;
  fewer = h.fewer;
}

pub passed_not : (e : Front) (flags : List Bool) (waiting : List ℕ) → e.nullable ≡ false → Marks (PassedIn (e ∷ [])) flags flags waiting waiting
passed_not e flags waiting n = marks_none (PassedIn (e ∷ [])) flags waiting (λ s y. never (sym (ap (λ (f : Front). f.nullable) (sym (one_is e y.0 y.1)) ∙ n) ∙ y.2))

pub passed_none : (flags : List Bool) (waiting : List ℕ) → Marks (PassedIn []) flags flags waiting waiting
passed_none flags waiting = marks_none (PassedIn []) flags waiting (λ s y. contains_nil y.0 y.1)

pub passed_more : {X : Type 0} (f : X → Front) (xs : List X) (i : ℕ) (x : X) (a b c : List Bool) (u v w : List ℕ) → i < length xs → x ≡ get_or xs i x → Marks (PassedIn (map f (take i xs))) a b u v → Marks (PassedIn (f x ∷ [])) b c v w → Marks (PassedIn (map f (take (i + 1) xs))) a c u w
passed_more f xs i x a b c u v w lt is h k = subst (λ (l : List Front). Marks (PassedIn l) a c u w) (sym (map_next f xs i x lt is)) (marks_on (PassedIn es) (PassedIn (f x ∷ [])) (PassedIn (es ++ f x ∷ [])) a b c u v w same h k)
  where
    es : List Front
    es = map f (take i xs)

    same : (s : ℕ) → (PassedIn es s ⊎ PassedIn (f x ∷ []) s) ↔ PassedIn (es ++ f x ∷ []) s
    same s = (
      λ y. elim y [
        | inl z ↦ (z.0, Contains-append_left es (f x ∷ []) z.0 z.1, z.2, z.3)
        | inr z ↦ (f x, Contains-push es (f x), ap (λ (e : Front). e.nullable) (one_is (f x) z.0 z.1) ∙ z.2, ap (λ (e : Front). e.rule) (one_is (f x) z.0 z.1) ∙ z.3)
      ],
      λ y. elim (Contains-push_cases es (f x) y.0 y.1) [
        | inl m ↦ inl (y.0, m, y.2, y.3)
        | inr q ↦ inr (f x, contains_head (f x) [], ap (λ (e : Front). e.nullable) q ∙ y.2, ap (λ (e : Front). e.rule) q ∙ y.3)
      ],
    )

-- how far the marking has come: each marked rule waits, or those to which it passes on at once are marked
pub record ArePassing (fronts : List (List Front)) (A : ℕ) (marked : List Bool) (waiting : List ℕ) : Type 0 where
  pub size : length marked ≡ length fronts
  pub start : IsTrue (is_set marked A)
  pub sound : (B : ℕ) → IsTrue (is_set marked B) → PassesTo fronts A B
  pub waits : (B : ℕ) → Contains waiting B → IsTrue (is_set marked B)
  pub closed : (B : ℕ) → IsTrue (is_set marked B) → Contains waiting B ⊎ ((C : ℕ) → PassedIn (get_or fronts B []) C → IsTrue (is_set marked C))

pub passing_begins : (fronts : List (List Front)) (A : ℕ) (none flags : List Bool) (n : ℕ) (waiting now : List ℕ) → n ≡ length fronts → none ≡ replicate n false → waiting ≡ [] → Marks (λ s. A ≡ s) none flags waiting now → ArePassing fronts A flags now
passing_begins fronts A none flags n waiting now count empty no_one h = record {
  size = h.size ∙ ap length empty ∙ length-replicate n false ∙ count;
  start = (h.flags A).1 (inr refl);
  sound = λ B x. elim ((h.flags B).0 x) [ inl y ↦ absurd (unset B y) | inr e ↦ subst (λ C. PassesTo fronts A C) e PassesTo.here ];
  waits = λ B x. elim (h.only B x) [ inl y ↦ absurd (contains_nil B (subst (λ (l : List ℕ). Contains l B) no_one y)) | inr y ↦ y ];
  closed = λ B x. elim (h.told B x) [ inl y ↦ absurd (unset B y) | inr y ↦ inl y ];
}
  where
    unset : (B : ℕ) → IsTrue (is_set none B) → ⊥
    unset B x = none_set n B (subst (λ (l : List Bool). IsTrue (is_set l B)) empty x)

pub passing_goes_on : (fronts : List (List Front)) (A : ℕ) (old new : List Bool) (n : ℕ) (waiting now : List ℕ) → ArePassing fronts A old (waiting ++ n ∷ []) → Marks (PassedIn (get_or fronts n [])) old new waiting now → ArePassing fronts A new now
passing_goes_on fronts A old new n waiting now h m = record {
  size = m.size ∙ h.size;
  start = (m.flags A).1 (inl h.start);
  sound = λ B x. elim ((m.flags B).0 x) [ inl y ↦ h.sound B y | inr y ↦ PassesTo.next y.0 (h.sound n marked) y.1 y.3 y.2 ];
  waits = λ B x. elim (m.only B x) [ inl y ↦ (m.flags B).1 (inl (h.waits B (Contains-append_left waiting (n ∷ []) B y))) | inr y ↦ y ];
  closed = λ B x. elim (m.told B x) [ inl y ↦ before B (h.closed B y) | inr y ↦ inl y ];
}
  where
    marked : IsTrue (is_set old n)
    marked = h.waits n (Contains-push waiting n)

    before : (B : ℕ) → Contains (waiting ++ n ∷ []) B ⊎ ((C : ℕ) → PassedIn (get_or fronts B []) C → IsTrue (is_set old C)) → Contains now B ⊎ ((C : ℕ) → PassedIn (get_or fronts B []) C → IsTrue (is_set new C))
    before B (inl c) = elim (Contains-push_cases waiting n B c) [
      | inl y ↦ inl (m.still B y)
      | inr e ↦ inr (subst (λ r. (C : ℕ) → PassedIn (get_or fronts r []) C → IsTrue (is_set new C)) e (λ C t. (m.flags C).1 (inr t)))
    ]
    before B (inr all) = inr (λ C t. (m.flags C).1 (inl (all C t)))

pub passing_ends : (fronts : List (List Front)) (A : ℕ) (flags : List Bool) → ArePassing fronts A flags [] → (B : ℕ) → IsTrue (is_set flags B) ↔ PassesTo fronts A B
passing_ends fronts A flags h B = (h.sound B, all B)
  where
    all : (B : ℕ) → PassesTo fronts A B → IsTrue (is_set flags B)
    all _ PassesTo.here = h.start
    all B (PassesTo.next {B = C} e l m q n) = elim (h.closed C (all C l)) [ inl c ↦ absurd (contains_nil C c) | inr each ↦ each B (e, m, n, q) ]
