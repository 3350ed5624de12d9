-- How takings fill the set of the rules that a rule reaches.
use Rattle.std.proofs.Common.{◌≡◌, ℕ, ◌+◌, ◌<◌, ◌≤◌, ◌⊎◌, inl, inr, Bool, false, List, [], ◌∷◌, ◌++◌, length, replicate, Some, slice_get, refl, sym, ap, ◌∙◌, subst, arith}
use Rattle.std.specs.Prelude.{IsTrue}
use Rattle.std.specs.List.{Contains}
use Rattle.std.proofs.lemmas.List.Elements.{Contains-push, Contains-push_cases, Contains-append_left}
use Rattle.std.proofs.lemmas.Bool.{cases_eq}
use Rattle.cfg_theory.specs.Grammar.{Sym, rule, token, Grammar, head_of, body_of}
use Rattle.cfg_numbered.specs.Value.{productions_of}
use Rattle.vob.specs.Sets.{is_set, missing}
use Rattle.cfg_sets.specs.WorkLists.{Work, StandsFrom}
use Rattle.cfg_sets.specs.Paths.{IsReachedFrom, IsIn, HasPlace, with_rule, Reaches, ReachedOrWaits, AreFrom, IsReachClosedBut, ReachGoesOn}
use Rattle.vob.proofs.Bits.{none_set, put_in}
use Rattle.cfg_numbered.proofs.RuleLists.{listed}
use Rattle.cfg_sets.proofs.FollowFills.{is_rule}
use Rattle.cfg_sets.proofs.PathSteps.{NamedBelow, named_more}
use Rattle.cfg_sets.proofs.WorkSteps.{from_start}

-- ---- the set with a symbol

with_on : (old : List Bool) (X : Sym) (B : ℕ) → HasPlace old X → IsTrue (is_set old B) → IsTrue (is_set (with_rule old X) B)
with_on old (rule R) B lt h = (put_in old R B lt).1 (inl h)
with_on old (token t) B lt h = h

with_back : (old : List Bool) (X : Sym) (B : ℕ) → HasPlace old X → IsTrue (is_set (with_rule old X) B) → IsTrue (is_set old B) ⊎ (X ≡ rule B)
with_back old (rule R) B lt h = elim ((put_in old R B lt).0 h) [ inl x ↦ inl x | inr e ↦ inr (ap rule e) ]
with_back old (token t) B lt h = inl h

with_here : (old : List Bool) (X : Sym) (B : ℕ) → HasPlace old X → X ≡ rule B → IsTrue (is_set (with_rule old X) B)
with_here old (rule R) B lt e = let same : R ≡ B = cc in (put_in old R B lt).1 (inr same)
with_here old (token t) B lt e = cc

in_it : (old : List Bool) (X : Sym) → HasPlace old X → IsIn (with_rule old X) X
in_it old (rule R) lt = with_here old (rule R) R lt refl
in_it old (token t) lt = tt

-- ---- one symbol

pub reaches_same : (X : Sym) (old new : List Bool) (w : Work) → new ≡ with_rule old X → new ≡ old → Reaches X old new w w
reaches_same X old new w bits still = record {
  bits = bits;
  waits = inl still;
  list = λ A h. h;
  only = λ A h. inl h;
  rules = refl;
  room = let same = ap missing still in omega (arith, same);
}

pub reaches_rule : (R : ℕ) (old new : List Bool) (was is : Work) → new ≡ with_rule old (rule R) → missing new < missing old → Contains is.list R → ((A : ℕ) → Contains was.list A → Contains is.list A) → ((A : ℕ) → Contains is.list A → Contains was.list A ⊎ (A ≡ R)) → is.rules ≡ was.rules → length is.list ≤ length was.list + 1 → Reaches (rule R) old new was is
reaches_rule R old new was is bits fewer waits list only rules longer = record {
  bits = bits;
  waits = inr (λ A e. let same : R ≡ A = cc in subst (Contains is.list) same waits);
  list = list;
  only = λ A h. elim (only A h) [ inl w ↦ inl w | inr e ↦ inr (ap rule (sym e)) ];
  rules = rules;
  room = omega (arith, fewer, longer);
}

pub reaches_token : (t : ℕ) (old new : List Bool) (w : Work) → new ≡ old → Reaches (token t) old new w w
reaches_token t old new w bits = reaches_same (token t) old new w bits bits

-- ---- one production

pub went_none : (G : Grammar) (A : ℕ) (bits : List Bool) (w : Work) → ReachGoesOn G A bits bits w w
went_none G A bits w = record { kept = λ B h. h; closed = λ p h. h; from = λ h. h; rules = refl; room = omega arith }

module _ (X : Sym) (old new : List Bool) (was is : Work) (place : HasPlace old X) (h : Reaches X old new was is) where
  pub reached_on : (B : ℕ) → IsTrue (is_set old B) → IsTrue (is_set new B)
  reached_on B x = subst (λ l. IsTrue (is_set l B)) (sym h.bits) (with_on old X B place x)

  pub reached_back : (B : ℕ) → IsTrue (is_set new B) → IsTrue (is_set old B) ⊎ (X ≡ rule B)
  reached_back B x = with_back old X B place (subst (λ l. IsTrue (is_set l B)) h.bits x)

  pub named_next : (G : Grammar) (p n : ℕ) → slice_get (body_of G p) n ≡ Some X → NamedBelow G p n old → NamedBelow G p (n + 1) new
  named_next G p n at below = named_more G p n X new at (λ d R lt next. reached_on R (below d R lt next), subst (λ l. IsIn l X) (sym h.bits) (in_it old X place))

module _ (G : Grammar) (A : ℕ) (X : Sym) (old new : List Bool) (was is : Work) (place : HasPlace old X) (h : Reaches X old new was is) where
  on : (B : ℕ) → IsTrue (is_set old B) → IsTrue (is_set new B)
  on = reached_on X old new was is place h

  back : (B : ℕ) → IsTrue (is_set new B) → IsTrue (is_set old B) ⊎ (X ≡ rule B)
  back = reached_back X old new was is place h

  still : (p : ℕ) → (X ≡ rule (head_of G p) → ⊥) → IsReachedFrom G A p old → IsReachedFrom G A p new
  still p ne r from d R next = on R (r (elim from [ inl e ↦ inl e | inr x ↦ inr (elim (back (head_of G p) x) [ inl y ↦ y | inr e ↦ absurd (ne e) ]) ]) d R next)

  closed_on : (p : ℕ) → ReachedOrWaits G A old was.list p → ReachedOrWaits G A new is.list p
  closed_on p (inr w) = inr (h.list (head_of G p) w)
  closed_on p (inl r) = elim h.waits [
    | inl e ↦ inl (subst (IsReachedFrom G A p) (sym e) r)
    | inr all ↦ elim (is_rule X (head_of G p)) [ inl e ↦ inr (all (head_of G p) e) | inr ne ↦ inl (still p ne r) ]
  ]

  from_on : AreFrom A old was.list → AreFrom A new is.list
  from_on f B x = elim (h.only B x) [
    | inl w ↦ elim (f B w) [ inl e ↦ inl e | inr y ↦ inr (on B y) ]
    | inr e ↦ inr (subst (λ l. IsTrue (is_set l B)) (sym h.bits) (with_here old X B place e))
  ]

  pub went_more : (start : List Bool) (first : Work) → ReachGoesOn G A start old first was → ReachGoesOn G A start new first is
  went_more start first g = record {
    kept = λ B x. on B (g.kept B x);
    closed = λ p x. closed_on p (g.closed p x);
    from = λ f. from_on (g.from f);
    rules = h.rules ∙ g.rules;
    room = let a = g.room in let b = h.room in omega (arith, a, b);
  }

-- ---- the productions of a rule

pub taken_off : (G : Grammar) (A : ℕ) (bits : List Bool) (work : List ℕ) (R p : ℕ) → p < length G.productions → ReachedOrWaits G A bits (work ++ R ∷ []) p → ReachedOrWaits G A bits work p ⊎ StandsFrom (productions_of G R) 0 p
taken_off G A bits work R p lt (inl r) = inl (inl r)
taken_off G A bits work R p lt (inr waits) = elim (Contains-push_cases work R (head_of G p) waits) [
  | inl w ↦ inl (inr w)
  | inr e ↦ inr (from_start (productions_of G R) p (subst (λ B. Contains (productions_of G B) p) (sym e) (listed G p lt)))
]

pub from_rest : (A : ℕ) (bits : List Bool) (work : List ℕ) (R : ℕ) → AreFrom A bits (work ++ R ∷ []) → AreFrom A bits work × ((R ≡ A) ⊎ IsTrue (is_set bits R))
from_rest A bits work R h = (λ B w. h B (before B w), h R (Contains-push work R))
  where
    before : (B : ℕ) → Contains work B → Contains (work ++ R ∷ []) B
    before B w = Contains-append_left work (R ∷ []) B w

-- where no rule waits, all is reached
pub reached_all : (G : Grammar) (A : ℕ) (bits : List Bool) → IsReachClosedBut G A bits [] → (p : ℕ) → p < length G.productions → IsReachedFrom G A p bits
reached_all G A bits h p lt = by (h.closed p lt)
  where
    by : ReachedOrWaits G A bits [] p → IsReachedFrom G A p bits
    by (inl r) = r
    by (inr (k, within, e)) = absurd (omega (arith, within))

-- where the first rule alone waits, and none is reached
pub first_waits : (G : Grammar) (A n : ℕ) (bits : List Bool) (list : List ℕ) → bits ≡ replicate n false → Contains list A → ((B : ℕ) → Contains list B → B ≡ A) → IsReachClosedBut G A bits list
first_waits G A n bits list none waits only = record {
  closed = λ p lt. elim (cases_eq (head_of G p) A) [
    | inl e ↦ inr (subst (Contains list) (sym e) waits)
    | inr ne ↦ inl (λ from d R next. absurd (elim from [ inl e ↦ ne e | inr x ↦ none_set n (head_of G p) (subst (λ l. IsTrue (is_set l (head_of G p))) none x) ]))
  ];
  from = λ B w. inl (only B w);
}

pub one_waits : (A n : ℕ) (old new : List ℕ) → old ≡ [] → n ≡ A → ((B : ℕ) → Contains new B → Contains old B ⊎ (B ≡ n)) → (B : ℕ) → Contains new B → B ≡ A
one_waits A n old new none same only B w = elim (only B w) [ inl h ↦ absurd (nothing (subst (λ l. Contains l B) none h)) | inr e ↦ e ∙ same ]
  where
    nothing : Contains [] B → ⊥
    nothing (k, within, e) = omega (arith, within)
