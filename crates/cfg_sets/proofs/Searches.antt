-- Steps of a search for the rules that derive some text.
use Rattle.std.proofs.Common.{◌≡◌, ℕ, zero, suc, ◌+◌, ◌<◌, ◌≤◌, ◌⊎◌, ◌↔◌, inl, inr, Bool, true, false, List, [], ◌∷◌, ◌++◌, length, get_or, set, Option, None, Some, slice_get, refl, sym, ap, ◌∙◌, subst, arith, length-append}
use Rattle.std.specs.Prelude.{IfSome, IsTrue}
use Rattle.std.specs.List.{Contains}
use Rattle.std.proofs.lemmas.List.{length-set, get_or-set_other}
use Rattle.std.proofs.lemmas.List.Elements.{Contains-push, Contains-push_cases, Contains-append_left}
use Rattle.std.proofs.lemmas.Bool.{cases_eq}
use Rattle.vob.specs.Sets.{is_set, missing}
use Rattle.cfg_sets.specs.WorkLists.{ListsNaming, StandsFrom}
use Rattle.vob.proofs.Bits.{put_in, put_fills, put_again}
use Rattle.cfg_sets.proofs.WorkSteps.{none_left, taken_off}
use Rattle.cfg_theory.specs.Derivation.{IsProductive}
use Rattle.cfg_theory.specs.Grammar.{Sym, rule, token, Grammar, WellFormed, IsNext, IsOf, head_of, body_of}
use Rattle.cfg_theory.specs.Productive.{RulesIn, ProductiveIsExact, ProductiveTablesAreExact}
use Rattle.cfg_theory.proofs.Derivation.{derives_rule}
use Rattle.cfg_theory.proofs.Productive.{list_of}
use Rattle.cfg_sets.specs.Productive.{EachProductive}
use Rattle.cfg_theory.specs.Decides.{Decides}
use Rattle.cfg_sets.specs.Searching.{AllFoundFrom, IsLookedAt, IsSearch, KeepsLooks, LooksAt, NamesUnfound, TellsHeld, TellsHold}
use Rattle.cfg_sets.specs.declared.productive.Search.{Search}

-- ---- symbols of a production

same_sym : (X Y : Sym) → Some X ≡ Some Y → X ≡ Y
same_sym X Y e = cc

within : (l : List Sym) (k : ℕ) (Y : Sym) → slice_get l k ≡ Some Y → k < length l
within [] k Y q = cc
within (x ∷ l) zero Y q = omega arith
within (x ∷ l) (suc k) Y q = let h = within l k Y q in omega (arith, h)

-- a symbol that is held up is a rule that isn't found
pub names_unfound : (G : Grammar) (found : List Bool) (p i : ℕ) (X : Sym) → slice_get (body_of G p) i ≡ Some X → TellsHeld found X true → NamesUnfound G found p
names_unfound G found p i (rule A) at h = (A, i, record { at = at }, h)
names_unfound G found p i (token t) at h = absurd h

passed : (found : List Bool) (X : Sym) (A : ℕ) → X ≡ rule A → TellsHeld found X false → IsTrue (is_set found A)
passed found X A e h = subst (λ Y. TellsHeld found Y false) e h

-- one symbol more was passed
pub found_more : (G : Grammar) (found : List Bool) (p start i : ℕ) (X : Sym) → slice_get (body_of G p) i ≡ Some X → TellsHeld found X false →
    ((d A : ℕ) → start ≤ d → d < i → IsNext G p d (rule A) → IsTrue (is_set found A)) → (d A : ℕ) → start ≤ d → d < i + 1 → IsNext G p d (rule A) → IsTrue (is_set found A)
found_more G found p start i X at h below d A le lt next = elim (cases_eq d i) [
  | inl e ↦ passed found X A (same_sym X (rule A) (sym at ∙ ap (slice_get (body_of G p)) (sym e) ∙ next.at)) h
  | inr ne ↦ below d A le (omega (arith, lt, ne)) next
]

pub found_all : (G : Grammar) (found : List Bool) (p start i : ℕ) → length (body_of G p) ≤ i → ((d A : ℕ) → start ≤ d → d < i → IsNext G p d (rule A) → IsTrue (is_set found A)) → AllFoundFrom G found p start
found_all G found p start i end below d A le next = below d A le (let lt = within (body_of G p) d (rule A) next.at in omega (arith, lt, end)) next

pub tells_hold : (G : Grammar) (found : List Bool) (p : ℕ) (o : Option ℕ) → IfSome o (λ d. NamesUnfound G found p) → (o ≡ None → AllFoundFrom G found p 0) → TellsHold G found p o
tells_hold G found p None some none = none refl
tells_hold G found p (Some d) some none = some

-- ---- a production is held up

pub held : (G : Grammar) (p : ℕ) (s t : Search) → IsSearch G s → NamesUnfound G s.found.bits p → t.found.bits ≡ s.found.bits → t.work.items ≡ s.work.items → length t.hints.items ≡ length s.hints.items → LooksAt G p s t
held G p s t is names found work hints = record {
  is_search = record {
    rules = ap length found ∙ is.rules;
    hints = hints ∙ is.hints;
    productive = λ A h. is.productive A (subst (λ l. IsTrue (is_set l A)) found h);
    work = λ A c. is.work A (subst (λ l. Contains l A) work c);
  };
  kept = λ q h. same q h;
  here = same p (inr (inl names));
  less = let m = ap missing found in let n = ap length work in omega (arith, m, n);
}
  where
    same : KeepsLooks G s t
    same q h = subst (λ l. IsLookedAt G l t.work.items q) (sym found) (subst (λ l. IsLookedAt G s.found.bits l q) (sym work) h)

-- ---- its rule is found

rules_at : (P : ℕ → Type 0) (a : List Sym) → ((d A : ℕ) → slice_get a d ≡ Some (rule A) → P A) → RulesIn P a
rules_at P [] h = tt
rules_at P (rule A ∷ a) h = (h zero A refl, rules_at P a (λ d. h (suc d)))
rules_at P (token t ∷ a) h = rules_at P a (λ d. h (suc d))

module _ (G : Grammar) (p A : ℕ) (s t : Search) (good : WellFormed G) (lt : p < length G.productions) (head : head_of G p ≡ A) (is : IsSearch G s)
    (all : AllFoundFrom G s.found.bits p 0) (found : t.found.bits ≡ set s.found.bits A true) (hints : length t.hints.items ≡ length s.hints.items) where
  is_of : IsOf G p A
  is_of = record { in_range = lt; head = head }

  pub in_rules : A < length s.found.bits
  in_rules = let a = good.heads p A is_of in let b = is.rules in omega (arith, a, b)

  set_now : (B : ℕ) → IsTrue (is_set t.found.bits B) ↔ (IsTrue (is_set s.found.bits B) ⊎ (A ≡ B))
  set_now B = subst (λ l. IsTrue (is_set l B) ↔ (IsTrue (is_set s.found.bits B) ⊎ (A ≡ B))) (sym found) (put_in s.found.bits A B in_rules)

  own_productive : IsProductive G A
  own_productive =
      let (w, d) = list_of G (IsProductive G) (λ B h. h) (body_of G p) (rules_at (IsProductive G) (body_of G p) (λ d B e. is.productive B (all d B (omega arith) (record { at = e })))) in
      (w, derives_rule G is_of d)

  productive_now : (B : ℕ) → IsTrue (is_set t.found.bits B) → IsProductive G B
  productive_now B h = elim ((set_now B).0 h) [ inl old ↦ is.productive B old | inr e ↦ subst (IsProductive G) e own_productive ]

  here_now : IsTrue (is_set t.found.bits (head_of G p))
  here_now = (set_now (head_of G p)).1 (inr (sym head))

  is_search_now : ((B : ℕ) → Contains t.work.items B → Contains s.work.items B ⊎ (A ≡ B)) → IsSearch G t
  is_search_now only = record {
    rules = ap length found ∙ length-set s.found.bits A true ∙ is.rules;
    hints = hints ∙ is.hints;
    productive = productive_now;
    work = λ B c. elim (only B c) [ inl old ↦ is.work B old | inr e ↦ subst (λ C. C < G.rules) e (good.heads p A is_of) ];
  }

  kept_now : ((B : ℕ) → Contains s.work.items B → Contains t.work.items B) → ((B : ℕ) → A ≡ B → is_set s.found.bits B ≡ false → Contains t.work.items B) → KeepsLooks G s t
  kept_now more waits q (inl h) = inl ((set_now (head_of G q)).1 (inl h))
  kept_now more waits q (inr (inl (B, d, next, unset))) = elim (cases_eq A B) [
    | inl e ↦ inr (inr (B, d, next, waits B e unset))
    | inr ne ↦ inr (inl (B, d, next, ap (λ l. is_set l B) found ∙ get_or-set_other s.found.bits A B true false (λ e. ne (sym e)) ∙ unset))
  ]
  kept_now more waits q (inr (inr (B, d, next, c))) = inr (inr (B, d, next, more B c))

  pub found_new : is_set s.found.bits A ≡ false → t.work.items ≡ s.work.items ++ A ∷ [] → LooksAt G p s t
  found_new unset work = record {
    is_search = is_search_now (λ B c. Contains-push_cases s.work.items A B (subst (λ l. Contains l B) work c));
    kept = kept_now (λ B c. subst (λ l. Contains l B) (sym work) (Contains-append_left s.work.items (A ∷ []) B c))
        (λ B e _. subst (λ l. Contains l B) (sym work) (subst (Contains (s.work.items ++ A ∷ [])) e (Contains-push s.work.items A)));
    here = inl here_now;
    less =
        let m = ap missing found in
        let less = put_fills s.found.bits A in_rules unset in
        let n = ap length work in
        let k = length-append s.work.items (A ∷ []) in
        omega (arith, m, less, n, k);
  }

  pub found_again : is_set s.found.bits A ≡ true → t.work.items ≡ s.work.items → LooksAt G p s t
  found_again was work = record {
    is_search = is_search_now (λ B c. inl (subst (λ l. Contains l B) work c));
    kept = kept_now (λ B c. subst (λ l. Contains l B) (sym work) c) (λ B e unset. absurd (true_false (sym was ∙ ap (is_set s.found.bits) e ∙ unset)));
    here = inl here_now;
    less = let m = ap missing (found ∙ put_again s.found.bits A in_rules was) in let n = ap length work in omega (arith, m, n);
  }
    where
      true_false : ◌≡◌ {A = Bool} true false → ⊥
      true_false e = cc

-- ---- all productions

pub looked_more : (P Q : ℕ → Type 0) (n : ℕ) → ((p : ℕ) → p < n → P p) → ((p : ℕ) → P p → Q p) → Q n → (p : ℕ) → p < n + 1 → Q p
looked_more P Q n below kept here p lt = elim (cases_eq p n) [ inl e ↦ subst Q (sym e) here | inr ne ↦ kept p (below p (omega (arith, lt, ne))) ]

-- a rule was taken off the list
pub taken : (G : Grammar) (lists : List (List ℕ)) (found : List Bool) (work : List ℕ) (A p : ℕ) → ListsNaming G (length G.productions) lists → p < length G.productions →
    IsLookedAt G found (work ++ A ∷ []) p → IsLookedAt G found work p ⊎ StandsFrom (get_or lists A []) 0 p
taken G lists found work A p naming lt (inl h) = inl (inl h)
taken G lists found work A p naming lt (inr (inl h)) = inl (inr (inl h))
taken G lists found work A p naming lt (inr (inr h)) = elim (taken_off G (length G.productions) lists work A p naming lt h) [ inl waits ↦ inl (inr (inr waits)) | inr stands ↦ inr stands ]

-- ---- the end

no_member : (x : ℕ) → Contains [] x → ⊥
no_member x (k, lt, e) = omega (arith, lt)

rule_in : (P : ℕ → Type 0) (a : List Sym) (d A : ℕ) → slice_get a d ≡ Some (rule A) → RulesIn P a → P A
rule_in P [] d A e h = cc
rule_in P (rule B ∷ a) zero A e h = let same : B ≡ A = cc in subst P same h.0
rule_in P (rule B ∷ a) (suc d) A e h = rule_in P a d A e h.1
rule_in P (token t ∷ a) zero A e h = cc
rule_in P (token t ∷ a) (suc d) A e h = rule_in P a d A e h

module _ (exact : ProductiveTablesAreExact) (G : Grammar) (s : Search) (is : IsSearch G s) (looked : (p : ℕ) → p < length G.productions → IsLookedAt G s.found.bits [] p) where
  abbrev Found : ℕ → Type 0
  Found A = IsTrue (is_set s.found.bits A)

  closed : (p A : ℕ) → IsOf G p A → RulesIn Found (body_of G p) → Found A
  closed p A o h = by (looked p o.in_range)
    where
      false_true : ◌≡◌ {A = Bool} false true → ⊥
      false_true e = cc

      by : IsLookedAt G s.found.bits [] p → Found A
      by (inl f) = subst Found o.head f
      by (inr (inl (B, d, next, unset))) = absurd (false_true (sym unset ∙ rule_in Found (body_of G p) d B next.at h))
      by (inr (inr (B, d, next, c))) = absurd (no_member B c)

  table : ProductiveIsExact G Found
  table = exact.exact G (is_set s.found.bits) (record { productive = is.productive; closed = closed })

  pub tells_each : (b : Bool) → Decides ((A : ℕ) → A < length s.found.bits → Found A) b → Decides (EachProductive G) b
  tells_each true all = λ A lt. is.productive A (all A (let n = is.rules in omega (arith, lt, n)))
  tells_each false not_all = λ each. not_all (λ A lt. (table.rule_productive A).1 (each A (let n = is.rules in omega (arith, lt, n))))

-- a bit that a write of true doesn't change was true
pub set_to : (b changed : Bool) → IsTrue changed ↔ (b ≡ false) → changed ≡ false → b ≡ true
set_to true changed h e = refl
set_to false changed h e = absurd (false_true (sym e ∙ h.1 refl))
  where
    false_true : ◌≡◌ {A = Bool} false true → ⊥
    false_true e = cc

pub still : (P : Type 0) (xs ys : List ℕ) (p : ℕ) → ys ≡ xs → P ⊎ StandsFrom xs 0 p → P ⊎ StandsFrom ys 0 p
still P xs ys p e h = subst (λ l. P ⊎ StandsFrom l 0 p) (sym e) h

pub stands_no : (P : Type 0) (xs : List ℕ) (i p : ℕ) → length xs ≤ i → P ⊎ StandsFrom xs i p → P
stands_no P xs i p le (inl h) = h
stands_no P xs i p le (inr h) = absurd (none_left xs i p le h)

-- the last rule of the list is taken off
pub popped : (G : Grammar) (s t : Search) (A : ℕ) → IsSearch G s → t.found.bits ≡ s.found.bits → t.hints.items ≡ s.hints.items → s.work.items ≡ t.work.items ++ A ∷ [] → (A < G.rules) × IsSearch G t
popped G s t A is found hints work = (
  is.work A (subst (λ l. Contains l A) (sym work) (Contains-push t.work.items A)),
  record {
    rules = ap length found ∙ is.rules;
    hints = ap length hints ∙ is.hints;
    productive = λ B h. is.productive B (subst (λ l. IsTrue (is_set l B)) found h);
    work = λ B c. is.work B (subst (λ l. Contains l B) (sym work) (Contains-append_left t.work.items (A ∷ []) B c));
  },
)
