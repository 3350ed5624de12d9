-- How productions fill the table of one list a rule, and what it says at the end.
use Rattle.std.proofs.Common.{◌≡◌, ℕ, zero, suc, ◌+◌, ◌<◌, ◌≤◌, ◌⊎◌, inl, inr, ◌↔◌, Bool, true, false, List, [], ◌∷◌, ◌++◌, length, get_or, set, drop, replicate, Option, Some, None, refl, sym, ap, ◌∙◌, subst, append_assoc, append-nil, arith}
use Rattle.std.specs.Prelude.{IsTrue, Contains, MatchOption}
use Rattle.std.proofs.lemmas.List.{get_or-set_same, get_or-set_other, length-set, length-replicate}
use Rattle.std.proofs.lemmas.Bool.{cases_eq}
use Rattle.cfg_theory.specs.Grammar.{Sym, rule, token, Grammar, WellFormed, head_of, body_of}
use Rattle.cfg_theory.specs.Productive.{RulesIn}
use Rattle.cfg_theory.specs.Cost.{cost, Has, IsCheapest, IsBefore}
use Rattle.cfg_theory.specs.CostTables.{Concatenates}
use Rattle.cfg_theory.specs.CheapestLists.{IsTight, HaveCosts, ListsOfWantedRules}
use Rattle.cfg_theory.proofs.Lists.{get_from_drop}
use Rattle.cfg_base.specs.declared.symbol.Symbol.{Symbol}
use Rattle.cfg_numbered.specs.Symbols.{sym_of, syms_of}
use Rattle.vob.specs.Sets.{is_set}
use Rattle.cfg_sets.specs.WorkLists.{TakesIn}
use Rattle.cfg_sentences.specs.CostTable.{bound, cost_in, AreCosts, IsClosedBy}
use Rattle.cfg_sentences.specs.CheapestTable.{GivesLeast, IsHandedOn, IsFirstCheapest}
use Rattle.cfg_sentences.specs.SharedLists.{IsLead}
use Rattle.cfg_sentences.specs.EarliestTable.{HasLead, as_lists, found_in, GivesNone, GivesOne, ComesFirst, AreFound, FoundLists, IsTakenIn, room_in}
use Rattle.cfg_sentences.proofs.ProdSteps.{IsAt, idle, concatenates_same, takes_in}
use Rattle.cfg_sentences.proofs.ForkedLists.{forks_on, lead_is_first, all_led}
use Rattle.cfg_sentences.proofs.CostSteps.{is_least}
use Rattle.cfg_sentences.proofs.CheapestSteps.{none_cheaper, gives, wanted_head, named_wanted}

some_same : (m n : ℕ) → Some m ≡ Some n → m ≡ n
some_same m n e = cc

false_true : ◌≡◌ {A = Bool} false true → ⊥
false_true e = cc

true_false : ◌≡◌ {A = Bool} true false → ⊥
true_false e = cc

-- ---- one list or none

is_only : (o : Option (List ℕ)) (w : List ℕ) → Contains (as_lists o) w → o ≡ Some w
is_only None w (k, lt, e) = absurd (omega (arith, lt))
is_only (Some v) w (zero, lt, e) = ap Some e
is_only (Some v) w (suc k, lt, e) = absurd (omega (arith, lt))

has_only : (o : Option (List ℕ)) (w : List ℕ) → o ≡ Some w → Contains (as_lists o) w
has_only o w e = subst (λ r. Contains (as_lists r) w) (sym e) (0, omega arith, refl)

-- ---- what symbols put together

-- what a puts together is the list l with what the rest puts together behind it
abbrev pub Rests : List (Option (List ℕ)) → List Sym → List Sym → List ℕ → Type 0
Rests K a rest l = (w : List ℕ) → Concatenates (found_in K) a w ↔ ((v : List ℕ) × Concatenates (found_in K) rest v × (w ≡ l ++ v))

module _ (K : List (Option (List ℕ))) (a : List Sym) where
  pub rests_all : (rest : List Sym) (l : List ℕ) → rest ≡ a → l ≡ [] → Rests K a rest l
  rests_all rest l e q w = subst (λ b. Concatenates (found_in K) a w ↔ ((v : List ℕ) × Concatenates (found_in K) b v × (w ≡ l ++ v))) (sym e)
      (subst (λ m. Concatenates (found_in K) a w ↔ ((v : List ℕ) × Concatenates (found_in K) a v × (w ≡ m ++ v))) (sym q) ((λ c. (w, c, refl)), λ h. subst (Concatenates (found_in K) a) (sym h.2) h.1))

  pub rests_rule : (A : ℕ) (rest all : List Sym) (l u new : List ℕ) → get_or K A None ≡ Some u → all ≡ rule A ∷ rest → new ≡ l ++ u → Rests K a all l → Rests K a rest new
  rests_rule A rest all l u new kept e q h w = (there, back)
    where
      here : Rests K a (rule A ∷ rest) l
      here = subst (λ b. Rests K a b l) e h

      there : Concatenates (found_in K) a w → (v : List ℕ) × Concatenates (found_in K) rest v × (w ≡ new ++ v)
      there c =
          let (v, (x, y, i, j, z), r) = (here w).0 c in
          let same : Some u ≡ Some x = sym kept ∙ is_only (get_or K A None) x i in
          let xs : x ≡ u = (let s : Some u ≡ Some x → x ≡ u = (λ k. cc) in s same) in
          (y, j, r ∙ ap (λ m. l ++ m) (z ∙ ap (λ m. m ++ y) xs) ∙ sym (append_assoc l u y) ∙ ap (λ m. m ++ y) (sym q))

      back : (v : List ℕ) × Concatenates (found_in K) rest v × (w ≡ new ++ v) → Concatenates (found_in K) a w
      back (v, c, r) = (here w).1 (u ++ v, (u, v, has_only (get_or K A None) u kept, c, refl), r ∙ ap (λ m. m ++ v) q ∙ append_assoc l u v)

  pub rests_token : (t : ℕ) (rest all : List Sym) (l new : List ℕ) → all ≡ token t ∷ rest → new ≡ l ++ t ∷ [] → Rests K a all l → Rests K a rest new
  rests_token t rest all l new e q h w = (there, back)
    where
      here : Rests K a (token t ∷ rest) l
      here = subst (λ b. Rests K a b l) e h

      there : Concatenates (found_in K) a w → (v : List ℕ) × Concatenates (found_in K) rest v × (w ≡ new ++ v)
      there c =
          let (v, (y, j, z), r) = (here w).0 c in
          (y, j, r ∙ ap (λ m. l ++ m) z ∙ sym (append_assoc l (t ∷ []) y) ∙ ap (λ m. m ++ y) (sym q))

      back : (v : List ℕ) × Concatenates (found_in K) rest v × (w ≡ new ++ v) → Concatenates (found_in K) a w
      back (v, c, r) = (here w).1 (t ∷ v, (v, c, refl), r ∙ ap (λ m. m ++ v) q ∙ append_assoc l (t ∷ []) v)

  pub rests_none : (A : ℕ) (rest all : List Sym) (l : List ℕ) → get_or K A None ≡ None → all ≡ rule A ∷ rest → Rests K a all l → GivesNone K a
  rests_none A rest all l kept e h w c =
      let (v, (x, y, i, j, z), r) = (subst (λ b. Rests K a b l) e h w).0 c in
      nothing x (sym kept ∙ is_only (get_or K A None) x i)
    where
      nothing : (x : List ℕ) → None ≡ Some x → ⊥
      nothing x q = cc

  pub rests_done : (all : List Sym) (l : List ℕ) → all ≡ [] → Rests K a all l → GivesOne K a l
  rests_done all l e h v =
      let here : Rests K a [] l = subst (λ b. Rests K a b l) e h in
      ((λ c. let (u, i, r) = (here v).0 c in r ∙ ap (λ m. l ++ m) i ∙ append-nil l), λ q. (here v).1 ([], refl, q ∙ sym (append-nil l)))

-- ---- lists as a program keeps them

-- the rule of a symbol in the list
pub rule_below : (n : ℕ) (a : List Sym) (i A : ℕ) (rest : List Sym) → RulesIn (λ B. B < n) a → drop i a ≡ rule A ∷ rest → A < n
rule_below n [] zero A rest h e = cc
rule_below n [] (suc i) A rest h e = cc
rule_below n (rule B ∷ a) zero A rest h e = let same : B ≡ A = head_same B A a rest e in subst (λ k. k < n) same h.0
  where
    head_same : (B A : ℕ) (a b : List Sym) → rule B ∷ a ≡ rule A ∷ b → B ≡ A
    head_same B A a b q = cc
rule_below n (token t ∷ a) zero A rest h e = cc
rule_below n (rule B ∷ a) (suc i) A rest h e = rule_below n a i A rest h.1 e
rule_below n (token t ∷ a) (suc i) A rest h e = rule_below n a i A rest h e

module _ {S : Type 0} (number : S → ℕ) where
  pub symbols_next : (xs : List (Symbol S)) (i : ℕ) (x d : Symbol S) → i < length xs → get_or xs i d ≡ x → drop i (syms_of number xs) ≡ sym_of number x ∷ drop (i + 1) (syms_of number xs)
  symbols_next xs i x d lt e = let n : suc i ≡ i + 1 = omega arith in from xs i lt e ∙ ap (λ k. sym_of number x ∷ drop k (syms_of number xs)) n
    where
      from : (l : List (Symbol S)) (k : ℕ) → k < length l → get_or l k d ≡ x → drop k (syms_of number l) ≡ sym_of number x ∷ drop (suc k) (syms_of number l)
      from [] k less q = absurd (omega (arith, less))
      from (y ∷ l) zero less q = ap (λ z. sym_of number z ∷ syms_of number l) q
      from (y ∷ l) (suc k) less q = from l k (omega (arith, less)) q

-- what the making of a body's list tells
module _ (K : List (Option (List ℕ))) (lists : List (List ℕ)) (symbols body : List Sym) (o : Option ℕ) (q : symbols ≡ body) (h : MatchOption o (GivesNone K symbols) (λ k. (k < length lists) × GivesOne K symbols (get_or lists k []))) where
  pub gave_none : o ≡ None → GivesNone K body
  gave_none is = subst (GivesNone K) q (subst (λ (r : Option ℕ). MatchOption r (GivesNone K symbols) (λ k. (k < length lists) × GivesOne K symbols (get_or lists k []))) is h)

  pub gave_one : (k : ℕ) → o ≡ Some k → (k < length lists) × GivesOne K body (get_or lists k [])
  gave_one k is = subst (λ a. (k < length lists) × GivesOne K a (get_or lists k [])) q (subst (λ (r : Option ℕ). MatchOption r (GivesNone K symbols) (λ k. (k < length lists) × GivesOne K symbols (get_or lists k []))) is h)

-- ---- one production

-- the rules that a body names are below the count
pub body_below : (G : Grammar) (n p : ℕ) → WellFormed G → n ≡ G.rules → RulesIn (λ A. A < n) (body_of G p)
body_below G n p good count = from (body_of G p) 0 refl
  where
    from : (a : List Sym) (d : ℕ) → drop d (body_of G p) ≡ a → RulesIn (λ A. A < n) a
    from [] d e = tt
    from (rule A ∷ a) d e = let r = get_from_drop (body_of G p) d (rule A) a e in (subst (λ m. A < m) (sym count) (good.symbols p d (rule A) (record { at = r.0 })), from a (suc d) r.1)
    from (token t ∷ a) d e = let r = get_from_drop (body_of G p) d (token t) a e in from a (suc d) r.1

module _ (G : Grammar) (f : ℕ → ℕ) (least : List (Option ℕ)) (wanted : List Bool) (p : ℕ) (K : List (Option (List ℕ))) (told : Bool) (left : ℕ) where
  abbrev pub was : FoundLists
  was = record { table = K; is_told = told; left = left }

  abbrev pub Finds : FoundLists → Option ℕ → Type 0
  Finds new o = TakesIn G room_in (λ t q. IsTakenIn G f least wanted q t) p was new o

  still_all : IsTakenIn G f least wanted p was → Finds was None
  still_all h = idle G room_in (λ t q. IsTakenIn G f least wanted q t) p was h

  pub not_told : told ≡ false → Finds was None
  not_told e = still_all (λ t _ _ _ _. absurd (false_true (sym e ∙ t)))

  pub not_wanted : is_set wanted (head_of G p) ≡ false → Finds was None
  not_wanted free = still_all (λ _ h _ _ _. absurd (false_true (sym free ∙ h)))

  pub not_given : (answer : Bool) → answer ≡ false → (IsTrue answer ↔ GivesLeast G f least p) → Finds was None
  not_given answer e said = still_all (λ _ _ h _ _. absurd (false_true (sym e ∙ said.1 h)))

  pub not_found : GivesNone K (body_of G p) → Finds was None
  not_found none = still_all (λ _ _ _ w c. absurd (none w c))

  -- nothing is told any more
  pub given_up : (new : FoundLists) → new.is_told ≡ false → new.left ≡ left → Finds new None
  given_up new e l = record { within = λ A q. absurd (nothing A q); kept = λ q c. inl (λ t. absurd (false_true (sym e ∙ t))); here = inl (λ t. absurd (false_true (sym e ∙ t))); less = omega (arith, l) }
    where
      nothing : (A : ℕ) → None ≡ Some A → ⊥
      nothing A q = cc

  module _ (w : List ℕ) (o : Option (List ℕ)) (one : GivesOne K (body_of G p) w) (is : o ≡ get_or K (head_of G p) None) where
    pub not_first : ComesFirst w o false → Finds was None
    not_first h = still_all (λ _ _ _ v c. subst (λ r. HasLead (as_lists r) v) is (subst (HasLead (as_lists o)) (sym ((one v).0 c)) (by o h)))
      where
        by : (r : Option (List ℕ)) → ComesFirst w r false → HasLead (as_lists r) w
        by None e = absurd (false_true e)
        by (Some u) k = (u, has_only (Some u) u refl, k)

    module _ (found : AreFound G f least K) (lt : head_of G p < length K) where
      after : (B : ℕ) → (B ≡ head_of G p → ⊥) → found_in (set K (head_of G p) (Some w)) B ≡ found_in K B
      after B ne = ap as_lists (get_or-set_other K (head_of G p) B (Some w) None ne)

      now : found_in (set K (head_of G p) (Some w)) (head_of G p) ≡ w ∷ []
      now = ap as_lists (get_or-set_same K (head_of G p) (Some w) None lt)

      has_now : (v : List ℕ) → IsLead w v → HasLead (found_in (set K (head_of G p) (Some w)) (head_of G p)) v
      has_now v h = subst (λ l. HasLead l v) (sym now) (w, (0, omega arith, refl), h)

      -- a list that was led is
      led_still : ComesFirst w o true → (B : ℕ) (v : List ℕ) → HasLead (found_in K B) v → HasLead (found_in (set K (head_of G p) (Some w)) B) v
      led_still h B v x = elim (cases_eq B (head_of G p)) [
        | inl q ↦ subst (λ C. HasLead (found_in (set K (head_of G p) (Some w)) C) v) (sym q) (has_now v (inr (let (u, c, up) = subst (λ C. HasLead (found_in K C) v) q x in forks_on w u v (subst (λ r. ComesFirst w r true) (is ∙ is_only (get_or K (head_of G p) None) u c) h) up)))
        | inr ne ↦ subst (λ l. HasLead l v) (sym (after B ne)) x
      ]

      put_first : ComesFirst w o true → (new : FoundLists) → new.table ≡ set K (head_of G p) (Some w) → new.is_told ≡ told → new.left < left → Finds new (Some (head_of G p))
      put_first h new is_set_now same fewer = takes_in G room_in (λ t q. IsTakenIn G f least wanted q t) p was new (head_of G p) (let n = found.count in omega (arith, lt, n)) kept here fewer
        where
          old_parts : (a : List Sym) (v : List ℕ) → ((d : ℕ) → IsAt a (head_of G p) d → ⊥) → Concatenates (found_in new.table) a v → Concatenates (found_in K) a v
          old_parts a v not x = concatenates_same (found_in (set K (head_of G p) (Some w))) (found_in K) (head_of G p) after a not v (subst (λ k. Concatenates (found_in k) a v) is_set_now x)

          kept : (q : ℕ) → ((d : ℕ) → IsAt (body_of G q) (head_of G p) d → ⊥) → IsTakenIn G f least wanted q was → IsTakenIn G f least wanted q new
          kept q not c t want gives v x = subst (λ k. HasLead (found_in k (head_of G q)) v) (sym is_set_now) (led_still h (head_of G q) v (c (subst IsTrue same t) want gives v (old_parts (body_of G q) v not x)))

          here : ((d : ℕ) → IsAt (body_of G p) (head_of G p) d → ⊥) → IsTakenIn G f least wanted p new
          here not t want gives v x = subst (λ k. HasLead (found_in k (head_of G p)) v) (sym is_set_now) (has_now v (inl ((one v).0 (old_parts (body_of G p) v not x))))

      -- by what a put answers
      module _ (A : ℕ) (T : List (Option (List ℕ))) (new : FoundLists) (answer : Option ℕ) (at : A ≡ head_of G p) (table : T ≡ K)
          (put : MatchOption answer ((new.table ≡ T) × (new.is_told ≡ false) × (new.left ≡ left)) (λ B. (B ≡ A) × (new.table ≡ set T A (Some w)) × (new.is_told ≡ told) × (new.left < left))) where
        set_here : set T A (Some w) ≡ set K (head_of G p) (Some w)
        set_here = ap (λ t. set t A (Some w)) table ∙ ap (λ k. set K k (Some w)) at

        pub put_takes : ComesFirst w o true → Finds new answer
        put_takes h = by answer put
          where
            by : (a : Option ℕ) → MatchOption a ((new.table ≡ T) × (new.is_told ≡ false) × (new.left ≡ left)) (λ B. (B ≡ A) × (new.table ≡ set T A (Some w)) × (new.is_told ≡ told) × (new.left < left)) → Finds new a
            by None (t, e, l) = given_up new e l
            by (Some B) (b, t, e, l) = subst (λ (k : ℕ). Finds new (Some k)) (sym (b ∙ at)) (put_first h new (t ∙ set_here) e l)

        pub put_found : AreFound G f least (set K (head_of G p) (Some w)) → AreFound G f least new.table
        put_found more = by answer put
          where
            by : (a : Option ℕ) → MatchOption a ((new.table ≡ T) × (new.is_told ≡ false) × (new.left ≡ left)) (λ B. (B ≡ A) × (new.table ≡ set T A (Some w)) × (new.is_told ≡ told) × (new.left < left)) → AreFound G f least new.table
            by None (t, e, l) = subst (AreFound G f least) (sym (t ∙ table)) found
            by (Some B) (b, t, e, l) = subst (AreFound G f least) (sym (t ∙ set_here)) more

      module _ (parts : ListsOfWantedRules) (given : GivesLeast G f least p) where
        has_list : Has G (head_of G p) w × (cost f w ≡ given.0)
        has_list = parts.parts G f (cost_in least) (found_in K) p (head_of G p) given.0 w found.costs given.2 ((one w).1 refl)

        pub found_with : AreFound G f least (set K (head_of G p) (Some w))
        found_with = record { count = length-set K (head_of G p) (Some w) ∙ found.count; costs = all_cost }
          where
            all_cost : HaveCosts G f (cost_in least) (found_in (set K (head_of G p) (Some w)))
            all_cost B v c = elim (cases_eq B (head_of G p)) [
              | inl e ↦ (let at : get_or (set K (head_of G p) (Some w)) B None ≡ Some w = ap (λ i. get_or (set K (head_of G p) (Some w)) i None) e ∙ get_or-set_same K (head_of G p) (Some w) None lt in
                  let same : Some w ≡ Some v = sym at ∙ is_only (get_or (set K (head_of G p) (Some w)) B None) v c in
                  let vs : w ≡ v = (let s : Some w ≡ Some v → w ≡ v = (λ k. cc) in s same) in
                  let t = given.2 in
                  subst (λ l. (n : ℕ) × (cost_in least B ≡ Some n) × Has G B l × (cost f l ≡ n)) vs (subst (λ C. (n : ℕ) × (cost_in least C ≡ Some n) × Has G C w × (cost f w ≡ n)) (sym e) (given.0, t.has_cost, has_list.0, has_list.1)))
              | inr ne ↦ found.costs B v (subst (λ r. Contains (as_lists r) v) (get_or-set_other K (head_of G p) B (Some w) None ne) c)
            ]

none_at : (k A : ℕ) → get_or (replicate {A = Option (List ℕ)} k None) A None ≡ None
none_at zero A = refl
none_at (suc k) zero = refl
none_at (suc k) (suc A) = none_at k A

pub none_found : (G : Grammar) (f : ℕ → ℕ) (least : List (Option ℕ)) (n : ℕ) (K : List (Option (List ℕ))) → n ≡ G.rules → K ≡ replicate n None → AreFound G f least K
none_found G f least n K count e = record { count = ap length e ∙ length-replicate n None ∙ count; costs = λ A w c. absurd (nothing w (sym (ap (λ t. get_or t A None) e ∙ none_at n A) ∙ is_only (get_or K A None) w c)) }
  where
    nothing : (w : List ℕ) → None ≡ Some w → ⊥
    nothing w q = cc

-- ---- at the end

module _ (G : Grammar) (f : ℕ → ℕ) (least : List (Option ℕ)) (wanted : List Bool) (K : List (Option (List ℕ))) (left : ℕ) (costs : AreCosts G f least) (closed : (p : ℕ) → p < length G.productions → IsClosedBy G f p least)
    (handed : (p : ℕ) → p < length G.productions → IsHandedOn G f least p wanted) (found : AreFound G f least K) (taken : (p : ℕ) → p < length G.productions → IsTakenIn G f least wanted p (record { table = K; is_told = true; left = left })) where
  leads : (p A n : ℕ) (v : List ℕ) → n < bound → IsTrue (is_set wanted A) → IsTight G f (cost_in least) p A n → Concatenates (found_in K) (body_of G p) v → HasLead (found_in K A) v
  leads p A n v low w t c = let o = t.is_of in subst (λ B. HasLead (found_in K B) v) o.head (taken p o.in_range refl (wanted_head G f least wanted p A n t w) (gives G f least p A n low t) v c)

  module _ (A n : ℕ) (e : cost_in least A ≡ Some n) (low : n < bound) (want : IsTrue (is_set wanted A)) (o : Option (List ℕ)) (is : o ≡ get_or K A None) where
    is_led : (v : List ℕ) → IsCheapest G f A v → HasLead (as_lists o) v
    is_led v c = subst (λ r. HasLead (as_lists r) v) (sym is) (all_led G f (cost_in least) bound (is_set wanted) (found_in K) (none_cheaper G f least closed) (named_wanted G f least wanted handed) leads A n v low want e (is_least G f least costs closed A n e low) c)

    pub some_list : o ≡ None → ⊥
    some_list q =
        let (v, c, k) = is_least G f least costs closed A n e low in
        let (u, i, up) = is_led v c in
        nothing u (sym q ∙ is_only o u i)
      where
        nothing : (u : List ℕ) → None ≡ Some u → ⊥
        nothing u r = cc

    pub is_first : (w : List ℕ) → o ≡ Some w → IsFirstCheapest G f A w
    is_first w q = record { cheapest = record { has = x.2; least = λ u y. (let le = i.least u y in let k = x.3 in let s = some_same x.0 n (sym x.1 ∙ e) in omega (arith, le, k, s, j)) }; before = λ v c. by v (is_led v c) }
      where
        x : (m : ℕ) × (cost_in least A ≡ Some m) × Has G A w × (cost f w ≡ m)
        x = found.costs A w (has_only (get_or K A None) w (sym is ∙ q))

        l : (v : List ℕ) × IsCheapest G f A v × (cost f v ≡ n)
        l = is_least G f least costs closed A n e low

        i : IsCheapest G f A l.0
        i = l.1

        j : cost f l.0 ≡ n
        j = l.2

        by : (v : List ℕ) → HasLead (as_lists o) v → (v ≡ w) ⊎ IsBefore w v
        by v (u, c, up) =
            let same : Some w ≡ Some u = sym q ∙ is_only o u c in
            let us : u ≡ w = (let s : Some w ≡ Some u → u ≡ w = (λ k. cc) in s same) in
            subst (λ k. (v ≡ k) ⊎ IsBefore k v) us (lead_is_first u v up)
