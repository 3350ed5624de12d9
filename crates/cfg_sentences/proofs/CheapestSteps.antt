-- How productions fill the table of cheapest lists, and what it says at the end.
use Rattle.std.proofs.Common.{◌≡◌, ℕ, zero, suc, ◌<◌, ◌≤◌, ◌⊎◌, inl, inr, ◌↔◌, Bool, true, false, List, [], ◌∷◌, ◌++◌, length, get_or, set, drop, replicate, map, Option, Some, None, refl, sym, ap, ◌∙◌, subst, arith}
use Rattle.std.specs.Prelude.{IsTrue, Contains, AllPairs}
use Rattle.std.proofs.lemmas.List.{get_or-set_same, get_or-set_other, length-set, length-replicate}
use Rattle.std.proofs.lemmas.List.Sums.{sum_by-set}
use Rattle.std.proofs.lemmas.List.Elements.{Contains-append_left, Contains-append_right, Contains-append_cases}
use Rattle.std.proofs.lemmas.Bool.{cases_eq}
use Rattle.cfg_theory.specs.Grammar.{Sym, rule, token, Grammar, WellFormed, head_of, body_of}
use Rattle.cfg_theory.specs.Productive.{RulesIn}
use Rattle.cfg_theory.specs.Cost.{cost, Has, IsCheapest, IsBefore, AreCheapest}
use Rattle.cfg_theory.specs.CostTables.{Concatenates}
use Rattle.cfg_theory.specs.CheapestLists.{NoneIsCheaper, IsTight, HaveCosts, IsClosedOver, ListsOfWantedRules, ListsAreShort}
use Rattle.cfg_theory.proofs.Lists.{get_from_drop}
use Rattle.vob.specs.Sets.{is_set}
use Rattle.cfg_sets.specs.WorkLists.{TakesIn}
use Rattle.cfg_sentences.specs.CostTable.{bound, cost_in, AreCosts, IsClosedBy}
use Rattle.std.specs.declared.alloc.Global.{Global}
use Rattle.std.specs.declared.vec.Vec.{Vec}
use Rattle.cfg_base.specs.declared.symbol.TIdx.{TIdx}
use Rattle.cfg_sentences.specs.TokenLists.{tokens_of, lists_of, joined, spare, AddsLists}
use Rattle.cfg_sentences.specs.CheapestTable.{GivesLeast, IsHandedOn, lists_in, AllHaveLists, lists_before, AreLists, IsJoined, IsFirstCheapest, spare_in}
use Rattle.vob.proofs.Bits.{set_same}
use Rattle.cfg_sentences.proofs.CostSteps.{is_least}
use Rattle.cfg_sentences.proofs.Dictionary.{any_default}
use Rattle.cfg_sentences.proofs.ProdSteps.{IsAt, idle, concatenates_same, takes_in}
use Rattle.cfg_sentences.proofs.WantedSteps.{rules_in}

some_same : (m n : ℕ) → Some m ≡ Some n → m ≡ n
some_same m n e = cc

false_true : ◌≡◌ {A = Bool} false true → ⊥
false_true e = cc

-- ---- lists put together

contains_cons : (x : List ℕ) (xs : List (List ℕ)) (w : List ℕ) → Contains (x ∷ xs) w ↔ ((x ≡ w) ⊎ Contains xs w)
contains_cons x xs w = (there, back)
  where
    there : Contains (x ∷ xs) w → (x ≡ w) ⊎ Contains xs w
    there (zero, lt, e) = inl e
    there (suc k, lt, e) = inr (k, omega (arith, lt), e)

    back : (x ≡ w) ⊎ Contains xs w → Contains (x ∷ xs) w
    back (inl e) = (zero, omega arith, e)
    back (inr (k, lt, e)) = (suc k, omega (arith, lt), e)

none_there : (w : List ℕ) → Contains [] w → ⊥
none_there w (k, lt, e) = absurd (omega (arith, lt))

abbrev Mapped : (List ℕ → List ℕ) → List (List ℕ) → List ℕ → Type 0
Mapped f vs w = (v : List ℕ) × Contains vs v × (w ≡ f v)

contains_map : (f : List ℕ → List ℕ) (vs : List (List ℕ)) (w : List ℕ) → Contains (map f vs) w ↔ Mapped f vs w
contains_map f vs w = (there vs, λ h. subst (Contains (map f vs)) (sym h.2) (back vs h.0 h.1))
  where
    there : (l : List (List ℕ)) → Contains (map f l) w → Mapped f l w
    there [] c = absurd (none_there w c)
    there (v ∷ l) c = elim ((contains_cons (f v) (map f l) w).0 c) [
      | inl e ↦ (v, (contains_cons v l v).1 (inl refl), sym e)
      | inr d ↦ (let (u, i, q) = there l d in (u, (contains_cons v l u).1 (inr i), q))
    ]

    back : (l : List (List ℕ)) (v : List ℕ) → Contains l v → Contains (map f l) (f v)
    back [] v c = absurd (none_there v c)
    back (x ∷ l) v c = (contains_cons (f x) (map f l) (f v)).1 (elim ((contains_cons x l v).0 c) [ inl e ↦ inl (ap f e) | inr d ↦ inr (back l v d) ])

abbrev Joined : List (List ℕ) → List (List ℕ) → List ℕ → Type 0
Joined us vs w = (u : List ℕ) × (v : List ℕ) × Contains us u × Contains vs v × (w ≡ u ++ v)

contains_joined : (us vs : List (List ℕ)) (w : List ℕ) → Contains (joined us vs) w ↔ Joined us vs w
contains_joined us vs w = (there us, λ h. subst (Contains (joined us vs)) (sym h.4) (back us h.0 h.1 h.2 h.3))
  where
    there : (l : List (List ℕ)) → Contains (joined l vs) w → Joined l vs w
    there [] c = absurd (none_there w c)
    there (u ∷ l) c = elim (Contains-append_cases (map (λ v. u ++ v) vs) (joined l vs) w c) [
      | inl d ↦ (let (v, i, q) = (contains_map (λ v. u ++ v) vs w).0 d in (u, v, (contains_cons u l u).1 (inl refl), i, q))
      | inr d ↦ (let (x, v, i, j, q) = there l d in (x, v, (contains_cons u l x).1 (inr i), j, q))
    ]

    back : (l : List (List ℕ)) (u v : List ℕ) → Contains l u → Contains vs v → Contains (joined l vs) (u ++ v)
    back [] u v c d = absurd (none_there u c)
    back (x ∷ l) u v c d = elim ((contains_cons x l u).0 c) [
      | inl e ↦ Contains-append_left (map (λ z. x ++ z) vs) (joined l vs) (u ++ v) ((contains_map (λ z. x ++ z) vs (u ++ v)).1 (v, d, ap (λ y. y ++ v) (sym e)))
      | inr k ↦ Contains-append_right (map (λ z. x ++ z) vs) (joined l vs) (u ++ v) (back l u v k d)
    ]

module _ (table : List (List (List ℕ))) where
  -- one symbol more
  pub with_symbol : (X : Sym) (a : List Sym) (rests : List (List ℕ)) → ((w : List ℕ) → Contains rests w ↔ Concatenates (lists_in table) a w) → (w : List ℕ) → Contains (lists_before table X rests) w ↔ Concatenates (lists_in table) (X ∷ a) w
  with_symbol (rule A) a rests h w =
      let r = contains_joined (lists_in table A) rests w in
      ((λ c. let (u, v, i, j, q) = r.0 c in (u, v, i, (h v).0 j, q)), λ k. r.1 (k.0, k.1, k.2, (h k.1).1 k.3, k.4))
  with_symbol (token t) a rests h w =
      let r = contains_map (λ v. t ∷ v) rests w in
      ((λ c. let (v, i, q) = r.0 c in (v, (h v).0 i, q)), λ k. r.1 (k.0, (h k.0).1 k.1, k.2))

  alone_has : (X : Sym) (a : List Sym) → AllHaveLists table (X ∷ a) → AllHaveLists table (X ∷ [])
  alone_has (rule A) a h = (h.0, tt)
  alone_has (token t) a h = tt

  pub has_at : {X : Type 0} (view : X → Sym) (xs : List X) (i : ℕ) (x d : X) → AllHaveLists table (map view xs) → i < length xs → x ≡ get_or xs i d → AllHaveLists table (view x ∷ [])
  has_at view [] i x d h lt e = absurd (omega (arith, lt))
  has_at view (y ∷ xs) zero x d h lt e = subst (λ z. AllHaveLists table (view z ∷ [])) (sym e) (alone_has (view y) (map view xs) h)
  has_at view (y ∷ xs) (suc i) x d h lt e = has_at view xs i x d (rest_has (view y) (map view xs) h) (omega (arith, lt)) e
    where
      rest_has : (X : Sym) (a : List Sym) → AllHaveLists table (X ∷ a) → AllHaveLists table a
      rest_has (rule A) a h = h.1
      rest_has (token t) a h = h

-- a token before lists
pub token_before : {S : Type 0} (number : S → ℕ) (t : TIdx S) (s xs : List (TIdx S)) (rests V : List (List ℕ)) → s ≡ xs → xs ≡ t ∷ [] → V ≡ map (λ v. tokens_of number s ++ v) rests → V ≡ map (λ v. number t.0 ∷ v) rests
token_before {S} number t s xs rests V e q is = is ∙ ap (λ (l : List (TIdx S)). map (λ v. tokens_of number l ++ v) rests) (e ∙ q)

-- lists with one symbol more
pub next_lists : {S : Type 0} (number : S → ℕ) (table : List (List (List ℕ))) (X : Sym) (a rest : List Sym) (s old new : List (Vec (TIdx S) Global)) → s ≡ old → lists_of number new ≡ lists_before table X (lists_of number s) → ((w : List ℕ) → Contains (lists_of number old) w ↔ Concatenates (lists_in table) a w) → rest ≡ X ∷ a → (w : List ℕ) → Contains (lists_of number new) w ↔ Concatenates (lists_in table) rest w
next_lists {S} number table X a rest s old new e made h is w =
    let V : lists_of number new ≡ lists_before table X (lists_of number old) = made ∙ ap (λ (l : List (Vec (TIdx S) Global)). lists_before table X (lists_of number l)) e in
    subst (λ l. Contains l w ↔ Concatenates (lists_in table) rest w) (sym V) (subst (λ b. Contains (lists_before table X (lists_of number old)) w ↔ Concatenates (lists_in table) b w) (sym is) (with_symbol table X a (lists_of number old) h w))

pub made_of : {S : Type 0} (number : S → ℕ) (table t : List (List (List ℕ))) (a b : List Sym) (s xs : List (Vec (TIdx S) Global)) → s ≡ xs → t ≡ table → a ≡ b → ((w : List ℕ) → Contains (lists_of number xs) w ↔ Concatenates (lists_in t) a w) → (w : List ℕ) → Contains (lists_of number s) w ↔ Concatenates (lists_in table) b w
made_of {S} number table t a b s xs e q r h w =
    subst (λ (l : List (Vec (TIdx S) Global)). Contains (lists_of number l) w ↔ Concatenates (lists_in table) b w) (sym e)
    (subst (λ (k : List (List (List ℕ))). Contains (lists_of number xs) w ↔ Concatenates (lists_in k) b w) q
    (subst (λ (c : List Sym). Contains (lists_of number xs) w ↔ Concatenates (lists_in t) c w) r (h w)))

pub body_has : (G : Grammar) (table : List (List (List ℕ))) (p : ℕ) → WellFormed G → length table ≡ G.rules → AllHaveLists table (body_of G p)
body_has G table p good count = from (body_of G p) 0 refl
  where
    from : (a : List Sym) (d : ℕ) → drop d (body_of G p) ≡ a → AllHaveLists table a
    from [] d e = tt
    from (rule A ∷ a) d e = let r = get_from_drop (body_of G p) d (rule A) a e in (subst (λ n. A < n) (sym count) (good.symbols p d (rule A) (record { at = r.0 })), from a (suc d) r.1)
    from (token t ∷ a) d e = let r = get_from_drop (body_of G p) d (token t) a e in from a (suc d) r.1

-- ---- one production

module _ (G : Grammar) (f : ℕ → ℕ) (least : List (Option ℕ)) (wanted : List Bool) (p : ℕ) (table : List (List (List ℕ))) where
  -- what taking in the production does to the table
  abbrev pub Joins : List (List (List ℕ)) → Option ℕ → Type 0
  Joins new told = TakesIn G spare_in (λ t q. IsJoined G f least wanted q t) p table new told

  was_joined : IsJoined G f least wanted p table → Joins table None
  was_joined = idle G spare_in (λ t q. IsJoined G f least wanted q t) p table

  pub not_wanted : is_set wanted (head_of G p) ≡ false → Joins table None
  not_wanted free = was_joined (λ h _ _ _. absurd (false_true (sym free ∙ h)))

  pub not_given : (answer : Bool) → answer ≡ false → (IsTrue answer ↔ GivesLeast G f least p) → Joins table None
  not_given answer e told = was_joined (λ _ h _ _. absurd (false_true (sym e ∙ told.1 h)))

  module _ (A : ℕ) (own new ws : List (List ℕ)) (lt : A < length table) (is : own ≡ get_or table A own) (head : A ≡ head_of G p) (made : (w : List ℕ) → Contains ws w ↔ Concatenates (lists_in table) (body_of G p) w) where
    here : own ≡ get_or table A []
    here = is ∙ other_default table A own [] lt
      where
        other_default : (l : List (List (List ℕ))) (k : ℕ) (d e : List (List ℕ)) → k < length l → get_or l k d ≡ get_or l k e
        other_default [] k d e less = absurd (omega (arith, less))
        other_default (x ∷ l) zero d e less = refl
        other_default (x ∷ l) (suc k) d e less = other_default l k d e (omega (arith, less))

    -- no list was new
    pub joins_none : AddsLists (Contains ws) own new false → Joins (set table A new) None
    joins_none h =
        let same : new ≡ get_or table A [] = h.still refl ∙ here in
        subst (λ t. Joins t None) (sym (set_same table A new [] lt same)) (was_joined (λ _ _ w k. subst (λ B. Contains (lists_in table B) w) head (subst (λ l. Contains l w) same (h.here w ((made w).1 k)))))

    -- one was
    pub joins_some : AddsLists (Contains ws) own new true → A < G.rules → Joins (set table A new) (Some A)
    joins_some h low = takes_in G spare_in (λ t q. IsJoined G f least wanted q t) p table (set table A new) A low kept ours (let s = sum_by-set spare table A new [] lt in let w = h.fewer refl in let q = ap spare here in omega (arith, s, w, q))
      where
        now : (w : List ℕ) → Contains new w → Contains (lists_in (set table A new) A) w
        now w c = subst (λ l. Contains l w) (sym (get_or-set_same table A new [] lt)) c

        grown : (B : ℕ) (w : List ℕ) → Contains (lists_in table B) w → Contains (lists_in (set table A new) B) w
        grown B w c = elim (cases_eq B A) [
          | inl e ↦ subst (λ C. Contains (lists_in (set table A new) C) w) (sym e) (now w (h.kept w (subst (λ l. Contains l w) (ap (lists_in table) e ∙ sym here) c)))
          | inr ne ↦ subst (λ l. Contains l w) (sym (get_or-set_other table A B new [] ne)) c
        ]

        parts : (a : List Sym) (w : List ℕ) → ((d : ℕ) → IsAt a A d → ⊥) → Concatenates (lists_in (set table A new)) a w → Concatenates (lists_in table) a w
        parts a w not x = concatenates_same (lists_in (set table A new)) (lists_in table) A (λ B ne. get_or-set_other table A B new [] ne) a not w x

        kept : (q : ℕ) → ((d : ℕ) → IsAt (body_of G q) A d → ⊥) → IsJoined G f least wanted q table → IsJoined G f least wanted q (set table A new)
        kept q not c want gives w x = grown (head_of G q) w (c want gives w (parts (body_of G q) w not x))

        ours : ((d : ℕ) → IsAt (body_of G p) A d → ⊥) → IsJoined G f least wanted p (set table A new)
        ours not want gives w x = subst (λ B. Contains (lists_in (set table A new) B) w) head (now w (h.here w ((made w).1 (parts (body_of G p) w not x))))

    pub lists_with : ListsOfWantedRules → AreLists G f least table → GivesLeast G f least p → ((v : List ℕ) → Contains new v → Contains own v ⊎ Contains ws v) → AreLists G f least (set table A new)
    lists_with law h (n, low, tight) sound = record { count = length-set table A new ∙ h.count; costs = costs }
      where
        of_own : (w : List ℕ) → Contains new w → (m : ℕ) × (cost_in least A ≡ Some m) × Has G A w × (cost f w ≡ m)
        of_own w c = elim (sound w c) [
          | inl o ↦ h.costs A w (subst (λ l. Contains l w) here o)
          | inr o ↦ (let (d, e) = law.parts G f (cost_in least) (lists_in table) p (head_of G p) n w h.costs tight ((made w).0 o) in (n, ap (cost_in least) head ∙ tight.has_cost, subst (λ B. Has G B w) (sym head) d, e))
        ]

        costs : HaveCosts G f (cost_in least) (lists_in (set table A new))
        costs B w c = elim (cases_eq B A) [
          | inl e ↦ subst (λ C. (m : ℕ) × (cost_in least C ≡ Some m) × Has G C w × (cost f w ≡ m)) (sym e) (of_own w (subst (λ l. Contains l w) (ap (lists_in (set table A new)) e ∙ get_or-set_same table A new [] lt) c))
          | inr ne ↦ h.costs B w (subst (λ l. Contains l w) (get_or-set_other table A B new [] ne) c)
        ]

pub no_lists_yet : (G : Grammar) (f : ℕ → ℕ) (least : List (Option ℕ)) (n : ℕ) (table : List (List (List ℕ))) → n ≡ G.rules → table ≡ replicate n [] → AreLists G f least table
no_lists_yet G f least n table count e = record { count = ap length e ∙ length-replicate n [] ∙ count; costs = λ A w c. absurd (none_there w (subst (λ l. Contains l w) (ap (λ t. get_or t A []) e ∙ none_at n A) c)) }
  where
    none_at : (k A : ℕ) → get_or (replicate {A = List (List ℕ)} k []) A [] ≡ []
    none_at zero A = refl
    none_at (suc k) zero = refl
    none_at (suc k) (suc A) = none_at k A

-- ---- at the end

pub row_at : (table : List (List (List ℕ))) (i A : ℕ) (row : List (List ℕ)) → i ≡ A → A < length table → row ≡ get_or table i row → row ≡ get_or table A []
row_at table i A row e lt is = is ∙ ap (λ k. get_or table k row) e ∙ within table A lt
  where
    within : (l : List (List (List ℕ))) (k : ℕ) → k < length l → get_or l k row ≡ get_or l k []
    within [] k less = absurd (omega (arith, less))
    within (x ∷ l) zero less = refl
    within (x ∷ l) (suc k) less = within l k (omega (arith, less))

module _ (G : Grammar) (f : ℕ → ℕ) (least : List (Option ℕ)) where
  pub none_cheaper : ((p : ℕ) → p < length G.productions → IsClosedBy G f p least) → NoneIsCheaper G f (cost_in least)
  none_cheaper closed p A n o s = let (m, e, le) = closed p o.in_range n s in (m, subst (λ B. cost_in least B ≡ Some m) o.head e, le)

  pub gives : (p A n : ℕ) → n < bound → IsTight G f (cost_in least) p A n → GivesLeast G f least p
  gives p A n low t = (n, low, subst (λ B. IsTight G f (cost_in least) p B n) (sym (let o = t.is_of in o.head)) t)

  pub wanted_head : (wanted : List Bool) (p A n : ℕ) → IsTight G f (cost_in least) p A n → IsTrue (is_set wanted A) → IsTrue (is_set wanted (head_of G p))
  wanted_head wanted p A n t w = subst (λ B. IsTrue (is_set wanted B)) (sym (let o = t.is_of in o.head)) w

  -- the set as the theory asks for it
  pub named_wanted : (wanted : List Bool) → ((p : ℕ) → p < length G.productions → IsHandedOn G f least p wanted) → (p A n : ℕ) → n < bound → IsTrue (is_set wanted A) → IsTight G f (cost_in least) p A n → RulesIn (λ B. IsTrue (is_set wanted B)) (body_of G p)
  named_wanted wanted handed p A n low w t = let o = t.is_of in rules_in G p wanted (handed p o.in_range (wanted_head wanted p A n t w) (gives p A n low t))

module _ (G : Grammar) (f : ℕ → ℕ) (least : List (Option ℕ)) (wanted : List Bool) (table : List (List (List ℕ))) (h : AreCosts G f least) (closed : (p : ℕ) → p < length G.productions → IsClosedBy G f p least)
    (law : ListsOfWantedRules) (handed : (p : ℕ) → p < length G.productions → IsHandedOn G f least p wanted) (lists : AreLists G f least table) (all_joined : (p : ℕ) → p < length G.productions → IsJoined G f least wanted p table) where
  closed_over : IsClosedOver G f (cost_in least) bound (is_set wanted) (lists_in table)
  closed_over = record {
    handed_on = named_wanted G f least wanted handed;
    closed = λ p A n v low w t c. let o = t.is_of in subst (λ B. Contains (lists_in table B) v) o.head (all_joined p o.in_range (wanted_head G f least wanted p A n t w) (gives G f least p A n low t) v c);
  }

  module _ (A n : ℕ) (e : cost_in least A ≡ Some n) (low : n < bound) (want : IsTrue (is_set wanted A)) (row : List (List ℕ)) (is : row ≡ get_or table A []) where
    cheap : (w : List ℕ) → Contains row w → IsCheapest G f A w
    cheap w c =
        let (m, q, d, k) = lists.costs A w (subst (λ l. Contains l w) is c) in
        let (v, i, j) = is_least G f least h closed A n e low in
        let s = some_same m n (sym q ∙ e) in
        record { has = d; least = λ u x. let y = i.least u x in omega (arith, k, j, s, y) }

    all_of : (w : List ℕ) → IsCheapest G f A w → Contains row w
    all_of w c = subst (λ l. Contains l w) (sym is) (law.all G f (cost_in least) bound (is_set wanted) (lists_in table) (none_cheaper G f least closed) closed_over A n w low want e (is_least G f least h closed A n e low) c)

    pub are_cheapest : AllPairs IsBefore row → AreCheapest G f A row
    are_cheapest ordered = record { all = λ w. (cheap w, all_of w); ordered = ordered }

    pub some_cheapest : 0 < length row
    some_cheapest =
        let (v, i, j) = is_least G f least h closed A n e low in
        let (k, lt, q) = all_of v i in
        omega (arith, lt)

-- ---- the first one

module _ (G : Grammar) (f : ℕ → ℕ) (A : ℕ) (V : List (List ℕ)) (h : AreCheapest G f A V) (lt : 0 < length V) (w : List ℕ) (is : w ≡ get_or V 0 []) where
  its_cheapest : IsCheapest G f A w
  its_cheapest = (h.all w).0 (0, lt, any_default V 0 w [] lt ∙ sym is)

  pub is_first : IsFirstCheapest G f A w
  is_first = record { cheapest = its_cheapest; before = before }
    where
      before : (v : List ℕ) → IsCheapest G f A v → (v ≡ w) ⊎ IsBefore w v
      before v c = by ((h.all v).1 c)
        where
          by : Contains V v → (v ≡ w) ⊎ IsBefore w v
          by (zero, less, e) = inl (sym e ∙ any_default V 0 v [] less ∙ sym is)
          by (suc k, less, e) = inr (subst (λ l. IsBefore l v) (sym is) (subst (IsBefore (get_or V 0 [])) (any_default V (suc k) [] v less ∙ e) (h.ordered 0 (suc k) [] (omega arith) less)))

  pub is_short : ListsAreShort → WellFormed G → ((t : ℕ) → t < G.tokens → 1 ≤ f t) → length w ≤ cost f w
  is_short law good costly = let c = its_cheapest in law.short G f good costly A w c.has
