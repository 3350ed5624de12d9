-- Item sets given entry by entry: what they hold, that one is the closure of another, and goto sets by computing.
use Rattle.std.proofs.Common.{◌≡◌, ℕ, zero, suc, ◌+◌, ◌<◌, ◌≤◌, inl, Bool, true, false, cond, ◌&&◌, nat_eq, eqb-true, List, [], ◌∷◌, length, get_or, slice_get, Option, Some, None, refl, sym, ap, ap₂, ◌∙◌, subst, subst₂, arith}
use Rattle.std.proofs.Math.Decide.{dec_lt}
use Rattle.std.specs.List.{AllByRecursion}
use Rattle.cfg_theory.specs.Grammar.{Sym, rule, token, Grammar, WellFormed, IsOf, IsNext, symbol_at}
use Rattle.cfg_theory.specs.Derivation.{Nullable, IsFirst}
use Rattle.cfg_theory.proofs.Derivation.{all_nullable, first_is_first}
use Rattle.lr_theory.specs.Canonical.{from_dot}
use Rattle.lr_theory.specs.Itemset.{Is, Entry, Items, Lookaheads, ItemSet, HasItem, HasLook, SameItems, entry_at, Closure, ClosureLook, Goto, GotoLook}
use Rattle.lr_theory.specs.Graph.{Graph, IsState, Finished, Leads}
use Rattle.lr_theory.specs.Building.{Building, IsTodo, StaysOut, Built, IsGraph, same_symbol}
use Rattle.lr_theory.proofs.Place.{same_symbol_true, same_symbol_refl, nat_eq_refl}
use Rattle.lr_theory.proofs.Building.{reached_sound, built_finished}

pub some_same : {X : Type 0} (x y : X) → Some x ≡ Some y → x ≡ y
some_same x y e = cc

pub none_some : {X : Type 0} (x : X) → None ≡ Some x → ⊥
none_some x e = cc

false_true : false ≡ true → ⊥
false_true e = cc

-- the entry behind what a map has at an item
each_entry : (s : ItemSet) (Q : Entry → Type 0) → AllByRecursion Q s → (p d : ℕ) (bits : List Bool) → entry_at s p d ≡ Some bits →
    (e : Entry) × Q e × (e.production ≡ p) × (e.dot ≡ d) × (e.lookaheads ≡ bits)
unfolding entry_at
each_entry [] Q all p d bits h = absurd (none_some bits h)
each_entry (e ∷ s) Q all p d bits h = go (each_entry s Q all.1 p d bits) (nat_eq e.production p) (nat_eq e.dot d) refl refl h
  where
    go : (entry_at s p d ≡ Some bits → (e : Entry) × Q e × (e.production ≡ p) × (e.dot ≡ d) × (e.lookaheads ≡ bits)) → (a b : Bool) → nat_eq e.production p ≡ a → nat_eq e.dot d ≡ b → cond (a && b) (Some e.lookaheads) (entry_at s p d) ≡ Some bits →
        (e : Entry) × Q e × (e.production ≡ p) × (e.dot ≡ d) × (e.lookaheads ≡ bits)
    go more true true x y z = (e, all.0, eqb-true e.production p x, eqb-true e.dot d y, some_same e.lookaheads bits z)
    go more true false x y z = more z
    go more false b x y z = more z

-- what holds of each entry holds of each item
pub each_item : (s : ItemSet) (P : ℕ → ℕ → Type 0) → AllByRecursion (λ e. P e.production e.dot) s → (p d : ℕ) → HasItem s p d → P p d
each_item s P all p d h =
    let (e, x, i, j, _) = each_entry s (λ e. P e.production e.dot) all p d h.lookaheads h.at in
    subst₂ P i j x

-- of each token that is set
abbrev pub EachBit : (ℕ → Type 0) → ℕ → List Bool → Type 0
EachBit Q i [] = Unit {0}
EachBit Q i (true ∷ bits) = Q i × EachBit Q (suc i) bits
EachBit Q i (false ∷ bits) = EachBit Q (suc i) bits

bit_at : (Q : ℕ → Type 0) (i : ℕ) (bits : List Bool) → EachBit Q i bits → (t : ℕ) → slice_get bits t ≡ Some true → Q (i + t)
bit_at Q i [] all t h = absurd (none_some true h)
bit_at Q i (true ∷ bits) all zero h = subst Q (omega arith) all.0
bit_at Q i (true ∷ bits) all (suc t) h = subst Q (let e : suc i + t ≡ i + suc t = omega arith in e) (bit_at Q (suc i) bits all.1 t h)
bit_at Q i (false ∷ bits) all zero h = absurd (false_true (some_same false true h))
bit_at Q i (false ∷ bits) all (suc t) h = subst Q (let e : suc i + t ≡ i + suc t = omega arith in e) (bit_at Q (suc i) bits all t h)

-- what holds of each entry with each token of its own holds of each lookahead
pub each_set : (s : ItemSet) (P : ℕ → ℕ → ℕ → Type 0) → AllByRecursion (λ e. (t : ℕ) → slice_get e.lookaheads t ≡ Some true → P e.production e.dot t) s → (p d t : ℕ) → HasLook s p d t → P p d t
each_set s P all p d t h =
    let (e, x, i, j, k) = each_entry s (λ e. (t : ℕ) → slice_get e.lookaheads t ≡ Some true → P e.production e.dot t) all p d h.lookaheads h.at in
    subst₂ (λ p d. P p d t) i j (x t (ap (λ l. slice_get l t) k ∙ h.set))

-- and so of each lookahead
pub each_look : (s : ItemSet) (P : ℕ → ℕ → ℕ → Type 0) → AllByRecursion (λ e. EachBit (P e.production e.dot) 0 e.lookaheads) s → (p d t : ℕ) → HasLook s p d t → P p d t
each_look s P all p d t h =
    let (e, x, i, j, k) = each_entry s (λ e. EachBit (P e.production e.dot) 0 e.lookaheads) all p d h.lookaheads h.at in
    subst₂ (λ p d. P p d t) i j (subst (P e.production e.dot) (let z : 0 + t ≡ t = omega arith in z) (bit_at (P e.production e.dot) 0 e.lookaheads x t (ap (λ l. slice_get l t) k ∙ h.set)))

-- a set that has no rule after a dot is its own closure
module _ (G : Grammar) (s : ItemSet) (none : (p d A : ℕ) → HasItem s p d → IsNext G p d (rule A) → ⊥) where
  held : {p d : ℕ} → Closure G (HasItem s) p d → HasItem s p d
  held (Closure.given i) = i
  held (Closure.opened {p} {d} {A} {q} c n o) = absurd (none p d A (held c) n)

  look_held : {p d t : ℕ} → ClosureLook G (HasItem s) (HasLook s) p d t → HasLook s p d t
  look_held (ClosureLook.given l) = l
  look_held (ClosureLook.first {p} {d} {A} c n o f) = absurd (none p d A (held c) n)
  look_held (ClosureLook.passed {p} {d} {A} {q} {t} l n o z) = let h = look_held l in absurd (none p d A (record { lookaheads = h.lookaheads; at = h.at }) n)

  pub own_closure : Is s (Closure G (HasItem s)) (ClosureLook G (HasItem s) (HasLook s))
  own_closure = record { items = λ p d. (held, Closure.given); looks = λ p d t. (look_held, ClosureLook.given) }

-- a set that is another's closure
pub record Closes (G : Grammar) (core s : ItemSet) : Type 0 where
  pub items : (p d : ℕ) → HasItem core p d → HasItem s p d
  pub looks : (p d t : ℕ) → HasLook core p d t → HasLook s p d t
  pub opened : (p d A q : ℕ) → HasItem s p d → IsNext G p d (rule A) → IsOf G q A → HasItem s q 0
  pub firsts : (p d A q t : ℕ) → HasItem s p d → IsNext G p d (rule A) → IsOf G q A → IsFirst G (from_dot G p (suc d)) t → HasLook s q 0 t
  pub passed : (p d A q t : ℕ) → HasLook s p d t → IsNext G p d (rule A) → IsOf G q A → Nullable G (from_dot G p (suc d)) → HasLook s q 0 t
  pub items_back : (p d : ℕ) → HasItem s p d → Closure G (HasItem core) p d
  pub looks_back : (p d t : ℕ) → HasLook s p d t → ClosureLook G (HasItem core) (HasLook core) p d t

module _ (G : Grammar) (core s : ItemSet) (c : Closes G core s) where
  there : {p d : ℕ} → Closure G (HasItem core) p d → HasItem s p d
  there (Closure.given i) = c.items _ _ i
  there (Closure.opened {p} {d} {A} {q} h n o) = c.opened p d A q (there h) n o

  look_there : {p d t : ℕ} → ClosureLook G (HasItem core) (HasLook core) p d t → HasLook s p d t
  look_there (ClosureLook.given l) = c.looks _ _ _ l
  look_there (ClosureLook.first {p} {d} {A} {q} {t} h n o f) = c.firsts p d A q t (there h) n o f
  look_there (ClosureLook.passed {p} {d} {A} {q} {t} l n o z) = c.passed p d A q t (look_there l) n o z

  pub is_closure : Is s (Closure G (HasItem core)) (ClosureLook G (HasItem core) (HasLook core))
  is_closure = record { items = λ p d. (there, c.items_back p d); looks = λ p d t. (look_there, c.looks_back p d t) }

-- whether X is this symbol
abbrev pub is_symbol : Option Sym → Sym → Bool
is_symbol None X = false
is_symbol (Some Y) X = same_symbol Y X

-- goto by computing
abbrev pub goto_set : Grammar → ItemSet → Sym → ItemSet
goto_set G [] X = []
goto_set G (e ∷ s) X = cond (is_symbol (symbol_at G e.production e.dot) X) (record { production = e.production; dot = suc e.dot; lookaheads = e.lookaheads } ∷ goto_set G s X) (goto_set G s X)

module _ (G : Grammar) (X : Sym) where
  next_of : (p d : ℕ) → is_symbol (symbol_at G p d) X ≡ true → IsNext G p d X
  next_of p d h = record { at = by (symbol_at G p d) h }
    where
      by : (o : Option Sym) → is_symbol o X ≡ true → o ≡ Some X
      by None h = absurd (false_true h)
      by (Some Y) h = ap Some (same_symbol_true Y X h)

  of_next : (p d : ℕ) → IsNext G p d X → is_symbol (symbol_at G p d) X ≡ true
  of_next p d n = ap (λ o. is_symbol o X) n.at ∙ same_symbol_refl X

  abbrev moved : Entry → Entry
  moved e = record { production = e.production; dot = suc e.dot; lookaheads = e.lookaheads }

  goto_at_nought : (s : ItemSet) (p : ℕ) → entry_at (goto_set G s X) p 0 ≡ None
  unfolding entry_at
  goto_at_nought [] p = refl
  goto_at_nought (e ∷ s) p = by (is_symbol (symbol_at G e.production e.dot) X) (goto_at_nought s p)
    where
      past : nat_eq (suc e.dot) 0 ≡ false
      past = grind arith

      no_match : (a : Bool) → entry_at (goto_set G s X) p 0 ≡ None → cond (a && false) (Some e.lookaheads) (entry_at (goto_set G s X) p 0) ≡ None
      no_match true h = h
      no_match false h = h

      by : (b : Bool) → entry_at (goto_set G s X) p 0 ≡ None → entry_at (cond b (moved e ∷ goto_set G s X) (goto_set G s X)) p 0 ≡ None
      by true h = ap (λ c. cond (nat_eq e.production p && c) (Some e.lookaheads) (entry_at (goto_set G s X) p 0)) past ∙ no_match (nat_eq e.production p) h
      by false h = h

  -- one entry more
  goto_entry : (e : Entry) (s g : ItemSet) (p d : ℕ) → entry_at g p (suc d) ≡ cond (is_symbol (symbol_at G p d) X) (entry_at s p d) None →
      entry_at (cond (is_symbol (symbol_at G e.production e.dot) X) (moved e ∷ g) g) p (suc d) ≡ cond (is_symbol (symbol_at G p d) X) (entry_at (e ∷ s) p d) None
  unfolding entry_at
  goto_entry e s g p d more = go (nat_eq e.production p) (nat_eq e.dot d) refl refl
    where
      next : nat_eq (suc e.dot) (suc d) ≡ nat_eq e.dot d
      next = grind arith

      left : (b m : Bool) → nat_eq e.production p && nat_eq e.dot d ≡ m → entry_at (cond b (moved e ∷ g) g) p (suc d) ≡ cond b (cond m (Some e.lookaheads) (entry_at g p (suc d))) (entry_at g p (suc d))
      left true m z = ap (λ c. cond (nat_eq e.production p && c) (Some e.lookaheads) (entry_at g p (suc d))) next ∙ ap (λ c. cond c (Some e.lookaheads) (entry_at g p (suc d))) z
      left false m z = refl

      same_ends : (b : Bool) → cond b (entry_at g p (suc d)) (entry_at g p (suc d)) ≡ entry_at g p (suc d)
      same_ends true = refl
      same_ends false = refl

      unmatched : nat_eq e.production p && nat_eq e.dot d ≡ false → entry_at (cond (is_symbol (symbol_at G e.production e.dot) X) (moved e ∷ g) g) p (suc d) ≡ cond (is_symbol (symbol_at G p d) X) (entry_at (e ∷ s) p d) None
      unmatched z = left (is_symbol (symbol_at G e.production e.dot) X) false z ∙ same_ends (is_symbol (symbol_at G e.production e.dot) X) ∙ more ∙
          ap (λ m. cond (is_symbol (symbol_at G p d) X) (cond m (Some e.lookaheads) (entry_at s p d)) None) (sym z)

      without : (b : Bool) → entry_at g p (suc d) ≡ cond b (entry_at s p d) None → cond b (Some e.lookaheads) (entry_at g p (suc d)) ≡ cond b (Some e.lookaheads) None
      without true h = refl
      without false h = h

      matched : e.production ≡ p → e.dot ≡ d → nat_eq e.production p && nat_eq e.dot d ≡ true → entry_at (cond (is_symbol (symbol_at G e.production e.dot) X) (moved e ∷ g) g) p (suc d) ≡ cond (is_symbol (symbol_at G p d) X) (entry_at (e ∷ s) p d) None
      matched x y z = left (is_symbol (symbol_at G e.production e.dot) X) true z ∙
          ap (λ b. cond b (Some e.lookaheads) (entry_at g p (suc d))) (ap (λ p. is_symbol (symbol_at G p e.dot) X) x ∙ ap (λ d. is_symbol (symbol_at G p d) X) y) ∙
          without (is_symbol (symbol_at G p d) X) more ∙
          ap (λ m. cond (is_symbol (symbol_at G p d) X) (cond m (Some e.lookaheads) (entry_at s p d)) None) (sym z)

      go : (a b : Bool) → nat_eq e.production p ≡ a → nat_eq e.dot d ≡ b → entry_at (cond (is_symbol (symbol_at G e.production e.dot) X) (moved e ∷ g) g) p (suc d) ≡ cond (is_symbol (symbol_at G p d) X) (entry_at (e ∷ s) p d) None
      go true true x y = matched (eqb-true e.production p x) (eqb-true e.dot d y) (ap (λ a. a && nat_eq e.dot d) x ∙ y)
      go true false x y = unmatched (ap (λ a. a && nat_eq e.dot d) x ∙ y)
      go false b x y = unmatched (ap (λ a. a && nat_eq e.dot d) x)

  goto_at : (s : ItemSet) (p d : ℕ) → entry_at (goto_set G s X) p (suc d) ≡ cond (is_symbol (symbol_at G p d) X) (entry_at s p d) None
  unfolding entry_at
  goto_at [] p d = by (is_symbol (symbol_at G p d) X)
    where
      by : (b : Bool) → entry_at [] p (suc d) ≡ cond b (entry_at [] p d) None
      by true = refl
      by false = refl
  goto_at (e ∷ s) p d = goto_entry e s (goto_set G s X) p d (goto_at s p d)

  -- what it has came over X
  came : (s : ItemSet) (p d : ℕ) (bits : List Bool) → entry_at (goto_set G s X) p (suc d) ≡ Some bits → IsNext G p d X × (entry_at s p d ≡ Some bits)
  came s p d bits h = by (is_symbol (symbol_at G p d) X) refl (sym (goto_at s p d) ∙ h)
    where
      by : (b : Bool) → is_symbol (symbol_at G p d) X ≡ b → cond b (entry_at s p d) None ≡ Some bits → IsNext G p d X × (entry_at s p d ≡ Some bits)
      by true x y = (next_of p d x, y)
      by false x y = absurd (none_some bits y)

  went : (s : ItemSet) (p d : ℕ) (bits : List Bool) → IsNext G p d X → entry_at s p d ≡ Some bits → entry_at (goto_set G s X) p (suc d) ≡ Some bits
  went s p d bits n h = goto_at s p d ∙ ap (λ b. cond b (entry_at s p d) None) (of_next p d n) ∙ h

  module _ (I : Items) (L : Lookaheads) (s : ItemSet) (is : Is s I L) where
    item_back : (p d : ℕ) → HasItem (goto_set G s X) p d → Goto G I X p d
    item_back p zero h = absurd (none_some h.lookaheads (sym (goto_at_nought s p) ∙ h.at))
    item_back p (suc d) h = let (n, e) = came s p d h.lookaheads h.at in Goto.moved ((is.items p d).1 (record { lookaheads = h.lookaheads; at = e })) n

    look_back : (p d t : ℕ) → HasLook (goto_set G s X) p d t → GotoLook G L X p d t
    look_back p zero t h = absurd (none_some h.lookaheads (sym (goto_at_nought s p) ∙ h.at))
    look_back p (suc d) t h = let (n, e) = came s p d h.lookaheads h.at in GotoLook.moved ((is.looks p d t).1 (record { lookaheads = h.lookaheads; at = e; set = h.set })) n

    item_on : {p d : ℕ} → Goto G I X p d → HasItem (goto_set G s X) p d
    item_on (Goto.moved {p} {d} i n) = let h = (is.items p d).0 i in record { lookaheads = h.lookaheads; at = went s p d h.lookaheads n h.at }

    look_on : {p d t : ℕ} → GotoLook G L X p d t → HasLook (goto_set G s X) p d t
    look_on (GotoLook.moved {p} {d} {t} l n) = let h = (is.looks p d t).0 l in record { lookaheads = h.lookaheads; at = went s p d h.lookaheads n h.at; set = h.set }

    -- the computed set is goto's
    pub goto_is : Is (goto_set G s X) (Goto G I X) (GotoLook G L X)
    goto_is = record { items = λ p d. (item_on, item_back p d); looks = λ p d t. (look_on, look_back p d t) }

    -- where it is empty the symbol stands after no dot
    pub none_moves : goto_set G s X ≡ [] → (p d : ℕ) → I p d → IsNext G p d X → ⊥
    unfolding entry_at
    none_moves e p d i n = let h = item_on (Goto.moved i n) in no_item h.lookaheads (subst (λ m. entry_at m p (suc d) ≡ Some h.lookaheads) e h.at)
      where
        no_item : (bits : List Bool) → entry_at [] p (suc d) ≡ Some bits → ⊥
        no_item bits x = none_some bits x

-- a list that begins with a token, and the empty one
pub first_of_token : (G : Grammar) (u t : ℕ) (a : List Sym) → IsFirst G (token u ∷ a) t → u ≡ t
first_of_token G u t a f = first_is_first G (λ A. Unit {0}) (λ p A o h. tt) (λ A t. Unit {0}) (λ p A t o h. tt) (token u ∷ a) t f

pub no_first : (G : Grammar) (t : ℕ) → IsFirst G [] t → ⊥
no_first G t f = first_is_first G (λ A. Unit {0}) (λ p A o h. tt) (λ A t. Unit {0}) (λ p A t o h. tt) [] t f

pub not_nullable : (G : Grammar) (u : ℕ) (a : List Sym) → Nullable G (token u ∷ a) → ⊥
not_nullable G u a n = all_nullable G (λ A. Unit {0}) (λ p A o h. tt) n

-- each of the first n sets has an item that the new one lacks
abbrev pub is_lacking : Option (List Bool) → Bool
is_lacking None = true
is_lacking (Some bits) = false

abbrev pub all_differ : ℕ → List ItemSet → ItemSet → Bool
all_differ zero cores new = true
all_differ (suc n) [] new = false
all_differ (suc n) ([] ∷ cores) new = false
all_differ (suc n) ((e ∷ s) ∷ cores) new = is_lacking (entry_at new e.production e.dot) && all_differ n cores new

both_true : (a b : Bool) → a && b ≡ true → (a ≡ true) × (b ≡ true)
both_true true true h = (refl, refl)
both_true true false h = absurd (false_true h)
both_true false b h = absurd (false_true h)

lacks : (o : Option (List Bool)) (bits : List Bool) → is_lacking o ≡ true → o ≡ Some bits → ⊥
lacks None bits h e = none_some bits e
lacks (Some b) bits h e = absurd (false_true h)

pub entry_here : (e : Entry) (s : ItemSet) → entry_at (e ∷ s) e.production e.dot ≡ Some e.lookaheads
unfolding entry_at
entry_here e s = ap₂ (λ a b. cond (a && b) (Some e.lookaheads) (entry_at s e.production e.dot)) (nat_eq_refl e.production) (nat_eq_refl e.dot)

differ_at : (n : ℕ) (cores : List ItemSet) (new : ItemSet) → all_differ n cores new ≡ true → (J : Items) (M : Lookaheads) → Is new J M → (k : ℕ) → k < n → SameItems (HasItem (get_or cores k [])) J → ⊥
differ_at zero cores new h J M is k lt same = absurd (omega arith)
differ_at (suc n) [] new h J M is k lt same = absurd (false_true h)
differ_at (suc n) ([] ∷ cores) new h J M is k lt same = absurd (false_true h)
differ_at (suc n) ((e ∷ s) ∷ cores) new h J M is zero lt same =
    let i = (is.items e.production e.dot).0 ((same e.production e.dot).0 (record { lookaheads = e.lookaheads; at = entry_here e s })) in
    lacks (entry_at new e.production e.dot) i.lookaheads (both_true (is_lacking (entry_at new e.production e.dot)) (all_differ n cores new) h).0 i.at
differ_at (suc n) ((e ∷ s) ∷ cores) new h J M is (suc k) lt same =
    differ_at n cores new (both_true (is_lacking (entry_at new e.production e.dot)) (all_differ n cores new) h).1 J M is k (omega arith) same

-- so it stays out of those states
pub stays_out : (n : ℕ) (g : Graph) (new : ItemSet) → all_differ n g.cores new ≡ true → (J : Items) (M : Lookaheads) → Is new J M → (k : ℕ) → k < n → StaysOut g k J M
stays_out n g new h J M is k lt = inl (differ_at n g.cores new h J M is k lt)

-- none of the first n states is to be taken
abbrev pub are_idle : ℕ → List Bool → Bool
are_idle zero todo = true
are_idle (suc n) [] = true
are_idle (suc n) (true ∷ todo) = false
are_idle (suc n) (false ∷ todo) = are_idle n todo

idle_at : (n : ℕ) (todo : List Bool) → are_idle n todo ≡ true → (r : ℕ) → r < n → get_or todo r false ≡ true → ⊥
idle_at zero todo h r lt e = absurd (omega arith)
idle_at (suc n) [] h r lt e = false_true e
idle_at (suc n) (true ∷ todo) h r lt e = false_true h
idle_at (suc n) (false ∷ todo) h zero lt e = false_true e
idle_at (suc n) (false ∷ todo) h (suc r) lt e = idle_at n todo h r (omega arith) e

pub idle_before : (n : ℕ) (b : Building) → are_idle n b.todo ≡ true → (r : ℕ) → r < n → IsTodo b r → ⊥
idle_before n b h r lt e = idle_at n b.todo h r lt e

past_todo : (todo : List Bool) (s : ℕ) → length todo ≤ s → get_or todo s false ≡ true → ⊥
past_todo [] s le e = false_true e
past_todo (x ∷ todo) zero le e = absurd (omega arith)
past_todo (x ∷ todo) (suc s) le e = past_todo todo s (omega arith) e

pub none_left : (b : Building) → are_idle (length b.todo) b.todo ≡ true → (s : ℕ) → IsTodo b s → ⊥
none_left b h s e = by (dec_lt s (length b.todo))
  where
    by : Dec (s < length b.todo) → ⊥
    by (yes lt) = idle_before (length b.todo) b h s lt e
    by (no past) = past_todo b.todo s (omega arith) e

abbrev up_from : ℕ → ℕ → List ℕ
up_from i zero = []
up_from i (suc n) = i ∷ up_from (suc i) n

up_length : (i n : ℕ) → length (up_from i n) ≡ n
up_length i zero = refl
up_length i (suc n) = ap suc (up_length (suc i) n)

up_at : (i n k : ℕ) → k < n → get_or (up_from i n) k 0 ≡ i + k
up_at i zero k h = absurd (omega arith)
up_at i (suc n) zero h = omega arith
up_at i (suc n) (suc k) h = up_at (suc i) n k (omega arith) ∙ (let e : suc i + k ≡ i + suc k = omega arith in e)

-- a building at its end, each of whose states some string leads to, is the grammar's graph
module _ (G : Grammar) (good : WellFormed G) (b : Building) (built : Built G b) (led_to : (s : ℕ) → IsState b.graph s → (w : List Sym) × Leads b.graph w s) where
  abbrev kept : List ℕ
  kept = up_from 0 (length b.graph.cores)

  done : Finished G b.graph
  done = built_finished G good b built

  number : (i : ℕ) → i < length kept → IsState b.graph i
  number i h = omega (arith, up_length 0 (length b.graph.cores))

  back : (i : ℕ) → IsState b.graph i → i < length kept
  back i h = omega (arith, up_length 0 (length b.graph.cores))

  at : (i : ℕ) → i < length kept → get_or kept i 0 ≡ i
  at i h = up_at 0 (length b.graph.cores) i (number i h) ∙ (let e : 0 + i ≡ i = omega arith in e)

  led_state : {w : List Sym} {s : ℕ} → Leads b.graph w s → IsState b.graph s
  led_state (Leads.none e) = subst (IsState b.graph) (sym e) done.start_state
  led_state (Leads.on {X = X} {s = s} {target = target} l e) = (done.covers s target X (led_state l) e).state

  from_state : (i j : ℕ) (X : Sym) → b.graph.edge i X ≡ Some j → IsState b.graph i
  from_state i j X e = ((reached_sound G good built.reached).sound.no_other i j X e).2

  pub unpruned : IsGraph G b.graph
  unpruned = record {
    building = b;
    built = built;
    pruned = record {
      kept = kept;
      size = up_length 0 (length b.graph.cores);
      in_order = λ i j h k. subst₂ (λ m n. m < n) (sym (at i (omega arith))) (sym (at j k)) h;
      led_to = λ i h. let (w, l) = led_to i (number i h) in (w, subst (Leads b.graph w) (sym (at i h)) l);
      all = λ w s l. (s, back s (led_state l), at s (back s (led_state l)));
      start = (back b.graph.start done.start_state, at b.graph.start (back b.graph.start done.start_state));
      cores = λ i h. ap (λ n. get_or b.graph.cores n []) (sym (at i h));
      edges = λ i j X h k. (λ e. subst₂ (λ m n. b.graph.edge m X ≡ Some n) (sym (at i h)) (sym (at j k)) e, λ e. subst₂ (λ m n. b.graph.edge m X ≡ Some n) (at i h) (at j k) e);
      targets = λ i j X h e. back j (done.covers i j X (number i h) e).state;
      outside = λ i j X e. back i (from_state i j X e);
    };
  }
