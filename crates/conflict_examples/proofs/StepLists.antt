-- Productions in the place of first symbols, one after the other.
use Rattle.std.proofs.Common.{arith, ◌≡◌, ℕ, zero, suc, ◌+◌, ◌-◌, ◌<◌, ◌≤◌, true, false, inl, inr, List, [], ◌∷◌, ◌++◌, length, map, take, drop, reverse, get_or, refl, sym, ap, ◌∙◌, subst, append_assoc, append-nil}
use Rattle.std.proofs.lemmas.List.{map-append, drop-map, drop_more, drop_all, length-map, reverse-append, reverse-reverse, take_more}
use Rattle.cfg_theory.specs.Grammar.{Sym, rule, token, Grammar, body_of, end_token, IsOf, IsEnd}
use Rattle.cfg_theory.specs.Derivation.{Derives, IsFirstBefore}
use Rattle.cfg_theory.specs.First.{AllOf, FirstOf}
use Rattle.cfg_theory.proofs.Derivation.{all_nullable, first_is_first}
use Rattle.lr_theory.specs.Canonical.{from_dot}
use Rattle.conflict_examples.specs.Spines.{Item, behind, around, AreSteps, forms_by, AreForms, Begins}
use Rattle.conflict_examples.specs.Opening.{has_rule_first}
use Rattle.conflict_examples.proofs.SymbolLists.{all_taken, last_is, last_turned, none_is}

module _ (G : Grammar) where
  pub steps_derive : {a c : List Sym} {steps : List ℕ} → AreSteps G a steps c → Derives G a c
  steps_derive AreSteps.none = Derives.none
  steps_derive (AreSteps.step {rest = rest} A p o s) = Derives.one (record { before = []; after = rest; head = A; production = p; is_of = o; old = refl; new = refl }) (steps_derive s)

  pub steps_forms : {a c : List Sym} {steps : List ℕ} → AreSteps G a steps c → AreForms G a (forms_by G a steps) c
  steps_forms AreSteps.none = AreForms.last
  steps_forms (AreSteps.step {rest = rest} A p o s) = AreForms.next (record { before = []; after = rest; head = A; production = p; is_of = o; old = refl; new = refl }) (steps_forms s)

  steps_on : {a b c : List Sym} {one other : List ℕ} → AreSteps G a one b → AreSteps G b other c → AreSteps G a (one ++ other) c
  steps_on AreSteps.none t = t
  steps_on (AreSteps.step A p o s) t = AreSteps.step A p o (steps_on s t)

  -- steps from a rule to nothing, and to a list that begins with a token, whatever stands behind it
  Gone : ℕ → Type 0
  Gone A = (rest : List Sym) → (steps : List ℕ) × AreSteps G (rule A ∷ rest) steps rest

  Comes : ℕ → ℕ → Type 0
  Comes A t = (rest : List Sym) → (steps : List ℕ) × (after : List Sym) × AreSteps G (rule A ∷ rest) steps (token t ∷ after)

  all_gone : (a rest : List Sym) → AllOf Gone a → (steps : List ℕ) × AreSteps G (a ++ rest) steps rest
  unfolding Gone
  all_gone [] rest h = ([], AreSteps.none)
  all_gone (rule A ∷ a) rest (n, h) =
      let (one, s) = n (a ++ rest) in
      let (other, t) = all_gone a rest h in
      (one ++ other, steps_on s t)
  all_gone (token u ∷ a) rest h = absurd h

  one_comes : (a rest : List Sym) (t : ℕ) → FirstOf Gone Comes a t → (steps : List ℕ) × (after : List Sym) × AreSteps G (a ++ rest) steps (token t ∷ after)
  unfolding Gone Comes
  one_comes [] rest t h = absurd h
  one_comes (rule A ∷ a) rest t (inl f) = f (a ++ rest)
  one_comes (rule A ∷ a) rest t (inr (n, h)) =
      let (one, s) = n (a ++ rest) in
      let (other, after, f) = one_comes a rest t h in
      (one ++ other, after, steps_on s f)
  one_comes (token u ∷ a) rest t e = ([], a ++ rest, subst (λ v. AreSteps G (token u ∷ a ++ rest) [] (token v ∷ a ++ rest)) e AreSteps.none)

  gone_closed : (p A : ℕ) → IsOf G p A → AllOf Gone (body_of G p) → Gone A
  unfolding Gone
  gone_closed p A o h = λ rest. let (steps, s) = all_gone (body_of G p) rest h in (p ∷ steps, AreSteps.step A p o s)

  comes_closed : (p A t : ℕ) → IsOf G p A → FirstOf Gone Comes (body_of G p) t → Comes A t
  unfolding Comes
  comes_closed p A t o h = λ rest. let (steps, after, s) = one_comes (body_of G p) rest t h in (p ∷ steps, after, AreSteps.step A p o s)

  -- what a list may come to begin with it comes to by first symbols alone
  pub first_steps : (t : ℕ) (a : List Sym) → IsFirstBefore G a (end_token G) t → (steps : List ℕ) × (last : List Sym) × AreSteps G a steps last × Begins G t last
  first_steps t a (inl f) =
      let (steps, after, s) = one_comes a [] t (first_is_first G Gone gone_closed Comes comes_closed a t f) in
      (steps, token t ∷ after, subst (λ l. AreSteps G l steps (token t ∷ after)) (append-nil a) s, Begins.opens after)
  first_steps t a (inr (n, e)) =
      let (steps, s) = all_gone a [] (all_nullable G Gone gone_closed n) in
      (steps, [], subst (λ l. AreSteps G l steps []) (append-nil a) s, Begins.ends e)

  pub come_none : {P : Type 0} (number : P → ℕ) (none : List P) (a form : List Sym) → none ≡ [] → form ≡ a → AreSteps G a (map number none) form
  come_none number none a form e same = subst (λ l. AreSteps G a (map number l) form) (sym e) (subst (AreSteps G a []) (sym same) AreSteps.none)

  steps_more : {a rest : List Sym} {steps : List ℕ} (A p : ℕ) → AreSteps G a steps (rule A ∷ rest) → IsOf G p A → AreSteps G a (steps ++ p ∷ []) (body_of G p ++ rest)
  steps_more A p AreSteps.none o = AreSteps.step A p o AreSteps.none
  steps_more A p (AreSteps.step B q u s) o = AreSteps.step B q u (steps_more A p s o)

  -- one more, as the code keeps them
  pub come_more : {P : Type 0} (number : P → ℕ) (before after : List P) (p : P) (a old now : List Sym) → (A : ℕ) × (rest : List Sym) × (old ≡ rule A ∷ rest) × IsOf G (number p) A →
      now ≡ body_of G (number p) ++ drop 1 old → after ≡ before ++ p ∷ [] → AreSteps G a (map number before) old → AreSteps G a (map number after) now
  come_more number before after p a old now (A, rest, e, o) n more s =
      let here : AreSteps G a (map number before) (rule A ∷ rest) = subst (AreSteps G a (map number before)) e s in
      let there : now ≡ body_of G (number p) ++ rest = n ∙ ap (λ l. body_of G (number p) ++ drop 1 l) e in
      let steps : map number after ≡ map number before ++ number p ∷ [] = ap (map number) more ∙ map-append number before (p ∷ []) in
      subst (λ l. AreSteps G a (map number after) l) (sym there) (subst (λ l. AreSteps G a l (body_of G (number p) ++ rest)) (sym steps) (steps_more A (number p) here o))

  forms_go : (a : List Sym) (p : ℕ) (steps : List ℕ) → has_rule_first a ≡ true → forms_by G a (p ∷ steps) ≡ a ∷ forms_by G (body_of G p ++ drop 1 a) steps
  forms_go [] p steps e = cc
  forms_go (rule A ∷ a) p steps e = refl
  forms_go (token t ∷ a) p steps e = cc

  forms_stop : (a : List Sym) (steps : List ℕ) → has_rule_first a ≡ false → forms_by G a steps ≡ a ∷ []
  forms_stop a [] e = refl
  forms_stop [] (p ∷ steps) e = refl
  forms_stop (rule A ∷ a) (p ∷ steps) e = cc
  forms_stop (token t ∷ a) (p ∷ steps) e = refl

  module _ {P V : Type 0} (number : P → ℕ) (h : V → List Sym) (start : List Sym) (all : List P) where
    -- the forms so far, and those that are left
    abbrev pub FormsLeft : List V → List Sym → ℕ → Type 0
    FormsLeft forms form k = forms_by G start (map number all) ≡ map h forms ++ forms_by G form (drop k (map number all))

    pub forms_init : (none : List V) → none ≡ [] → (form : List Sym) → form ≡ start → FormsLeft none form 0
    forms_init none e form same = sym (ap (λ l. map h l ++ forms_by G form (map number all)) e ∙ ap (λ l. forms_by G l (map number all)) same)

    pub forms_more : (before after : List V) (one : V) (form next : List Sym) (k : ℕ) (p : P) → k < length all → p ≡ get_or all k p → has_rule_first form ≡ true → h one ≡ form →
        after ≡ before ++ one ∷ [] → next ≡ body_of G (number p) ++ drop 1 form → FormsLeft before form k → FormsLeft after next (k + 1)
    forms_more before after one form next k p lt at first_rule is more n left =
        let rest = drop (k + 1) (map number all) in
        let cut : drop k (map number all) ≡ number p ∷ rest = drop-map number k all ∙ ap (map number) (drop_more all k p lt ∙ ap (λ x. x ∷ drop (k + 1) all) (sym at)) ∙ ap (λ l. number p ∷ l) (sym (drop-map number (k + 1) all)) in
        left
        ∙ ap (λ l. map h before ++ l) (ap (forms_by G form) cut ∙ forms_go form (number p) rest first_rule ∙ ap (λ l. form ∷ forms_by G l rest) (sym n))
        ∙ sym (append_assoc (map h before) (form ∷ []) (forms_by G next rest))
        ∙ ap (λ l. l ++ forms_by G next rest) (ap (λ x. map h before ++ x ∷ []) (sym is) ∙ sym (map-append h before (one ∷ [])) ∙ ap (map h) (sym more))

    pub forms_cut : (forms last : List V) (form : List Sym) (k : ℕ) → has_rule_first form ≡ false → map h last ≡ map h forms ++ form ∷ [] → FormsLeft forms form k → map h last ≡ forms_by G start (map number all)
    forms_cut forms last form k none e left = e ∙ sym (left ∙ ap (λ l. map h forms ++ l) (forms_stop form (drop k (map number all)) none))

    pub forms_end : (forms last : List V) (form : List Sym) (k : ℕ) → length all ≤ k → map h last ≡ map h forms ++ form ∷ [] → FormsLeft forms form k → map h last ≡ forms_by G start (map number all)
    forms_end forms last form k le e left = e ∙ sym (left ∙ ap (λ l. map h forms ++ forms_by G form l) (drop_all k (map number all) (omega (arith, le, length-map all number))))

  module _ {A : Type 0} (f : A → Item) where
    pub behind_more : (items : List A) (k : ℕ) (x : A) (old now : List Sym) → k < length items → x ≡ get_or items k x → now ≡ from_dot G (f x).production (suc (f x).dot) ++ old →
        old ≡ behind G (reverse (map f (take k items))) → now ≡ behind G (reverse (map f (take (k + 1) items)))
    behind_more items k x old now lt at n before =
        n ∙ ap (λ l. from_dot G (f x).production (suc (f x).dot) ++ l) before
        ∙ sym (ap (behind G) (last_turned f (take k items) (take (k + 1) items) x (take_more items k x lt ∙ ap (λ y. take k items ++ y ∷ []) (sym at))))

    pub around_all : (items : List A) (k : ℕ) (a : List Sym) → k ≡ length items - 1 → a ≡ behind G (reverse (map f (take k items))) → a ≡ around G (reverse (map f items))
    around_all [] zero a e h = h
    around_all [] (suc k) a e h = absurd (omega (arith, e))
    around_all (y ∷ ys) k a e h =
        let items = y ∷ ys in
        let x = get_or items k y in
        let lt : k < length items = omega (arith, e) in
        let all : items ≡ take k items ++ x ∷ [] = sym (all_taken items (k + 1) (omega (arith, e))) ∙ take_more items k y lt in
        h ∙ sym (ap (around G) (last_turned f (take k items) items x all))

-- the first symbol, where it stands last
module _ {A B : Type 0} (f : A → B) where
  pub last_first : (xs : List A) (x : A) → x ≡ get_or xs (length xs - 1) x → (length xs ≡ 0 → ⊥) → (rest : List B) × (reverse (map f xs) ≡ f x ∷ rest)
  last_first xs x e n =
      let outer = take (length xs - 1) xs in
      (reverse (map f outer), last_turned f outer xs x (last_is xs x e n))

  -- without it
  less_first : (xs less : List A) → less ≡ take (length xs - 1) xs → reverse (map f less) ≡ drop 1 (reverse (map f xs))
  less_first [] less e = ap (λ l. reverse (map f l)) e
  less_first (y ∷ ys) less e =
      let xs = y ∷ ys in
      let x = get_or xs (length xs - 1) y in
      let outer = take (length xs - 1) xs in
      let all : xs ≡ outer ++ x ∷ [] = sym (all_taken xs (length xs - 1 + 1) (omega arith)) ∙ take_more xs (length xs - 1) y (omega arith) in
      ap (λ l. reverse (map f l)) e ∙ sym (ap (drop 1) (last_turned f outer xs x all))

  -- a list put before it, as the code keeps them
  pub put_before : (old less now body : List A) (b : List B) → less ≡ take (length old - 1) old → map f body ≡ b → map f now ≡ map f less ++ reverse (map f body) → reverse (map f now) ≡ b ++ drop 1 (reverse (map f old))
  put_before old less now body b l e n =
      ap reverse n ∙ reverse-append (map f less) (reverse (map f body)) ∙ ap (λ x. x ++ reverse (map f less)) (reverse-reverse (map f body) ∙ e) ∙ ap (λ x. b ++ x) (less_first old less l)

  pub pushed_behind : (old now body back : List A) (b : List B) (d : ℕ) → map f body ≡ b → back ≡ drop d body → map f now ≡ map f old ++ reverse (map f back) → reverse (map f now) ≡ drop d b ++ reverse (map f old)
  pushed_behind old now body back b d e k n =
      ap reverse n ∙ reverse-append (map f old) (reverse (map f back)) ∙ ap (λ x. x ++ reverse (map f old)) (reverse-reverse (map f back) ∙ ap (map f) k ∙ sym (drop-map f d body) ∙ ap (drop d) e)

-- begins, as the code sees the first symbol
pub begins_with : (G : Grammar) (t u : ℕ) (a : List Sym) → (rest : List Sym) × (a ≡ token u ∷ rest) → u ≡ t → Begins G t a
begins_with G t u a (rest, e) same = subst (Begins G t) (sym (e ∙ ap (λ v. token v ∷ rest) same)) (Begins.opens rest)

pub begins_end : (G : Grammar) (t : ℕ) (a : List Sym) → a ≡ [] → IsEnd G t → Begins G t a
begins_end G t a e end = subst (Begins G t) (sym e) (Begins.ends end)
