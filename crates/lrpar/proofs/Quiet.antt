-- Chains that follow reductions of one symbol.
use Rattle.std.proofs.Common.{◌≡◌, ℕ, zero, suc, ◌+◌, ◌≤◌, ◌⊎◌, inl, inr, ⊎_elim, List, [], ◌∷◌, ◌++◌, length, drop, Option, Some, None, refl, sym, ap, ◌∙◌, subst, arith}
use Rattle.std.specs.Prelude.{slice_get}
use Rattle.cfg_theory.specs.Grammar.{Grammar, head_of, body_of}
use Rattle.lr_theory.specs.Automaton.{Action, shift, reduce, accept, error, Automaton}
use Rattle.cfg_base.specs.declared.symbol.PIdx.{PIdx}
use Rattle.state_table.specs.Graphs.{GraphValue}
use Rattle.state_table.specs.TableValues.{TableValue, goto_at}
use Rattle.lrpar.specs.Ranges.{IsTable}
use Rattle.state_table.specs.Tables.{automaton_of}
use Rattle.lrpar.specs.Reducing.{ShortAt}
use Rattle.lrpar.specs.declared.unit_chains.Short.TheVariants as shorts
use Rattle.lr_theory.specs.Chains.{push_goto, goto_from, reduce_by, Reductions}

module _ (G : Grammar) (a : Automaton) (t : ℕ) where
  -- n reductions come from p with its goto on R above it
  pub record From (n p R : ℕ) : Type 0 where
    pub target : ℕ
    pub to : a.goto p R ≡ Some target
    pub come : Reductions G a t n (target ∷ p ∷ [])

  -- the first of them is by a production of one symbol at most; where it has one, the others come from its rule
  pub record Link (m q p : ℕ) : Type 0 where
    pub production : ℕ
    pub cell : a.action q t ≡ reduce production
    pub short : length (body_of G production) ≤ 1
    pub on : length (body_of G production) ≡ 1 → From m p (head_of G production)

  some_list : (x y : List ℕ) → Some x ≡ Some y → x ≡ y
  some_list x y e = cc

  by_goto : (m p r : ℕ) (o : Option ℕ) (ss : List ℕ) → a.goto p r ≡ o → push_goto o (p ∷ []) ≡ Some ss → Reductions G a t m ss → From m p r
  by_goto m p r None ss e h k = cc
  by_goto m p r (Some q) ss e h k = record { target = q; to = e; come = subst (Reductions G a t m) (sym (some_list (q ∷ p ∷ []) ss h)) k }

  by_length : (m q p pr n : ℕ) (ss : List ℕ) → n ≡ length (body_of G pr) → a.action q t ≡ reduce pr → goto_from G a pr (drop n (q ∷ p ∷ [])) ≡ Some ss → Reductions G a t m ss → Link m q p
  by_length m q p pr zero ss len cell h k = record { production = pr; cell = cell; short = omega (arith, len); on = λ one. absurd (omega (arith, len, one)) }
  by_length m q p pr (suc zero) ss len cell h k = record { production = pr; cell = cell; short = omega (arith, len); on = λ one. by_goto m p (head_of G pr) (a.goto p (head_of G pr)) ss refl h k }
  by_length m q p pr (suc (suc zero)) ss len cell h k = cc
  by_length m q p pr (suc (suc (suc n))) ss len cell h k = cc

  by_action : (m q p : ℕ) (c : Action) (ss : List ℕ) → a.action q t ≡ c → reduce_by G a c (q ∷ p ∷ []) ≡ Some ss → Reductions G a t m ss → Link m q p
  by_action m q p (shift r) ss e h k = cc
  by_action m q p (reduce pr) ss e h k = by_length m q p pr (length (body_of G pr)) ss refl e h k
  by_action m q p accept ss e h k = cc
  by_action m q p error ss e h k = cc

  pub link : (m q p : ℕ) → Reductions G a t (suc m) (q ∷ p ∷ []) → Link m q p
  link m q p h = by_action m q p (a.action q t) h.0 refl h.1 h.2

abbrev pub GoesFrom : Grammar → GraphValue → TableValue → ℕ → ℕ → ℕ → ℕ → Type 0
GoesFrom G x v t n p R = (q : ℕ) × (goto_at v p R ≡ Some q) × Reductions G (automaton_of x v) t n (q ∷ p ∷ [])

module _ {S : Type 0} (number : S → ℕ) (G : Grammar) (x : GraphValue) (v : TableValue) (table : IsTable v) (t : ℕ) where
  -- where a state has no such reduction
  pub ends : (m q p : ℕ) → ShortAt number G v q shorts.Nothing → Reductions G (automaton_of x v) t (suc m) (q ∷ p ∷ []) → ⊥
  ends m q p none h =
      let l = link G (automaton_of x v) t m q p h in
      let lt = none t l.production l.cell in
      omega (arith, lt, l.short)

  -- where it has one alone
  pub goes_on : (m q p : ℕ) (i : PIdx S) → ShortAt number G v q (shorts.Unit i) → Reductions G (automaton_of x v) t (suc m) (q ∷ p ∷ []) → From G (automaton_of x v) t m p (head_of G (number i.0))
  goes_on m q p i one h =
      let l = link G (automaton_of x v) t m q p h in
      let same : l.production ≡ number i.0 = one.2 t l.production l.cell l.short in
      let f = l.on (ap (λ k. length (body_of G k)) same ∙ one.1) in
      subst (λ k. From G (automaton_of x v) t m p (head_of G k)) same f

  some_number : (a b : ℕ) → Some a ≡ Some b → a ≡ b
  some_number a b e = cc

  -- from a rule, by the goto that was found
  pub at_target : (n p R q : ℕ) → goto_at v p R ≡ Some q → From G (automaton_of x v) t n p R → Reductions G (automaton_of x v) t n (q ∷ p ∷ [])
  at_target n p R q e f = subst (λ r. Reductions G (automaton_of x v) t n (r ∷ p ∷ [])) (some_number f.target q (sym f.to ∙ e)) f.come

  pub no_target : (n p R : ℕ) → goto_at v p R ≡ None → From G (automaton_of x v) t n p R → ⊥
  no_target n p R e f = cc (sym e ∙ f.to)

  pub as_from : (n m p R : ℕ) → n ≡ m → GoesFrom G x v t n p R → From G (automaton_of x v) t m p R
  as_from n m p R e h = subst (λ k. From G (automaton_of x v) t k p R) e (record { target = h.0; to = h.1; come = h.2 })

  pub from_as : (n m p R : ℕ) → n ≡ m → From G (automaton_of x v) t n p R → From G (automaton_of x v) t m p R
  from_as n m p R e h = subst (λ k. From G (automaton_of x v) t k p R) e h

pub appended_at : {X : Type 0} (xs : List X) (x y : X) (k : ℕ) → slice_get (xs ++ x ∷ []) k ≡ Some y → (slice_get xs k ≡ Some y) ⊎ ((k ≡ length xs) × (x ≡ y))
appended_at [] x y zero e = inr (refl, cc)
appended_at [] x y (suc k) e = cc
appended_at (z ∷ xs) x y zero e = inl e
appended_at (z ∷ xs) x y (suc k) e = ⊎_elim (λ h. inl h) (λ h. inr (ap suc h.0, h.1)) (appended_at xs x y k e)

pub appended_length : {X : Type 0} (xs : List X) (x : X) → length (xs ++ x ∷ []) ≡ length xs + 1
appended_length [] x = omega arith
appended_length (z ∷ xs) x = let h : length (xs ++ x ∷ []) ≡ length xs + 1 = appended_length xs x in omega (arith, h)

-- a reduction that leaves a state alone is an empty one
module _ (G : Grammar) (a : Automaton) (t : ℕ) where
  alone_by_length : (p pr n : ℕ) (ss : List ℕ) → n ≡ length (body_of G pr) → goto_from G a pr (drop n (p ∷ [])) ≡ Some ss → length (body_of G pr) ≡ 0
  alone_by_length p pr zero ss len h = sym len
  alone_by_length p pr (suc zero) ss len h = cc
  alone_by_length p pr (suc (suc n)) ss len h = cc

  alone_by_action : (p : ℕ) (c : Action) (ss : List ℕ) → a.action p t ≡ c → reduce_by G a c (p ∷ []) ≡ Some ss → (pr : ℕ) × (a.action p t ≡ reduce pr) × (length (body_of G pr) ≡ 0)
  alone_by_action p (shift r) ss e h = cc
  alone_by_action p (reduce pr) ss e h = (pr, e, alone_by_length p pr (length (body_of G pr)) ss refl h)
  alone_by_action p accept ss e h = cc
  alone_by_action p error ss e h = cc

  pub alone : (limit p : ℕ) → Reductions G a t (limit + 1) (p ∷ []) → (pr : ℕ) × (a.action p t ≡ reduce pr) × (length (body_of G pr) ≡ 0)
  alone limit p h =
      let e : limit + 1 ≡ suc limit = omega arith in
      let k = subst (λ n. Reductions G a t n (p ∷ [])) e h in
      alone_by_action p (a.action p t) k.0 refl k.1

module _ {S : Type 0} (number : S → ℕ) (G : Grammar) (x : GraphValue) (v : TableValue) (limit p t : ℕ) (h : Reductions G (automaton_of x v) t (limit + 1) (p ∷ [])) where
  pub not_nothing : ShortAt number G v p shorts.Nothing → ⊥
  not_nothing none =
      let k = alone G (automaton_of x v) t limit p h in
      let more = none t k.0 k.1 in
      let len = k.2 in
      omega (arith, more, len)

  pub not_unit : (i : PIdx S) → ShortAt number G v p (shorts.Unit i) → ⊥
  not_unit i one =
      let k = alone G (automaton_of x v) t limit p h in
      let len = k.2 in
      let same : k.0 ≡ number i.0 = one.2 t k.0 k.1 (omega (arith, len)) in
      let other = ap (λ q. length (body_of G q)) same ∙ one.1 in
      omega (arith, len, other)
