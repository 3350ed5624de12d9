-- A set of productive rules that is closed under the productions holds all of them.
use Rattle.std.proofs.Common.{◌≡◌, ℕ, zero, suc, ◌<◌, List, [], ◌∷◌, ◌++◌, map, slice_get, Some, refl, sym, subst}
use Rattle.cfg_theory.specs.Grammar.{Sym, rule, token, Grammar, WellFormed, IsOf, body_of}
use Rattle.cfg_theory.specs.Derivation.{Replaces, Derives, DerivesTokens, IsProductive, AllProductive}
use Rattle.cfg_theory.specs.Productive.{RulesIn, IsProductiveTable, ProductiveIsExact, ProductiveTablesAreExact, AllRulesProductive}
use Rattle.cfg_theory.proofs.Derivation.{derives_rule, tokens_both}

module _ (P : ℕ → Type 0) where
  rules_front : (a b : List Sym) → RulesIn P (a ++ b) → RulesIn P a
  rules_front [] b h = tt
  rules_front (rule A ∷ a) b h = (h.0, rules_front a b h.1)
  rules_front (token t ∷ a) b h = rules_front a b h

  rules_back : (a b : List Sym) → RulesIn P (a ++ b) → RulesIn P b
  rules_back [] b h = h
  rules_back (rule A ∷ a) b h = rules_back a b h.1
  rules_back (token t ∷ a) b h = rules_back a b h

  rules_both : (a b : List Sym) → RulesIn P a → RulesIn P b → RulesIn P (a ++ b)
  rules_both [] b h k = k
  rules_both (rule A ∷ a) b h k = (h.0, rules_both a b h.1 k)
  rules_both (token t ∷ a) b h k = rules_both a b h k

  rules_of_tokens : (w : List ℕ) → RulesIn P (map token w)
  rules_of_tokens [] = tt
  rules_of_tokens (t ∷ w) = rules_of_tokens w

module _ (G : Grammar) (P : ℕ → Type 0) where
  -- what derives tokens has its rules in a closed set
  module _ (closed : (p A : ℕ) → IsOf G p A → RulesIn P (body_of G p) → P A) where
    replaced : {a b : List Sym} → Replaces G a b → RulesIn P b → RulesIn P a
    replaced {a} {b} r h =
        let all : RulesIn P (r.before ++ (body_of G r.production ++ r.after)) = subst (RulesIn P) r.new h in
        let behind : RulesIn P (body_of G r.production ++ r.after) = rules_back P r.before (body_of G r.production ++ r.after) all in
        let head : P r.head = closed r.production r.head r.is_of (rules_front P (body_of G r.production) r.after behind) in
        subst (RulesIn P) (sym r.old) (rules_both P r.before (rule r.head ∷ r.after) (rules_front P r.before (body_of G r.production ++ r.after) all) (head, rules_back P (body_of G r.production) r.after behind))

    derived : {a b : List Sym} → Derives G a b → RulesIn P b → RulesIn P a
    derived Derives.none h = h
    derived (Derives.one r d) h = replaced r (derived d h)

    pub rules_in : (a : List Sym) (w : List ℕ) → DerivesTokens G a w → RulesIn P a
    rules_in a w d = derived d (rules_of_tokens P w)

  -- and a list whose rules derive tokens does
  pub list_of : ((A : ℕ) → P A → IsProductive G A) → (a : List Sym) → RulesIn P a → (w : List ℕ) × DerivesTokens G a w
  list_of make [] h = ([], Derives.none)
  list_of make (rule A ∷ a) h =
      let (u, d) = make A h.0 in
      let (v, e) = list_of make a h.1 in
      (u ++ v, tokens_both G u v d e)
  list_of make (token t ∷ a) h =
      let (v, e) = list_of make a h in
      (t ∷ v, tokens_both G (t ∷ []) v Derives.none e)

  pub productive_exact : IsProductiveTable G P → ProductiveIsExact G P
  productive_exact h = record {
    rule_productive = λ A. (h.productive A, λ d. (rules_in h.closed (rule A ∷ []) d.0 d.1).0);
    list_productive = λ a. (list_of h.productive a, λ d. rules_in h.closed a d.0 d.1);
  }

pub productive_tables_exact : ProductiveTablesAreExact
productive_tables_exact = record { exact = λ G productive h. productive_exact G _ h }

-- the rules of a list that stand at its indices
rules_at : (P : ℕ → Type 0) (a : List Sym) → ((d A : ℕ) → slice_get a d ≡ Some (rule A) → P A) → RulesIn P a
rules_at P [] h = tt
rules_at P (rule A ∷ a) h = (h zero A refl, rules_at P a (λ d. h (suc d)))
rules_at P (token t ∷ a) h = rules_at P a (λ d. h (suc d))

pub all_rules_productive : AllRulesProductive
all_rules_productive = record { agree = λ G good has. (there G has, back G good) }
  where
    there : (G : Grammar) → ((A : ℕ) → A < G.rules → (p : ℕ) × IsOf G p A) → AllProductive G → (A : ℕ) → A < G.rules → IsProductive G A
    there G has all A lt =
        let (p, o) = has A lt in
        let (w, d) = list_of G (IsProductive G) (λ B h. h) (body_of G p) (rules_at (IsProductive G) (body_of G p) (λ d B e. all p d B (record { at = e }))) in
        (w, derives_rule G o d)

    back : (G : Grammar) → WellFormed G → ((A : ℕ) → A < G.rules → IsProductive G A) → AllProductive G
    back G good all p d A n = all A (good.symbols p d (rule A) n)
