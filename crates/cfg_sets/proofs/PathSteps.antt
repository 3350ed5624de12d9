-- What the set of the rules that a rule reaches tells of productions.
use Rattle.std.proofs.Common.{◌≡◌, ℕ, ◌+◌, ◌<◌, ◌⊎◌, inl, inr, ◌↔◌, Bool, true, false, List, length, replicate, Some, slice_get, refl, sym, ap, ◌∙◌, subst, arith}
use Rattle.std.specs.Prelude.{IsTrue}
use Rattle.std.proofs.lemmas.List.{length-set}
use Rattle.std.proofs.lemmas.Bool.{cases_eq}
use Rattle.cfg_theory.specs.Grammar.{Sym, rule, token, Grammar, IsNext, InRange, head_of, body_of}
use Rattle.cfg_theory.specs.Derivation.{HasPath}
use Rattle.cfg_theory.specs.Path.{IsReachTable, PathTablesAreExact}
use Rattle.cfg_theory.proofs.Paths.{path_on}
use Rattle.vob.specs.Sets.{is_set}
use Rattle.cfg_sets.specs.Paths.{AreReached, IsReachedFrom, IsIn, HasPlace, with_rule}
use Rattle.vob.proofs.Bits.{none_set, put_in}

some_same : (X Y : Sym) → Some X ≡ Some Y → X ≡ Y
some_same X Y e = cc

-- the rules that the first n symbols of p name are in the set
abbrev pub NamedBelow : Grammar → ℕ → ℕ → List Bool → Type 0
NamedBelow G p n bits = (d R : ℕ) → d < n → IsNext G p d (rule R) → IsTrue (is_set bits R)

pub named_more : (G : Grammar) (p n : ℕ) (X : Sym) (bits : List Bool) → slice_get (body_of G p) n ≡ Some X → NamedBelow G p n bits × IsIn bits X → NamedBelow G p (n + 1) bits
named_more G p n X bits at (below, here) d R lt next = elim (cases_eq d n) [ inl e ↦ at_place e | inr ne ↦ below d R (omega (arith, lt, ne)) next ]
  where
    at_place : d ≡ n → IsTrue (is_set bits R)
    at_place e = subst (IsIn bits) (some_same X (rule R) (sym at ∙ ap (slice_get (body_of G p)) (sym e) ∙ next.at)) here

-- what a reached production names is reached
module _ (G : Grammar) (A p : ℕ) (lt : p < length G.productions) (old : List Bool) (sound : AreReached G A old) (from : (head_of G p ≡ A) ⊎ IsTrue (is_set old (head_of G p))) where
  pub reaches : (d R : ℕ) → IsNext G p d (rule R) → HasPath G A R
  reaches d R next = elim from [
    | inl e ↦ HasPath.one (p, d, record { in_range = lt; head = e }, next)
    | inr h ↦ path_on G (sound (head_of G p) h) (p, d, record { in_range = lt; head = refl }, next)
  ]

  pub with_reached : (d : ℕ) (X : Sym) (bits : List Bool) → slice_get (body_of G p) d ≡ Some X → HasPlace bits X → AreReached G A bits → AreReached G A (with_rule bits X)
  with_reached d (token t) bits at index h B k = h B k
  with_reached d (rule R) bits at index h B k = elim ((put_in bits R B index).0 k) [ inl x ↦ h B x | inr e ↦ subst (HasPath G A) e (reaches d R (record { at = at })) ]

pub with_width : (bits : List Bool) (X : Sym) → length (with_rule bits X) ≡ length bits
with_width bits (rule R) = length-set bits R true
with_width bits (token t) = refl

pub none_reached : (G : Grammar) (A n : ℕ) (bits : List Bool) → bits ≡ replicate n false → AreReached G A bits
none_reached G A n bits e B h = absurd (none_set n B (subst (λ l. IsTrue (is_set l B)) e h))

pub reach_table : (G : Grammar) (A : ℕ) (bits : List Bool) → AreReached G A bits → ((p : ℕ) → p < length G.productions → IsReachedFrom G A p bits) → IsReachTable G A (λ B. IsTrue (is_set bits B))
reach_table G A bits sound closed = record {
  reached = sound;
  named = λ B r. let (p, d, o, next) = r in closed p o.in_range (inl o.head) d B next;
  closed = λ B C h r. let (p, d, o, next) = r in closed p o.in_range (inr (subst (λ D. IsTrue (is_set bits D)) (sym o.head) h)) d C next;
}

pub exact_path : (G : Grammar) (A B : ℕ) (bits : List Bool) (answer : Bool) → PathTablesAreExact → AreReached G A bits → ((p : ℕ) → p < length G.productions → IsReachedFrom G A p bits) → answer ≡ is_set bits B → IsTrue answer ↔ HasPath G A B
exact_path G A B bits answer law sound closed e =
    let r = law.exact G A (is_set bits) (reach_table G A bits sound closed) B in
    (λ h. r.0 (sym e ∙ h), λ h. e ∙ r.1 h)

pub has_place : (G : Grammar) (bits : List Bool) (X : Sym) → length bits ≡ G.rules → InRange G X → HasPlace bits X
has_place G bits (rule R) e lt = subst (λ n. R < n) (sym e) lt
has_place G bits (token t) e lt = tt
