-- Each definition is met on the small grammar.
use Rattle.std.proofs.Common.{◌≡◌, ℕ, zero, suc, ◌+◌, ◌<◌, ◌≤◌, ◌⊎◌, inl, inr, true, false, List, [], ◌∷◌, ◌++◌, drop, Some, None, refl, sym, ap, ◌∙◌, subst, arith}
use Rattle.std.specs.Prelude.{Contains, IsTrue}
use Rattle.cfg_theory.specs.Grammar.{Sym, rule, token, WellFormed, InRange, IsOf, IsNext, head_of, body_of, start_symbol}
use Rattle.cfg_theory.specs.Derivation.{Derives, Nullable, IsFirst, IsFollow, HasPath, IsProductive, AllProductive, IsSentence}
use Rattle.cfg_theory.specs.Tree.{IsDerivation}
use Rattle.cfg_theory.specs.First.{FirstOf, IsFirstTable}
use Rattle.cfg_theory.specs.Follow.{IsFollowTable}
use Rattle.cfg_theory.specs.Path.{IsReachTable}
use Rattle.cfg_theory.specs.Productive.{IsProductiveTable}
use Rattle.cfg_theory.specs.Cost.{cost, Has, IsCheapest, AreCheapest}
use Rattle.cfg_theory.specs.CostTables.{Sums, IsLeastTable, IsGreatestTable, IsCheapestTable, Concatenates}
use Rattle.cfg_theory.specs.SmallGrammar.{example, as_is, tree, each_rule, first_bits, follow_bits, reached, one, least_costs, greatest_costs, cheapest_lists}
use Rattle.cfg_theory.proofs.Derivation.{derives_rule}
use Rattle.cfg_theory.proofs.Follow.{follow_end, follow_passed}
use Rattle.cfg_theory.proofs.Trees.{sentences_are_derived}
use Rattle.cfg_theory.proofs.CostTables.{cost_tables_exact}

pub some_same : {X : Type 0} (x y : X) → Some x ≡ Some y → x ≡ y
some_same x y e = cc

pub none_some : {X : Type 0} (x : X) → None ≡ Some x → ⊥
none_some x e = cc

pub false_true : false ≡ true → ⊥
false_true e = cc

-- the productions with their rules
pub of_each : (P : ℕ → ℕ → Type 0) → P 0 1 → P 1 1 → P 2 2 → P 3 2 → P 4 0 → (p A : ℕ) → IsOf example p A → P p A
unfolding head_of
of_each P a b c d e zero A o = subst (P 0) o.head a
of_each P a b c d e (suc zero) A o = subst (P 1) o.head b
of_each P a b c d e (suc (suc zero)) A o = subst (P 2) o.head c
of_each P a b c d e (suc (suc (suc zero))) A o = subst (P 3) o.head d
of_each P a b c d e (suc (suc (suc (suc zero)))) A o = subst (P 4) o.head e
of_each P a b c d e (suc (suc (suc (suc (suc p))))) A o = let lt : suc (suc (suc (suc (suc p)))) < 5 = o.in_range in absurd (omega arith)

-- the symbols with their dots
pub next_each : (P : ℕ → ℕ → Sym → Type 0) → P 0 0 (token 0) → P 0 1 (rule 1) → P 1 0 (rule 2) → P 2 0 (token 1) → P 4 0 (rule 1) → (p d : ℕ) (X : Sym) → IsNext example p d X → P p d X
unfolding body_of
next_each P a b c d e zero zero X n = subst (P 0 0) (some_same (token 0) X n.at) a
next_each P a b c d e zero (suc zero) X n = subst (P 0 1) (some_same (rule 1) X n.at) b
next_each P a b c d e zero (suc (suc i)) X n = absurd (none_some X n.at)
next_each P a b c d e (suc zero) zero X n = subst (P 1 0) (some_same (rule 2) X n.at) c
next_each P a b c d e (suc zero) (suc i) X n = absurd (none_some X n.at)
next_each P a b c d e (suc (suc zero)) zero X n = subst (P 2 0) (some_same (token 1) X n.at) d
next_each P a b c d e (suc (suc zero)) (suc i) X n = absurd (none_some X n.at)
next_each P a b c d e (suc (suc (suc zero))) i X n = absurd (none_some X n.at)
next_each P a b c d e (suc (suc (suc (suc zero)))) zero X n = subst (P 4 0) (some_same (rule 1) X n.at) e
next_each P a b c d e (suc (suc (suc (suc zero)))) (suc i) X n = absurd (none_some X n.at)
next_each P a b c d e (suc (suc (suc (suc (suc p))))) i X n = absurd (none_some X n.at)

pub of0 : IsOf example 0 1
unfolding head_of
of0 = record { in_range = omega arith; head = refl }

pub of1 : IsOf example 1 1
unfolding head_of
of1 = record { in_range = omega arith; head = refl }

of2 : IsOf example 2 2
unfolding head_of
of2 = record { in_range = omega arith; head = refl }

of3 : IsOf example 3 2
unfolding head_of
of3 = record { in_range = omega arith; head = refl }

pub of4 : IsOf example 4 0
unfolding head_of
of4 = record { in_range = omega arith; head = refl }

pub next01 : IsNext example 0 1 (rule 1)
unfolding body_of
next01 = record { at = refl }

next10 : IsNext example 1 0 (rule 2)
unfolding body_of
next10 = record { at = refl }

pub next40 : IsNext example 4 0 (rule 1)
unfolding body_of
next40 = record { at = refl }

-- derivations by single productions
pub by0 : {b : List Sym} → Derives example (token 0 ∷ rule 1 ∷ []) b → Derives example (rule 1 ∷ []) b
unfolding body_of
by0 d = derives_rule example of0 d

pub by1 : {b : List Sym} → Derives example (rule 2 ∷ []) b → Derives example (rule 1 ∷ []) b
unfolding body_of
by1 d = derives_rule example of1 d

pub by2 : {b : List Sym} → Derives example (token 1 ∷ []) b → Derives example (rule 2 ∷ []) b
unfolding body_of
by2 d = derives_rule example of2 d

pub by3 : {b : List Sym} → Derives example [] b → Derives example (rule 2 ∷ []) b
unfolding body_of
by3 d = derives_rule example of3 d

pub by4 : {b : List Sym} → Derives example (rule 1 ∷ []) b → Derives example (rule 0 ∷ []) b
unfolding body_of
by4 d = derives_rule example of4 d

pub good : WellFormed example
unfolding body_of head_of
good = record {
  start_of = of4;
  start_alone = λ p o. of_each (λ p A. A ≡ 0 → p ≡ 4) (λ e. absurd (omega arith)) (λ e. absurd (omega arith)) (λ e. absurd (omega arith)) (λ e. absurd (omega arith)) (λ e. refl) p 0 o refl;
  start_rule = (1, refl);
  no_start = λ p d n. next_each (λ p d X. X ≡ rule 0 → ⊥) (λ e. cc) (λ e. cc) (λ e. cc) (λ e. cc) (λ e. cc) p d (rule 0) n refl;
  no_end = λ p d t e n. next_each (λ p d X. X ≡ token 2 → ⊥) (λ e. cc) (λ e. cc) (λ e. cc) (λ e. cc) (λ e. cc) p d (token t) n (ap token e);
  heads = of_each (λ p A. A < 3) (omega arith) (omega arith) (omega arith) (omega arith) (omega arith);
  symbols = next_each (λ p d X. InRange example X) (omega arith) (omega arith) (omega arith) (omega arith) (omega arith);
  end_token = omega arith;
}

pub derivation : IsDerivation example as_is (rule 1) (0 ∷ 1 ∷ []) tree
unfolding body_of head_of
derivation = record { is_tree = (omega arith, refl, (tt, ((omega arith, refl, ((omega arith, refl, (tt, tt)), tt)), tt))); root_is = refl; yield_is = refl }

pub sentence : IsSentence example (start_symbol example) (0 ∷ 1 ∷ [])
unfolding body_of
sentence = (sentences_are_derived ℕ).of_tree example as_is (rule 1) (0 ∷ 1 ∷ []) tree derivation

pub nullable : (A : ℕ) → IsTrue (each_rule A) → Nullable example (rule A ∷ [])
nullable zero h = by4 (by1 (by3 Derives.none))
nullable (suc zero) h = by1 (by3 Derives.none)
nullable (suc (suc zero)) h = by3 Derives.none
nullable (suc (suc (suc A))) h = absurd (false_true h)

pub first_tokens : (A t : ℕ) → IsTrue (first_bits A t) → IsFirst example (rule A ∷ []) t
first_tokens zero zero h = (_, by4 (by0 Derives.none))
first_tokens zero (suc zero) h = (_, by4 (by1 (by2 Derives.none)))
first_tokens zero (suc (suc t)) h = absurd (false_true h)
first_tokens (suc zero) zero h = (_, by0 Derives.none)
first_tokens (suc zero) (suc zero) h = (_, by1 (by2 Derives.none))
first_tokens (suc zero) (suc (suc t)) h = absurd (false_true h)
first_tokens (suc (suc zero)) zero h = absurd (false_true h)
first_tokens (suc (suc zero)) (suc zero) h = (_, by2 Derives.none)
first_tokens (suc (suc zero)) (suc (suc t)) h = absurd (false_true h)
first_tokens (suc (suc (suc A))) t h = absurd (false_true h)

-- what B begins with, S does, and so does ^
widen : (t : ℕ) → IsTrue (first_bits 2 t) → IsTrue (first_bits 1 t)
widen zero h = refl
widen (suc zero) h = refl
widen (suc (suc t)) h = h

same_firsts : (t : ℕ) → IsTrue (first_bits 1 t) → IsTrue (first_bits 0 t)
same_firsts zero h = refl
same_firsts (suc zero) h = refl
same_firsts (suc (suc t)) h = h

abbrev pub N : ℕ → Type 0
N A = IsTrue (each_rule A)

abbrev pub F : ℕ → ℕ → Type 0
F A t = IsTrue (first_bits A t)

abbrev pub W : ℕ → ℕ → Type 0
W R t = IsTrue (follow_bits R t)

of_left : (A : ℕ) {P Q : Type 0} → P ⊎ (Q × ⊥) → P
of_left A (inl x) = x
of_left A (inr x) = absurd x.1

pub first_table : IsFirstTable example N F
unfolding body_of
first_table = record {
  nullable = nullable;
  first = first_tokens;
  nullable_closed = λ p A o h. of_each (λ p A. N A) refl refl refl refl refl p A o;
  first_closed = λ p A t o. of_each (λ p A. FirstOf N F (body_of example p) t → F A t) (λ e. subst (F 1) e refl) (λ h. widen t (of_left 0 h)) (λ e. subst (F 2) e refl) (λ h. absurd h) (λ h. same_firsts t (of_left 0 h)) p A o;
}

pub follow_true : (R t : ℕ) → W R t → IsFollow example R t
unfolding body_of
follow_true zero zero h = absurd (false_true h)
follow_true zero (suc zero) h = absurd (false_true h)
follow_true zero (suc (suc zero)) h = follow_end example 2 refl
follow_true zero (suc (suc (suc t))) h = absurd (false_true h)
follow_true (suc zero) zero h = absurd (false_true h)
follow_true (suc zero) (suc zero) h = absurd (false_true h)
follow_true (suc zero) (suc (suc zero)) h = follow_passed example 4 0 0 1 2 of4 next40 Derives.none (follow_end example 2 refl)
follow_true (suc zero) (suc (suc (suc t))) h = absurd (false_true h)
follow_true (suc (suc zero)) zero h = absurd (false_true h)
follow_true (suc (suc zero)) (suc zero) h = absurd (false_true h)
follow_true (suc (suc zero)) (suc (suc zero)) h = follow_passed example 1 1 0 2 2 of1 next10 Derives.none (follow_passed example 4 0 0 1 2 of4 next40 Derives.none (follow_end example 2 refl))
follow_true (suc (suc zero)) (suc (suc (suc t))) h = absurd (false_true h)
follow_true (suc (suc (suc R))) t h = absurd (false_true h)

follow_down : (t : ℕ) → W 0 t → W 1 t
follow_down zero h = h
follow_down (suc zero) h = h
follow_down (suc (suc zero)) h = h
follow_down (suc (suc (suc t))) h = h

follow_on : (t : ℕ) → W 1 t → W 2 t
follow_on zero h = h
follow_on (suc zero) h = h
follow_on (suc (suc zero)) h = h
follow_on (suc (suc (suc t))) h = h

-- the rule of each production
abbrev head_number : ℕ → ℕ
head_number zero = 1
head_number (suc zero) = 1
head_number (suc (suc zero)) = 2
head_number (suc (suc (suc zero))) = 2
head_number (suc (suc (suc (suc p)))) = 0

-- a rule that stands last hands its FOLLOW on
handed : (p d A R t : ℕ) → IsOf example p A → IsNext example p d (rule R) → W A t → W R t
handed p d A R t o n = next_each (λ p d X. IsOf example p A → (R : ℕ) → X ≡ rule R → W A t → W R t) (λ o R e. cc) (λ o R e. on 0 1 1 1 R o (heads 0) e (λ w. w)) (λ o R e. on 1 1 2 2 R o (heads 1) e (follow_on t)) (λ o R e. cc) (λ o R e. on 4 0 1 1 R o (heads 4) e (follow_down t)) p d (rule R) n o R refl
  where
    heads : (p : ℕ) (A : ℕ) → IsOf example p A → head_number p ≡ A
    heads p A o = of_each (λ p A. head_number p ≡ A) refl refl refl refl refl p A o

    rule_same : (A B : ℕ) → rule A ≡ rule B → A ≡ B
    rule_same A B e = cc

    on : (p B C D R : ℕ) → IsOf example p A → ((A : ℕ) → IsOf example p A → B ≡ A) → rule C ≡ rule R → (W B t → W C t) → W A t → W R t
    on p B C D R o is e k w = subst (λ R. W R t) (rule_same C R e) (k (subst (λ A. W A t) (sym (is A o)) w))

nothing_behind : (p d R : ℕ) → IsNext example p d (rule R) → (t : ℕ) → FirstOf N F (drop (suc d) (body_of example p)) t → ⊥
unfolding body_of
nothing_behind p d R n t = next_each (λ p d X. X ≡ rule R → FirstOf N F (drop (suc d) (body_of example p)) t → ⊥) (λ e. cc) (λ e h. h) (λ e h. h) (λ e. cc) (λ e h. h) p d (rule R) n refl

pub follow_table : IsFollowTable example N F W
follow_table = record {
  follow = follow_true;
  after = λ p A d R t o n h. absurd (nothing_behind p d R n t h);
  passed = λ p A d R t o n h w. handed p d A R t o n w;
  at_end = λ t e. subst (W 0) (sym e) refl;
}

pub reach_true : (B : ℕ) → IsTrue (reached B) → HasPath example 1 B
reach_true zero h = absurd (false_true h)
reach_true (suc zero) h = HasPath.one (0, 1, of0, next01)
reach_true (suc (suc zero)) h = HasPath.one (1, 0, of1, next10)
reach_true (suc (suc (suc B))) h = absurd (false_true h)

-- the rules that stand in bodies
named_rule : (p d R : ℕ) → IsNext example p d (rule R) → IsTrue (reached R)
named_rule p d R n = next_each (λ p d X. (R : ℕ) → X ≡ rule R → IsTrue (reached R)) (λ R e. cc) (λ R e. subst (λ R. IsTrue (reached R)) (rule_same 1 R e) refl) (λ R e. subst (λ R. IsTrue (reached R)) (rule_same 2 R e) refl) (λ R e. cc) (λ R e. subst (λ R. IsTrue (reached R)) (rule_same 1 R e) refl) p d (rule R) n R refl
  where
    rule_same : (A B : ℕ) → rule A ≡ rule B → A ≡ B
    rule_same A B e = cc

pub reach_table : IsReachTable example 1 (λ B. IsTrue (reached B))
reach_table = record { reached = reach_true; named = λ B r. named_rule r.0 r.1 B r.3; closed = λ B C h r. named_rule r.0 r.1 C r.3 }

pub productive : (A : ℕ) → N A → IsProductive example A
productive A h = ([], nullable A h)

pub productive_table : IsProductiveTable example N
productive_table = record { productive = productive; closed = λ p A o h. of_each (λ p A. N A) refl refl refl refl refl p A o }

all_named : (R : ℕ) → IsTrue (reached R) → N R
all_named zero h = absurd (false_true h)
all_named (suc zero) h = refl
all_named (suc (suc zero)) h = refl
all_named (suc (suc (suc R))) h = h

pub all_productive : AllProductive example
all_productive p d A n = productive A (all_named A (named_rule p d A n))

least_lists : (A n : ℕ) → least_costs A ≡ Some n → (w : List ℕ) × Has example A w × (cost one w ≡ n)
least_lists zero n e = ([], nullable 0 refl, some_same 0 n e)
least_lists (suc zero) n e = ([], nullable 1 refl, some_same 0 n e)
least_lists (suc (suc zero)) n e = ([], nullable 2 refl, some_same 0 n e)
least_lists (suc (suc (suc A))) n e = absurd (none_some n e)

pub least_table : IsLeastTable example one least_costs
least_table = record {
  lists = least_lists;
  closed = λ p A n o s. of_each (λ p A. (m : ℕ) × (least_costs A ≡ Some m) × (m ≤ n)) (0, refl, omega arith) (0, refl, omega arith) (0, refl, omega arith) (0, refl, omega arith) (0, refl, omega arith) p A o;
}

greatest_lists : (A n : ℕ) → greatest_costs A ≡ Some n → (w : List ℕ) × Has example A w × (cost one w ≡ n)
greatest_lists zero n e = absurd (none_some n e)
greatest_lists (suc zero) n e = absurd (none_some n e)
greatest_lists (suc (suc zero)) n e = (1 ∷ [], by2 Derives.none, some_same 1 n e)
greatest_lists (suc (suc (suc A))) n e = absurd (none_some n e)

pub greatest_table : IsGreatestTable example one greatest_costs
unfolding body_of
greatest_table = record {
  lists = greatest_lists;
  closed = λ p A m e o r. of_each (λ p A. greatest_costs A ≡ Some m → (n : ℕ) × Sums one greatest_costs (body_of example p) n × (n ≤ m)) (λ e. absurd (none_some m e)) (λ e. absurd (none_some m e)) (λ e. let q = some_same 1 m e in (1, (0, refl, refl), omega (arith, q))) (λ e. (0, refl, omega arith)) (λ e. absurd (none_some m e)) p A o e;
}

abbrev pub lone : List (List ℕ)
lone = [] ∷ []

pub lone_is : (w : List ℕ) → Contains lone w → w ≡ []
lone_is w (zero, lt, e) = sym e
lone_is w (suc k, lt, e) = absurd (omega (arith, lt))

lone_has : (w : List ℕ) → w ≡ [] → Contains lone w
lone_has w e = (0, omega arith, sym e)

is_cheapest : (A : ℕ) (w : List ℕ) → Contains (cheapest_lists A) w → IsCheapest example one A w
is_cheapest zero w c = subst (IsCheapest example one 0) (sym (lone_is w c)) (record { has = nullable 0 refl; least = λ v h. omega arith })
is_cheapest (suc zero) w c = subst (IsCheapest example one 1) (sym (lone_is w c)) (record { has = nullable 1 refl; least = λ v h. omega arith })
is_cheapest (suc (suc zero)) w c = subst (IsCheapest example one 2) (sym (lone_is w c)) (record { has = nullable 2 refl; least = λ v h. omega arith })
is_cheapest (suc (suc (suc A))) w c = absurd (omega (arith, c.1))

-- one rule's list alone
one_part : (A : ℕ) (w : List ℕ) → (cheapest_lists A ≡ lone) → Concatenates cheapest_lists (rule A ∷ []) w → Contains lone w
one_part A w e (u, v, c, z, q) = let h : u ≡ [] = lone_is u (subst (λ l. Contains l u) e c) in lone_has w (q ∙ ap (λ x. x ++ v) h ∙ z)

pub cheapest_table : IsCheapestTable example one least_costs cheapest_lists
unfolding body_of
cheapest_table = record {
  cheapest = is_cheapest;
  closed = λ p A n w o e s c. of_each (λ p A. least_costs A ≡ Some n → Sums one least_costs (body_of example p) n → Concatenates cheapest_lists (body_of example p) w → Contains (cheapest_lists A) w) (λ e s c. absurd (dear n e s.0 s.2)) (λ e s c. one_part 2 w refl c) (λ e s c. absurd (dear n e s.0 s.2)) (λ e s c. lone_has w c) (λ e s c. one_part 1 w refl c) p A o e s c;
}
  where
    dear : (n : ℕ) → Some 0 ≡ Some n → (k : ℕ) → n ≡ 1 + k → ⊥
    dear n e k q = let z = some_same 0 n e in omega (arith, z, q)

pub all_cheapest : AreCheapest example one 1 lone
all_cheapest = record {
  all = λ w. cost_tables_exact.cheapest example one least_costs cheapest_lists least_table cheapest_table 1 w;
  ordered = λ i j d lt le. absurd (omega (arith, lt, le));
}
