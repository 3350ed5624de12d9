-- Least numbers of which something doesn't hold.
use Rattle.std.proofs.Common.{◌≡◌, ℕ, ◌+◌, ◌<◌, ◌≤◌, Bool, true, false, cond, [], Option, Some, None, refl, sym, subst, arith, ⊎_elim}
use Rattle.std.specs.Prelude.{nat_lt, length, get_or}
use Rattle.std.proofs.lemmas.Bool.{cases_lt}
use Rattle.std.proofs.lemmas.Bool.Decides.{nat_tests}
use Rattle.cfg_theory.specs.Grammar.{Grammar}
use Rattle.lr_theory.specs.Itemset.{Entry, ItemSet}
use Rattle.state_table.specs.TableValues.{TableValue}
use Rattle.lrpar.specs.Fitting.{LeastNot, least_of, GoesFrom, HasGotos}
use Rattle.lrpar.proofs.ItemLists.{ItemsBelow, below_none, below_more, each_item, has_item_at}

-- of the numbers below one more
pub below_one_more : (P : ℕ → Type 0) (n : ℕ) → ((t : ℕ) → t < n → P t) → P n → (t : ℕ) → t < n + 1 → P t
below_one_more P n below here t lt = ⊎_elim (λ less. below t less) (λ ge. let e : n ≡ t = omega (arith, lt, ge) in subst P e here) (cases_lt t n)

pub least_by : (P Q : ℕ → Type 0) (o : Option ℕ) → ((n : ℕ) → P n → Q n) → ((n : ℕ) → Q n → P n) → LeastNot P o → LeastNot Q o
least_by P Q None f b h = λ n. f n (h n)
least_by P Q (Some n) f b h = (λ q. h.0 (b n q), λ m lt. f m (h.1 m lt))

module _ (P Q : ℕ → Type 0) where
  both_some : (m n : ℕ) (b : Bool) → nat_lt n m ≡ b → LeastNot P (Some m) → LeastNot Q (Some n) → LeastNot (λ k. P k × Q k) (cond b (Some n) (Some m))
  both_some m n true e h k = let lt : n < m = grind (arith, nat_tests) in (λ both. k.0 both.1, λ j less. (h.1 j (omega (arith, lt, less)), k.1 j less))
  both_some m n false e h k = let le : m ≤ n = grind (arith, nat_tests) in (λ both. h.0 both.0, λ j less. (h.1 j less, k.1 j (omega (arith, le, less))))

  -- what holds of both
  pub least_both : (o u : Option ℕ) → LeastNot P o → LeastNot Q u → LeastNot (λ n. P n × Q n) (least_of o u)
  least_both None None h k = λ n. (h n, k n)
  least_both None (Some n) h k = (λ both. k.0 both.1, λ m lt. (h m, k.1 m lt))
  least_both (Some m) None h k = (λ both. h.0 both.0, λ n lt. (h.1 n lt, k n))
  least_both (Some m) (Some n) h k = both_some m n (nat_lt n m) refl h k

-- the gotos that the items below a place ask for
abbrev pub GoesBelow : Grammar → ItemSet → TableValue → ℕ → ℕ → ℕ → Type 0
GoesBelow G items v s i A = ItemsBelow items (GoesFrom G v s A) i

module _ (G : Grammar) (items : ItemSet) (v : TableValue) (s : ℕ) where
  pub goes_none : LeastNot (GoesBelow G items v s 0) None
  goes_none A = below_none items (GoesFrom G v s A)

  goes_back : (i p d A : ℕ) → ((e : Entry) → p ≡ (get_or items i e).production) → ((e : Entry) → d ≡ (get_or items i e).dot) → GoesBelow G items v s (i + 1) A → GoesBelow G items v s i A × GoesFrom G v s A p d
  goes_back i p d A ep ed h =
      let e : Entry = record { production = 0; dot = 0; lookaheads = [] } in (
        record { each = λ k x lt. h.each k x (omega (arith, lt)) },
        subst (λ q. GoesFrom G v s A q d) (sym (ep e)) (subst (GoesFrom G v s A (get_or items i e).production) (sym (ed e)) (h.each i e (omega arith))),
      )

  pub goes_more : (i p d : ℕ) (o u w : Option ℕ) → ((e : Entry) → p ≡ (get_or items i e).production) → ((e : Entry) → d ≡ (get_or items i e).dot) → LeastNot (GoesBelow G items v s i) o → LeastNot (λ A. GoesFrom G v s A p d) u → w ≡ least_of o u → LeastNot (GoesBelow G items v s (i + 1)) w
  goes_more i p d o u w ep ed h k e =
      subst (LeastNot (GoesBelow G items v s (i + 1))) (sym e)
      (least_by (λ A. GoesBelow G items v s i A × GoesFrom G v s A p d) (GoesBelow G items v s (i + 1)) (least_of o u)
      (λ A both. below_more items (GoesFrom G v s A) i p d both.0 ep ed both.1)
      (λ A h. goes_back i p d A ep ed h)
      (least_both (GoesBelow G items v s i) (λ A. GoesFrom G v s A p d) o u h k))

  pub goes_all : (i : ℕ) (o : Option ℕ) → length items ≤ i → i ≤ length items → LeastNot (GoesBelow G items v s i) o → LeastNot (HasGotos G items v s) o
  goes_all i o le ge h = least_by (GoesBelow G items v s i) (HasGotos G items v s) o
      (λ A below p d at. each_item items (GoesFrom G v s A) i le below p d at)
      (λ A all. record { each = λ k e lt. all (get_or items k e).production (get_or items k e).dot (has_item_at items k e (get_or items k e).production (get_or items k e).dot (omega (arith, lt, ge)) refl refl) })
      h
