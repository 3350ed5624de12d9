-- Edges that carry the items past dot nought.
use Rattle.std.proofs.Common.{◌≡◌, ℕ, zero, suc, ◌+◌, ◌<◌, ◌≤◌, ◌⊎◌, inl, inr, ⊎_elim, Bool, true, false, List, [], ◌∷◌, ◌++◌, length, get_or, replicate, Some, refl, sym, ap, ◌∙◌, subst, arith}
use Rattle.std.specs.Prelude.{slice_get, slice_set, All}
use Rattle.std.proofs.lemmas.Bool.{cases_lt}
use Rattle.std.proofs.lemmas.Option.{slice_get_within, same_Some, some_pair_parts, get_or_from_slice_get}
use Rattle.cfg_base.specs.declared.symbol.PIdx.{PIdx}
use Rattle.cfg_theory.specs.Grammar.{Sym, Grammar, IsNext}
use Rattle.lr_theory.specs.Itemset.{Entry, ItemSet, HasItem}
use Rattle.state_table.specs.Graphs.{GraphValue, graph_of, target_in, AreInOrder}
use Rattle.lrpar.specs.Fitting.{Carries, ArePast, Uncarried, AreFlags, closed_at}
use Rattle.lrpar.specs.declared.parserdata.fitting.PastItem.{PastItem}
use Rattle.lrpar.proofs.ItemLists.{ItemsBelow, each_item}
use Rattle.lrpar.proofs.Edging.{found_edge, target_of}

-- an item of the list is carried
abbrev pub IsCarried : {S : Type 0} → (S → ℕ) → Grammar → ItemSet → Sym → PastItem S → Type 0
IsCarried number G from X x = HasItem from (number x.pidx.0) (number x.before.0) × IsNext G (number x.pidx.0) (number x.before.0) X

abbrev pub CarriedTo : {S : Type 0} → (S → ℕ) → Grammar → ItemSet → Sym → List (PastItem S) → ℕ → Type 0
CarriedTo {S} number G from X xs i = (k : ℕ) (x : PastItem S) → k < i → slice_get xs k ≡ Some x → IsCarried number G from X x

module _ {S : Type 0} (number : S → ℕ) (G : Grammar) (from : ItemSet) (X : Sym) (xs : List (PastItem S)) where
  pub carried_more : (i : ℕ) (x : PastItem S) → CarriedTo number G from X xs i → slice_get xs i ≡ Some x → IsCarried number G from X x → CarriedTo number G from X xs (i + 1)
  carried_more i x below at h k y lt aty = ⊎_elim
      (λ less. below k y less aty)
      (λ ge.
      let s : k ≡ i = omega (arith, lt, ge) in
      subst (IsCarried number G from X) (same_Some x y (sym at ∙ ap (slice_get xs) (sym s) ∙ aty)) h)
      (cases_lt k i)

  pub carried_all : (to : ItemSet) (i : ℕ) → ArePast number to xs → CarriedTo number G from X xs i → length xs ≤ i → Carries G from X to
  carried_all to i past below le p d h =
      let f = past.all p d h in
      let w = slice_get_within xs f.0 f.1 f.2 in
      let c = below f.0 f.1 (omega (arith, w, le)) f.2 in
      (subst (λ q. HasItem from q d) f.3 (subst (HasItem from (number f.1.pidx.0)) f.4 c.0), subst (λ q. IsNext G q d X) f.3 (subst (λ e. IsNext G (number f.1.pidx.0) e X) f.4 c.1))

  pub not_carried : (to : ItemSet) (i : ℕ) (x : PastItem S) → ArePast number to xs → slice_get xs i ≡ Some x → (IsCarried number G from X x → ⊥) → Carries G from X to → ⊥
  not_carried to i x past at fails c = fails (c (number x.pidx.0) (number x.before.0) (past.each i x at))

-- an item stands in the list
abbrev pub InPast : {S : Type 0} → (S → ℕ) → List (PastItem S) → ℕ → ℕ → Type 0
InPast {S} number xs p e = (d : ℕ) → e ≡ suc d → (k : ℕ) × (x : PastItem S) × (slice_get xs k ≡ Some x) × (number x.pidx.0 ≡ p) × (number x.before.0 ≡ d)

-- the items past dot nought of those below a place
pub record PastTo {S : Type 0} (number : S → ℕ) (s : ItemSet) (xs : List (PastItem S)) (i : ℕ) : Type 0 where
  pub each : (k : ℕ) (x : PastItem S) → slice_get xs k ≡ Some x → HasItem s (number x.pidx.0) (suc (number x.before.0))
  pub all : ItemsBelow s (InPast number xs) i

pub before_end : {X : Type 0} (xs : List X) (x y : X) (k : ℕ) → slice_get xs k ≡ Some y → slice_get (xs ++ x ∷ []) k ≡ Some y
before_end [] x y k e = cc
before_end (z ∷ xs) x y zero e = e
before_end (z ∷ xs) x y (suc k) e = before_end xs x y k e

pub at_end : {X : Type 0} (xs : List X) (x : X) → slice_get (xs ++ x ∷ []) (length xs) ≡ Some x
at_end [] x = refl
at_end (z ∷ xs) x = at_end xs x

pub split_end : {X : Type 0} (xs : List X) (x y : X) (k : ℕ) → slice_get (xs ++ x ∷ []) k ≡ Some y → (slice_get xs k ≡ Some y) ⊎ (x ≡ y)
split_end [] x y zero e = inr (same_Some x y e)
split_end [] x y (suc k) e = cc
split_end (z ∷ xs) x y zero e = inl e
split_end (z ∷ xs) x y (suc k) e = split_end xs x y k e

module _ {S : Type 0} (number : S → ℕ) (s : ItemSet) where
  pub past_none : PastTo {S = S} number s [] 0
  past_none = record { each = λ k x e. cc; all = record { each = λ k e lt. absurd (omega (arith, lt)) } }

  below_by : (P Q : ℕ → ℕ → Type 0) (i p d : ℕ) → ((p d : ℕ) → P p d → Q p d) → ItemsBelow s P i → ((e : Entry) → p ≡ (get_or s i e).production) → ((e : Entry) → d ≡ (get_or s i e).dot) → Q p d → ItemsBelow s Q (i + 1)
  below_by P Q i p d f below ep ed h = record {
    each = λ k e lt. ⊎_elim
        (λ before. f (get_or s k e).production (get_or s k e).dot (below.each k e before))
        (λ past.
        let at : i ≡ k = omega (arith, lt, past) in
        subst (λ j. Q (get_or s j e).production (get_or s j e).dot) at (subst (λ q. Q q (get_or s i e).dot) (ep e) (subst (Q p) (ed e) h)))
        (cases_lt k i);
  }

  -- an item at dot nought more
  pub past_skip : (xs : List (PastItem S)) (i p d : ℕ) → PastTo number s xs i → ((e : Entry) → p ≡ (get_or s i e).production) → ((e : Entry) → d ≡ (get_or s i e).dot) → d ≡ 0 → PastTo number s xs (i + 1)
  past_skip xs i p d past ep ed zero_dot = record {
    each = past.each;
    all = below_by (InPast number xs) (InPast number xs) i p d (λ q e h. h) past.all ep ed (λ e k. absurd (omega (arith, k, zero_dot)));
  }

  -- an item past it more
  pub past_more : (xs : List (PastItem S)) (x : PastItem S) (i p d : ℕ) → PastTo number s xs i → ((e : Entry) → p ≡ (get_or s i e).production) → ((e : Entry) → d ≡ (get_or s i e).dot) → HasItem s p d → number x.pidx.0 ≡ p → d ≡ suc (number x.before.0) → PastTo number s (xs ++ x ∷ []) (i + 1)
  past_more xs x i p d past ep ed item px dx = record {
    each = λ k y e. ⊎_elim
        (λ old. past.each k y old)
        (λ new. subst (λ (z : PastItem S). HasItem s (number z.pidx.0) (suc (number z.before.0))) new (subst (λ q. HasItem s q (suc (number x.before.0))) (sym px) (subst (HasItem s p) dx item)))
        (split_end xs x y k e);
    all = below_by (InPast number xs) (InPast number (xs ++ x ∷ [])) i p d
        (λ q e h c u. let f = h c u in (f.0, f.1, before_end xs x f.1 f.0 f.2, f.3, f.4))
        past.all ep ed (λ e k. let same : number x.before.0 ≡ e = omega (arith, k, dx) in (length xs, x, at_end xs x, px, same));
  }

  pub past_end : (xs : List (PastItem S)) (i : ℕ) → PastTo number s xs i → length s ≤ i → ArePast number s xs
  past_end xs i past le = record { each = past.each; all = λ p d h. each_item s (InPast number xs) i le past.all p (suc d) h d refl }

-- what the edges of r before a place leave the flags
pub record FlaggedTo (G : Grammar) (g : GraphValue) (r : ℕ) (flags : List Bool) (i : ℕ) : Type 0 where
  pub before : AreFlags G g r flags
  pub clear : (k : ℕ) (X : Sym) (q : ℕ) → k < i → slice_get (get_or g.edges r []) k ≡ Some (X, q) → slice_get flags q ≡ Some false → Carries G (closed_at g r) X (closed_at g q)

pub flagged_none : (G : Grammar) (g : GraphValue) (r : ℕ) (flags : List Bool) → AreFlags G g r flags → FlaggedTo G g r flags 0
flagged_none G g r flags h = record { before = h; clear = λ k X q lt. absurd (omega (arith, lt)) }

-- an edge that carries, or whose target is flagged
pub flagged_skip : (G : Grammar) (g : GraphValue) (r i q : ℕ) (X : Sym) (flags : List Bool) → FlaggedTo G g r flags i → slice_get (get_or g.edges r []) i ≡ Some (X, q) → (slice_get flags q ≡ Some false → Carries G (closed_at g r) X (closed_at g q)) → FlaggedTo G g r flags (i + 1)
flagged_skip G g r i q X flags h at here = record {
  before = h.before;
  clear = λ k Y u lt atk e. ⊎_elim
      (λ less. h.clear k Y u less atk e)
      (λ ge.
      let s : k ≡ i = omega (arith, lt, ge) in
      let parts = some_pair_parts X Y q u (sym at ∙ ap (slice_get (get_or g.edges r [])) (sym s) ∙ atk) in
      let e2 : slice_get flags q ≡ Some false = ap (slice_get flags) parts.1 ∙ e in
      subst (λ Z. Carries G (closed_at g r) Z (closed_at g u)) parts.0 (subst (λ v. Carries G (closed_at g r) X (closed_at g v)) parts.1 (here e2)))
      (cases_lt k i);
}

set_same : (xs : List Bool) (q : ℕ) (b c : Bool) → slice_get (slice_set xs q b) q ≡ Some c → b ≡ c
set_same [] q b c e = cc
set_same (x ∷ xs) zero b c e = same_Some b c e
set_same (x ∷ xs) (suc q) b c e = set_same xs q b c e

set_other : (xs : List Bool) (q u : ℕ) (b : Bool) → (u ≡ q → ⊥) → slice_get (slice_set xs q b) u ≡ slice_get xs u
set_other [] q u b ne = refl
set_other (x ∷ xs) zero zero b ne = absurd (ne refl)
set_other (x ∷ xs) zero (suc u) b ne = refl
set_other (x ∷ xs) (suc q) zero b ne = refl
set_other (x ∷ xs) (suc q) (suc u) b ne = set_other xs q u b (λ e. ne (ap suc e))

pub set_length : (xs : List Bool) (q : ℕ) (b : Bool) → length (slice_set xs q b) ≡ length xs
set_length [] q b = refl
set_length (x ∷ xs) zero b = refl
set_length (x ∷ xs) (suc q) b = ap suc (set_length xs q b)

nat_same : (m n : ℕ) → (m ≡ n) ⊎ (m ≡ n → ⊥)
nat_same zero zero = inl refl
nat_same zero (suc n) = inr (λ e. omega (arith, e))
nat_same (suc m) zero = inr (λ e. omega (arith, e))
nat_same (suc m) (suc n) = ⊎_elim (λ e. inl (ap suc e)) (λ ne. inr (λ e. ne (omega (arith, e)))) (nat_same m n)

-- a flag that is set tells more and clears less
module _ (flags : List Bool) (q : ℕ) where
  still_clear : (u : ℕ) → slice_get (slice_set flags q true) u ≡ Some false → slice_get flags u ≡ Some false
  still_clear u e = ⊎_elim
      (λ same. absurd (cc (set_same flags q true false (ap (slice_get (slice_set flags q true)) (sym same) ∙ e))))
      (λ ne. sym (set_other flags q u true ne) ∙ e)
      (nat_same u q)

  told_or : (u : ℕ) → slice_get (slice_set flags q true) u ≡ Some true → (u ≡ q) ⊎ (slice_get flags u ≡ Some true)
  told_or u e = ⊎_elim
      (λ same. inl same)
      (λ ne. inr (sym (set_other flags q u true ne) ∙ e))
      (nat_same u q)

pub flagged_more : (G : Grammar) (g : GraphValue) (r i q : ℕ) (X : Sym) (flags : List Bool) → AreInOrder (get_or g.edges r []) → FlaggedTo G g r flags i → slice_get (get_or g.edges r []) i ≡ Some (X, q) → (Carries G (closed_at g r) X (closed_at g q) → ⊥) → FlaggedTo G g r (slice_set flags q true) (i + 1)
flagged_more G g r i q X flags a h at fails =
    let edge : (graph_of g).edge r X ≡ Some q = target_of (get_or g.edges r []) i X q a at in
    let before : AreFlags G g r (slice_set flags q true) = record {
      count = set_length flags q true ∙ h.before.count;
      told = λ u e. ⊎_elim
          (λ same. subst (Uncarried G g) (sym same) (record { from = r; on = X; edge = edge; fails = fails }))
          (λ old. h.before.told u old)
          (told_or flags q u e);
      clear = λ s Y u lt eu e. h.before.clear s Y u lt eu (still_clear flags q u e);
    } in
    flagged_skip G g r i q X (slice_set flags q true) (record { before = before; clear = λ k Y u lt atk e. h.clear k Y u lt atk (still_clear flags q u e) }) at (λ e. cc (set_same flags q true false e))

pub flagged_all : (G : Grammar) (g : GraphValue) (r i : ℕ) (flags : List Bool) → FlaggedTo G g r flags i → length (get_or g.edges r []) ≤ i → AreFlags G g (r + 1) flags
flagged_all G g r i flags h le = record {
  count = h.before.count;
  told = h.before.told;
  clear = λ s Y u lt eu e. ⊎_elim
      (λ less. h.before.clear s Y u less eu e)
      (λ ge.
      let same : r ≡ s = omega (arith, lt, ge) in
      let f = found_edge (get_or g.edges r []) Y u (ap (λ k. target_in (get_or g.edges k []) Y) same ∙ eu) in
      let w = slice_get_within (get_or g.edges r []) f.0 (Y, u) f.1 in
      subst (λ k. Carries G (closed_at g k) Y (closed_at g u)) same (h.clear f.0 Y u (omega (arith, w, le)) f.1 e))
      (cases_lt s r);
}

pub flags_none : (G : Grammar) (g : GraphValue) (flags : List Bool) → length flags ≡ length g.cores → ((q : ℕ) → slice_get flags q ≡ Some true → ⊥) → AreFlags G g 0 flags
flags_none G g flags e none = record { count = e; told = λ q h. absurd (none q h); clear = λ r X q lt. absurd (omega (arith, lt)) }

pub none_set : (n q : ℕ) → slice_get (replicate n false) q ≡ Some true → ⊥
none_set zero q e = cc
none_set (suc n) zero e = cc
none_set (suc n) (suc q) e = none_set n q e

pub target_within : (n : ℕ) (es : List (Sym × ℕ)) (i : ℕ) (e : Sym × ℕ) → All (λ (x : Sym × ℕ). x.1 < n) es → slice_get es i ≡ Some e → e.1 < n
target_within n es i e all at = subst (λ (x : Sym × ℕ). x.1 < n) (get_or_from_slice_get es i e e at) (all i e (slice_get_within es i e at))

abbrev pub read_item : {S : Type 0} (p : PIdx S) (s : S) → PastItem S
read_item p s = record { pidx = p; before = record { 0 = s } }
