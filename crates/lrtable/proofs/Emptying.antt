-- Sets that are emptied, one after another.
use Rattle.std.proofs.Common.{◌≡◌, ℕ, zero, suc, ◌+◌, ◌<◌, inl, inr, Bool, List, [], ◌∷◌, length, set, replicate, refl, ap, ap₂, ◌∙◌, arith, get_or-set_same, get_or-set_other}
use Rattle.std.proofs.lemmas.Bool.{cases_eq}
use Rattle.state_table.specs.ItemRows.{no_core, Item, Core, IsCoreOf}
use Rattle.lrtable.specs.Gaining.{core_in}

-- a set without items has no rows
pub none_core : (tokens : ℕ) (c : Core) → IsCoreOf tokens c → length c.items ≡ 0 → c ≡ no_core
none_core tokens c good e = go c.items c.rows e (good.count ∙ e)
  where
    go : (items : List Item) (rows : List (List Bool)) → length items ≡ 0 → length rows ≡ 0 → ◌≡◌ {A = Core} (record { items = items; rows = rows }) no_core
    go [] [] e f = refl
    go [] (r ∷ rows) e f = absurd (omega (arith, f))
    go (i ∷ items) rows e f = absurd (omega (arith, e))

-- one more is emptied
pub emptied_next : (sets new : List Core) (n : ℕ) → n < length sets → new ≡ set sets n no_core → ((k : ℕ) → k < n → core_in sets k ≡ no_core) → (k : ℕ) → k < n + 1 → core_in new k ≡ no_core
emptied_next sets new n lt e h k below = ap (λ l. core_in l k) e ∙ elim (cases_eq k n) [
  | inl q ↦ ap (core_in (set sets n no_core)) q ∙ get_or-set_same sets n no_core no_core lt
  | inr ne ↦ get_or-set_other sets n k no_core no_core ne ∙ h k (omega (arith, below, ne))
]

-- all are
pub all_empty : (sets : List Core) (n : ℕ) → length sets ≡ n → ((k : ℕ) → k < n → core_in sets k ≡ no_core) → sets ≡ replicate n no_core
all_empty [] zero e h = refl
all_empty [] (suc n) e h = absurd (omega (arith, e))
all_empty (c ∷ sets) zero e h = absurd (omega (arith, e))
all_empty (c ∷ sets) (suc n) e h = ap₂ (λ (x : Core) (l : List Core). x ∷ l) (h 0 (omega arith)) (all_empty sets n (omega (arith, e)) (λ k lt. h (suc k) (omega (arith, lt))))
