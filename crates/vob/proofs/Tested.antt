-- Blocks that spell a list, as a list keeps them.
use Rattle.std.proofs.Common.{◌≡◌, ℕ, Bool, List, length, subst}
use Rattle.std.specs.List.{flat_map}
use Rattle.vob.specs.Packed.{Packs, Spells}
use Rattle.vob.proofs.Pack as pack

module _ {T : Type 0} (bits : T → List Bool) (w : ℕ) (each : (x : T) → length (bits x) ≡ w) where
  pub packs : {n : ℕ} {xs ys : List T} → xs ≡ ys → Spells w n (length xs) (flat_map bits xs) → Packs w n (flat_map bits ys)
  packs {n} {xs} e s = subst (λ zs. Packs w n (flat_map bits zs)) e (record { count = pack.counted_length bits w each xs n s.0; unused = s.1 })
