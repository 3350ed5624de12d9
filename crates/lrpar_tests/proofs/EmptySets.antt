-- Sets without items.
use Rattle.std.proofs.Common.{◌≡◌, ℕ, [], Some, subst, sym}
use Rattle.lr_theory.specs.Itemset.{ItemSet, entry_at}
use Rattle.state_table.specs.Itemsets.{HasWidth}

-- nothing has an entry in them
pub none_wide : (tokens : ℕ) (s : ItemSet) → s ≡ [] → HasWidth tokens s
unfolding entry_at
none_wide tokens s e = subst (HasWidth tokens) (sym e) (λ p d bits h. (let q : entry_at [] p d ≡ Some bits = h in cc))
