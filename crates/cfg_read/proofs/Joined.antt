-- Lists to whose end one part after another was put.
use Rattle.std.proofs.Common.{◌≡◌, List, ◌++◌, ap, ◌∙◌}
use Rattle.std.proofs.lemmas.List.{append_assoc}

pub joined : {A : Type 0} (base o p a b : List A) → o ≡ base ++ a → p ≡ o ++ b → p ≡ base ++ (a ++ b)
joined base o p a b e h = h ∙ ap (λ l. l ++ b) e ∙ append_assoc base a b
