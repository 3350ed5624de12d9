-- Texts as keys.
use Rattle.std.proofs.Common.{◌≡◌, String, ap, ◌∙◌}
use Rattle.std.specs.declared.cmp.Ordering.{Ordering}
use Rattle.std.specs.declared.cmp.Ordering.TheVariants.{Less, Equal, Greater}
use Rattle.std.specs.Ordering.{nat_cmp, ordering_reverse}
use Rattle.std.specs.Cmp.Lexicographic.{slice_cmp}
use Rattle.std.specs.String.{string_bytes, string_cmp}
use Rattle.std.proofs.lemmas.Cmp.{nat_list_cmp_total}

own : (o : Ordering) → o ≡ ordering_reverse o → o ≡ Equal
own Less e = cc
own Equal e = cc
own Greater e = cc

-- a clone of a text is equal to it
pub text_clones_are_equal : {Z : Type 0} (k l : String Z) → string_bytes l ≡ string_bytes k → string_cmp k l ≡ Equal
text_clones_are_equal k l e =
    ap (λ bs. slice_cmp nat_cmp (string_bytes k) bs) e ∙ own (slice_cmp nat_cmp (string_bytes k) (string_bytes k)) (nat_list_cmp_total.antisymm (string_bytes k) (string_bytes k))
