-- A key's entry is filled.
use Rattle.std.proofs.Common.{◌≡◌, Bool, true, false, cond, Option, Some, List, [], ◌∷◌, unwrap_or, is_some, None, ap, refl, sym, ◌∙◌}
use Rattle.std.specs.declared.cmp.Ordering.{Ordering}
use Rattle.std.specs.declared.cmp.Ordering.TheVariants.{Less, Equal, Greater}
use Rattle.std.specs.Cmp.{IsTotalOrder}
use Rattle.std.specs.Ordering.{is_eq, match_ordering}
use Rattle.std.specs.Map.{keys_of, lookup, set_value}
use Rattle.std.specs.BTreeMap.{insert_entry, is_at}
use Rattle.std.specs.List.Sorted.{IsStrictlySortedBy}
use Rattle.std.proofs.lemmas.Cmp.{tied_back}
use Rattle.std.proofs.lemmas.Map.{lookup-none}
use Rattle.std.proofs.lemmas.Map.Entries.{none_below_head}
use Rattle.std.proofs.lemmas.Map.Keys.{sorted_tail}
use Rattle.cfg_sections.specs.declared.markmap.Slot.{Slot}
use Rattle.cfg_sections.specs.declared.markmap.Marks.{Marks}
use Rattle.cfg_sections.specs.declared.markmap.MergeBehavior.{MergeBehavior}
use Rattle.cfg_sections.specs.MarkMaps.{Marked, blank, map_with, marks_at, slot_in}
use Rattle.cfg_sections.specs.LentValues.{with_value_at}

lookup_alike : {K X : Type 0} (f h : K → Bool) → ((x : K) → f x ≡ h x) → (es : List (K × X)) → lookup f es ≡ lookup h es
lookup_alike f h same [] = refl
lookup_alike {K} {X} f h same (e ∷ es) =
    ap (λ (b : Bool). cond b (Some e.1) (lookup f es)) (same e.0) ∙ ap (λ (r : Option X). cond (h e.0) (Some e.1) r) (lookup_alike f h same es)

-- equal keys have one slot
pub slot_alike : {K V : Type 0} (cmp : K → K → Ordering) → IsTotalOrder cmp → (es : List (K × Slot V)) (k q : K) → cmp k q ≡ Equal → slot_in cmp es k ≡ slot_in cmp es q
slot_alike {K} {V} cmp o es k q e = ap (λ (r : Option (Slot V)). unwrap_or r blank) (lookup_alike (is_at (cmp k)) (is_at (cmp q)) (λ x. ap is_eq (o.congr k q x e)) es)

set_case : {K X : Type 0} (f : K → Bool) (e : K × X) (es : List (K × X)) (s t : X) (k : K) (put put' : List (K × X)) (r : Ordering) → f k ≡ true → f e.0 ≡ is_eq r → set_value f put t ≡ put' → set_value f (match_ordering r ((k, s) ∷ e ∷ es) ((e.0, s) ∷ es) (e ∷ put)) t ≡ match_ordering r ((k, t) ∷ e ∷ es) ((e.0, t) ∷ es) (e ∷ put')
set_case f e es s t k put put' Less here same rec = ap (λ (b : Bool). cond b ((k, t) ∷ e ∷ es) ((k, s) ∷ set_value f (e ∷ es) t)) here
set_case f e es s t k put put' Equal here same rec = ap (λ (b : Bool). cond b ((e.0, t) ∷ es) ((e.0, s) ∷ set_value f es t)) same
set_case {K} {X} f e es s t k put put' Greater here same rec = ap (λ (b : Bool). cond b ((e.0, t) ∷ put) (e ∷ set_value f put t)) same ∙ ap (λ (xs : List (K × X)). e ∷ xs) rec

-- a value that is put in at k and then set at a key equal to k
insert_set : {K X : Type 0} (cmp : K → K → Ordering) → IsTotalOrder cmp → (es : List (K × X)) (k a : K) (s t : X) → cmp k a ≡ Equal → set_value (is_at (cmp a)) (insert_entry cmp es k s) t ≡ insert_entry cmp es k t
insert_set cmp o [] k a s t e = ap (λ (b : Bool). cond b ((k, t) ∷ []) ((k, s) ∷ [])) (ap is_eq (tied_back o k a e))
insert_set cmp o (x ∷ es) k a s t e =
    set_case (is_at (cmp a)) x es s t k (insert_entry cmp es k s) (insert_entry cmp es k t) (cmp k x.0) (ap is_eq (tied_back o k a e)) (ap is_eq (sym (o.congr k a x.0 e))) (insert_set cmp o es k a s t e)

put_case : {K X : Type 0} (f : K → Bool) (e : K × X) (es : List (K × X)) (k : K) (t : X) (put : List (K × X)) (r : Ordering) → f e.0 ≡ is_eq r → is_some (cond (f e.0) (Some e.1) (lookup f es)) ≡ true → (r ≡ Less → lookup f es ≡ None) → (is_some (lookup f es) ≡ true → set_value f es t ≡ put) → cond (f e.0) ((e.0, t) ∷ es) (e ∷ set_value f es t) ≡ match_ordering r ((k, t) ∷ e ∷ es) ((e.0, t) ∷ es) (e ∷ put)
put_case {K} {X} f e es k t put Less here there none rec =
    let absent : is_some (lookup f es) ≡ true = sym (ap (λ (b : Bool). is_some (cond b (Some e.1) (lookup f es))) here) ∙ there in
    let wrong : false ≡ true = sym (ap (λ (o : Option X). is_some o) (none refl)) ∙ absent in cc
put_case f e es k t put Equal here there none rec = ap (λ (b : Bool). cond b ((e.0, t) ∷ es) (e ∷ set_value f es t)) here
put_case {K} {X} f e es k t put Greater here there none rec =
    ap (λ (b : Bool). cond b ((e.0, t) ∷ es) (e ∷ set_value f es t)) here
    ∙ ap (λ (xs : List (K × X)). e ∷ xs) (rec (sym (ap (λ (b : Bool). is_some (cond b (Some e.1) (lookup f es))) here) ∙ there))

-- a key that is there takes its value in place, as if it were put in
pub set_there : {K X : Type 0} (cmp : K → K → Ordering) → IsTotalOrder cmp → (es : List (K × X)) (k : K) (t : X) → IsStrictlySortedBy cmp (keys_of es) → is_some (lookup (is_at (cmp k)) es) ≡ true → set_value (is_at (cmp k)) es t ≡ insert_entry cmp es k t
set_there cmp o [] k t sorted there = cc
set_there cmp o (e ∷ es) k t sorted there =
    put_case (is_at (cmp k)) e es k t (insert_entry cmp es k t) (cmp k e.0) refl there
    (λ less. lookup-none (is_at (cmp k)) es (none_below_head o k e es sorted less).1)
    (set_there cmp o es k t (sorted_tail cmp e.0 (keys_of es) sorted))

abbrev marked : {K V : Type 0} → List (K × Slot V) → MergeBehavior → Marked K V
marked es d = record { entries = es; default = d }

abbrev slot_of : {V : Type 0} → V → Marks → Slot V
slot_of v m = record { value = Some v; marks = m }

pub filled : {K V : Type 0} (cmp : K → K → Ordering) → IsTotalOrder cmp → (old now new : Marked K V) (k a : K) (s : Slot V) (w : V) → cmp k a ≡ Equal → now.entries ≡ insert_entry cmp old.entries k s → now.default ≡ old.default → marks_at cmp now a ≡ marks_at cmp old a → new ≡ with_value_at cmp now a w → new ≡ map_with cmp old k w
filled {K} {V} cmp o old now new k a s w e put default same last =
    let marks : marks_at cmp now a ≡ marks_at cmp old k = same ∙ ap (λ (x : Slot V). x.marks) (sym (slot_alike cmp o old.entries k a e)) in
    last ∙ (ap (λ (m : Marks). marked (set_value (is_at (cmp a)) now.entries (slot_of w m)) now.default) marks
    ∙ (ap (λ (es : List (K × Slot V)). marked (set_value (is_at (cmp a)) es (slot_of w (marks_at cmp old k))) now.default) put
    ∙ (ap (λ (es : List (K × Slot V)). marked es now.default) (insert_set cmp o old.entries k a s (slot_of w (marks_at cmp old k)) e)
    ∙ ap (λ (d : MergeBehavior). marked (insert_entry cmp old.entries k (slot_of w (marks_at cmp old k))) d) default)))

pub found_value : {V : Type 0} (b : Bool) (x v : V) (o p : Option V) → Some x ≡ o → o ≡ cond b (Some v) p → b ≡ true → x ≡ v
found_value true x v o p e f t = cc
found_value false x v o p e f t = cc
