-- Keys that were added are taken out again.
use Rattle.std.proofs.Common.{◌≡◌, Bool, true, false, cond, Some, is_some, List, [], ◌∷◌, ◌++◌, map, ap, refl, sym, ◌∙◌}
use Rattle.std.specs.declared.cmp.Ordering.{Ordering}
use Rattle.std.specs.declared.cmp.Ordering.TheVariants.{Less, Equal, Greater}
use Rattle.std.specs.Borrow.{Bor}
use Rattle.std.specs.Cmp.{IsTotalOrder}
use Rattle.std.specs.Ordering.{is_eq, match_ordering}
use Rattle.std.specs.Map.{lookup, remove_entry}
use Rattle.std.specs.BTreeMap.{insert_entry, is_at}
use Rattle.cfg_sections.specs.declared.markmap.Slot.{Slot}
use Rattle.cfg_sections.specs.Merges.{without}

remove_case : {K X : Type 0} (f : K → Bool) (e : K × X) (es : List (K × X)) (s : X) (l : K) (put : List (K × X)) (r : Ordering) → f l ≡ true → f e.0 ≡ is_eq r → is_some (cond (f e.0) (Some e.1) (lookup f es)) ≡ false → (is_some (lookup f es) ≡ false → remove_entry f put ≡ es) → remove_entry f (match_ordering r ((l, s) ∷ e ∷ es) ((e.0, s) ∷ es) (e ∷ put)) ≡ e ∷ es
remove_case {K} {X} f e es s l put Less here same absent rec = ap (λ (b : Bool). cond b (e ∷ es) ((l, s) ∷ remove_entry f (e ∷ es))) here
remove_case {K} {X} f e es s l put Equal here same absent rec = let there : true ≡ false = sym (ap (λ (b : Bool). is_some (cond b (Some e.1) (lookup f es))) same) ∙ absent in cc
remove_case {K} {X} f e es s l put Greater here same absent rec =
    ap (λ (b : Bool). cond b put (e ∷ remove_entry f put)) same
    ∙ ap (λ (xs : List (K × X)). e ∷ xs) (rec (sym (ap (λ (b : Bool). is_some (cond b (Some e.1) (lookup f es))) same) ∙ absent))

-- an absent key that is put in and taken out
remove_insert : {K X : Type 0} (cmp : K → K → Ordering) → IsTotalOrder cmp → (es : List (K × X)) (k l : K) (s : X) → cmp k l ≡ Equal → is_some (lookup (is_at (cmp k)) es) ≡ false → remove_entry (is_at (cmp k)) (insert_entry cmp es l s) ≡ es
remove_insert {K} {X} cmp o [] k l s e absent = ap (λ (b : Bool). cond b [] ((l, s) ∷ [])) (ap is_eq e)
remove_insert cmp o (x ∷ es) k l s e absent =
    remove_case (is_at (cmp k)) x es s l (insert_entry cmp es l s) (cmp l x.0) (ap is_eq e) (ap is_eq (o.congr k l x.0 e)) absent (remove_insert cmp o es k l s e)

absent_case : {K X : Type 0} (f : K → Bool) (e : K × X) (es : List (K × X)) (b : Bool) → is_some (cond b (Some e.1) (lookup f es)) ≡ false → (is_some (lookup f es) ≡ false → remove_entry f es ≡ es) → cond b es (e ∷ remove_entry f es) ≡ e ∷ es
absent_case f e es true absent rec = cc
absent_case {K} {X} f e es false absent rec = ap (λ (xs : List (K × X)). e ∷ xs) (rec absent)

remove_absent : {K X : Type 0} (f : K → Bool) (es : List (K × X)) → is_some (lookup f es) ≡ false → remove_entry f es ≡ es
remove_absent f [] absent = refl
remove_absent f (e ∷ es) absent = absent_case f e es (f e.0) absent (remove_absent f es)

without-push : {K V : Type 0} (cmp : K → K → Ordering) (es : List (K × Slot V)) (ks : List K) (k : K) → without cmp es (ks ++ k ∷ []) ≡ without cmp (remove_entry (is_at (cmp k)) es) ks
without-push cmp es [] k = refl
without-push {K} {V} cmp es (x ∷ ks) k = ap (λ (xs : List (K × Slot V)). remove_entry (is_at (cmp x)) xs) (without-push cmp es ks k)

now-push : {K : Type 0} (ks : List (Bor K)) (k : Bor K) → map (λ x. x.now) (ks ++ k ∷ []) ≡ map (λ x. x.now) ks ++ k.now ∷ []
now-push [] k = refl
now-push {K} (x ∷ ks) k = ap (λ (xs : List K). x.now ∷ xs) (now-push ks k)

pub pushed : {K V : Type 0} (cmp : K → K → Ordering) (es : List (K × Slot V)) (ks more : List (Bor K)) (k : Bor K) → more ≡ ks ++ k ∷ [] → without cmp es (map (λ x. x.now) more) ≡ without cmp (remove_entry (is_at (cmp k.now)) es) (map (λ x. x.now) ks)
pushed {K} {V} cmp es ks more k e =
    ap (λ (xs : List (Bor K)). without cmp es (map (λ x. x.now) xs)) e
    ∙ (ap (λ (xs : List K). without cmp es xs) (now-push ks k) ∙ without-push cmp es (map (λ x. x.now) ks) k.now)

-- one key more is put in and listed
pub put_in : {K V : Type 0} (cmp : K → K → Ordering) → IsTotalOrder cmp → (start old new : List (K × Slot V)) (ks more : List (Bor K)) (k : Bor K) (l : K) (s : Slot V) → cmp k.now l ≡ Equal → is_some (lookup (is_at (cmp k.now)) old) ≡ false → more ≡ ks ++ k ∷ [] → new ≡ insert_entry cmp old l s → without cmp old (map (λ x. x.now) ks) ≡ start → without cmp new (map (λ x. x.now) more) ≡ start
put_in {K} {V} cmp o start old new ks more k l s same absent e put so_far =
    pushed cmp new ks more k e
    ∙ (ap (λ (es : List (K × Slot V)). without cmp es (map (λ x. x.now) ks)) (ap (λ (es : List (K × Slot V)). remove_entry (is_at (cmp k.now)) es) put ∙ remove_insert cmp o old k.now l s same absent) ∙ so_far)

-- one key more is listed and not put in
pub left_out : {K V : Type 0} (cmp : K → K → Ordering) (start old new : List (K × Slot V)) (ks more : List (Bor K)) (k : Bor K) → is_some (lookup (is_at (cmp k.now)) old) ≡ false → more ≡ ks ++ k ∷ [] → new ≡ old → without cmp old (map (λ x. x.now) ks) ≡ start → without cmp new (map (λ x. x.now) more) ≡ start
left_out {K} {V} cmp start old new ks more k absent e put so_far =
    pushed cmp new ks more k e
    ∙ (ap (λ (es : List (K × Slot V)). without cmp es (map (λ x. x.now) ks)) (ap (λ (es : List (K × Slot V)). remove_entry (is_at (cmp k.now)) es) put ∙ remove_absent (is_at (cmp k.now)) old absent) ∙ so_far)
