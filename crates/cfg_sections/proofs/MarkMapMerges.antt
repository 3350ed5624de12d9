-- One key more of a merge.
use Rattle.std.proofs.Common.{◌≡◌, Bool, true, false, cond, ◌||◌, Option, Some, None, is_some, IsSome, unwrap_or, List, [], ◌∷◌, ap, refl, sym, ◌∙◌, subst}
use Rattle.std.specs.declared.cmp.Ordering.{Ordering}
use Rattle.std.specs.declared.cmp.Ordering.TheVariants.{Less, Equal, Greater}
use Rattle.std.specs.Cmp.{IsTotalOrder}
use Rattle.std.specs.Ordering.{is_eq}
use Rattle.std.specs.Option.{option_or}
use Rattle.std.specs.Map.{lookup}
use Rattle.std.specs.BTreeMap.{BTreeMap, ContainsKey, get, is_at}
use Rattle.std.specs.List.{list_any}
use Rattle.std.proofs.lemmas.Cmp.{tied_back}
use Rattle.cfg_sections.specs.declared.markmap.Slot.{Slot}
use Rattle.cfg_sections.specs.declared.markmap.Marks.{Marks}
use Rattle.cfg_sections.specs.declared.markmap.MergeBehavior.{MergeBehavior}
use Rattle.cfg_sections.specs.MarkMaps.{blank, slot_in, unmarked}
use Rattle.cfg_sections.specs.Merges.{joined_marks, merged_slot, merged_value}

tied : (o : Ordering) → is_eq o ≡ true → o ≡ Equal
tied Less e = cc
tied Equal e = refl
tied Greater e = cc

lookup_alike : {K X : Type 0} (f h : K → Bool) → ((x : K) → f x ≡ h x) → (es : List (K × X)) → lookup f es ≡ lookup h es
lookup_alike f h same [] = refl
lookup_alike {K} {X} f h same (e ∷ es) =
    ap (λ (b : Bool). cond b (Some e.1) (lookup f es)) (same e.0) ∙ ap (λ (r : Option X). cond (h e.0) (Some e.1) r) (lookup_alike f h same es)

-- equal keys have one value
pub get_alike : {K X : Type 0} (cmp : K → K → Ordering) → IsTotalOrder cmp → (m : BTreeMap K X) (k q : K) → is_at (cmp k) q ≡ true → get cmp m k ≡ get cmp m q
get_alike cmp o m k q e = lookup_alike (is_at (cmp k)) (is_at (cmp q)) (λ x. ap is_eq (o.congr k q x (tied (cmp k q) e))) m.entries

pub merged_value-none : {V : Type 0} (b : MergeBehavior) (v : Option V) → merged_value b v None ≡ v
merged_value-none b None = refl
merged_value-none b (Some v) = refl

or_false : (b : Bool) → (b || false) ≡ b
or_false true = refl
or_false false = refl

or_none : {X : Type 0} (o : Option X) → option_or o None ≡ o
or_none None = refl
or_none (Some x) = refl

pub joined_marks-unmarked : (m : Marks) → joined_marks m unmarked ≡ m
joined_marks-unmarked m =
    ap (λ (a : Bool). marks a (m.required || false) (option_or m.behavior None)) (or_false m.used)
    ∙ (ap (λ (a : Bool). marks m.used a (option_or m.behavior None)) (or_false m.required) ∙ ap (λ (o : Option MergeBehavior). marks m.used m.required o) (or_none m.behavior))
  where
    marks : Bool → Bool → Option MergeBehavior → Marks
    marks a b o = record { used = a; required = b; behavior = o }

abbrev slot_of : {V : Type 0} → Option V → Marks → Slot V
slot_of v m = record { value = v; marks = m }

slot_parts : {V : Type 0} (v w : Option V) (m n : Marks) → v ≡ w → m ≡ n → slot_of v m ≡ slot_of w n
slot_parts v w m n e f = ap (λ x. slot_of x m) e ∙ ap (λ x. slot_of w x) f

pub merged_slot-blank : {V : Type 0} (d : MergeBehavior) (s : Slot V) → merged_slot d s blank ≡ s
merged_slot-blank d s = slot_parts (merged_value (unwrap_or s.marks.behavior d) s.value None) s.value (joined_marks s.marks unmarked) s.marks (merged_value-none (unwrap_or s.marks.behavior d) s.value) (joined_marks-unmarked s.marks)

-- the pair of what is merged and what is still to come, at q, after the entry of k came in
pub came_in : {X Y : Type 0} (b : Bool) (join : X → Y → X) (none : Y) (now_old now_new joined total : X) (get_old get_new v : Y) → ((x : X) → join x none ≡ x) → get_new ≡ cond b none get_old → now_new ≡ cond b joined now_old → (b ≡ true → joined ≡ join now_old get_old) → join now_old get_old ≡ total → join now_new get_new ≡ total
came_in {X} {Y} true join none now_old now_new joined total get_old get_new v unit pop take here inv =
    ap (λ (x : X). join x get_new) take ∙ (ap (λ (y : Y). join joined y) pop ∙ (unit joined ∙ (here refl ∙ inv)))
came_in {X} {Y} false join none now_old now_new joined total get_old get_new v unit pop take here inv =
    ap (λ (x : X). join x get_new) take ∙ (ap (λ (y : Y). join now_old y) pop ∙ inv)

-- what is taken out is no more there
pub unwrapped : {X : Type 0} (b : Bool) (d : X) (o p : Option X) → o ≡ cond b None p → unwrap_or o d ≡ cond b d (unwrap_or p d)
unwrapped true d o p e = ap (λ r. unwrap_or r d) e
unwrapped false d o p e = ap (λ r. unwrap_or r d) e

pub was_there : {X : Type 0} (b : Bool) (o p : Option X) → o ≡ cond b None p → IsSome o → IsSome p
was_there {X} true o p e h = let n = subst (λ (r : Option X). IsSome r) e h in cc
was_there {X} false o p e h = subst (λ (r : Option X). IsSome r) e h

pub stays_there : {X : Type 0} (b : Bool) (o p : Option X) (x : X) → o ≡ cond b (Some x) p → IsSome p → IsSome o
stays_there {X} true o p x e h = subst (λ (r : Option X). IsSome r) (sym e) refl
stays_there {X} false o p x e h = subst (λ (r : Option X). IsSome r) (sym e) h

-- room for one key more
pub record Room {K X W : Type 0} (cmp : K → K → Ordering) (d : X) (first now : BTreeMap K X) (wanted : BTreeMap K W) (left : List K) : Type 0 where
  pub same : (q : K) → unwrap_or (get cmp now q) d ≡ unwrap_or (get cmp first q) d
  pub room : (q : K) → list_any (λ k. is_at (cmp q) k) left ≡ false → ContainsKey cmp wanted q → ContainsKey cmp now q

not_there : {X : Type 0} (d : X) (o : Option X) → is_some o ≡ false → unwrap_or o d ≡ d
not_there d None e = refl
not_there d (Some x) e = cc

added : {X : Type 0} (d : X) (b : Bool) (o p : Option X) → o ≡ cond b (Some d) p → (b ≡ true → is_some p ≡ false) → unwrap_or o d ≡ unwrap_or p d
added {X} d true o p e absent = ap (λ (r : Option X). unwrap_or r d) e ∙ sym (not_there d p (absent refl))
added {X} d false o p e absent = ap (λ (r : Option X). unwrap_or r d) e

equal_back : {K : Type 0} (cmp : K → K → Ordering) → IsTotalOrder cmp → (k q : K) → is_at (cmp q) k ≡ true → is_at (cmp k) q ≡ true
equal_back cmp o k q e = ap is_eq (tied_back o q k (tied (cmp q k) e))

pub room_added : {K X W : Type 0} (cmp : K → K → Ordering) → IsTotalOrder cmp → (d : X) (first old new : BTreeMap K X) (wanted : BTreeMap K W) (k l : K) (left rest : List K) → cmp k l ≡ Equal → is_some (get cmp old k) ≡ false → ((q : K) → get cmp new q ≡ cond (is_at (cmp l) q) (Some d) (get cmp old q)) → left ≡ k ∷ rest → Room cmp d first old wanted left → Room cmp d first new wanted rest
room_added {K} {X} {W} cmp o d first old new wanted k l left rest same_key absent put step before = record {
  same = λ q. added d (is_at (cmp l) q) (get cmp new q) (get cmp old q) (put q) (λ e. ap is_some (sym (get_alike cmp o old k q (ap is_eq (o.congr k l q same_key) ∙ e))) ∙ absent) ∙ before.same q;
  room = λ q none has. go q none has (is_at (cmp q) k) refl;
}
  where
    here : (q : K) → is_at (cmp q) k ≡ true → is_at (cmp l) q ≡ true
    here q e = sym (ap is_eq (o.congr k l q same_key)) ∙ equal_back cmp o k q e

    go : (q : K) → list_any (λ x. is_at (cmp q) x) rest ≡ false → ContainsKey cmp wanted q → (b : Bool) → is_at (cmp q) k ≡ b → ContainsKey cmp new q
    go q none has true e = subst (λ (r : Option X). IsSome r) (sym (put q ∙ ap (λ (b : Bool). cond b (Some d) (get cmp old q)) (here q e))) refl
    go q none has false e = stays_there (is_at (cmp l) q) (get cmp new q) (get cmp old q) d (put q) (before.room q (ap (λ (xs : List K). list_any (λ x. is_at (cmp q) x) xs) step ∙ (ap (λ (b : Bool). b || list_any (λ x. is_at (cmp q) x) rest) e ∙ none)) has)

pub room_there : {K X W : Type 0} (cmp : K → K → Ordering) → IsTotalOrder cmp → (d : X) (first old : BTreeMap K X) (wanted : BTreeMap K W) (k : K) (left rest : List K) → IsSome (get cmp old k) → left ≡ k ∷ rest → Room cmp d first old wanted left → Room cmp d first old wanted rest
room_there {K} {X} {W} cmp o d first old wanted k left rest there step before = record {
  same = before.same;
  room = λ q none has. go q none has (is_at (cmp q) k) refl;
}
  where
    go : (q : K) → list_any (λ x. is_at (cmp q) x) rest ≡ false → ContainsKey cmp wanted q → (b : Bool) → is_at (cmp q) k ≡ b → ContainsKey cmp old q
    go q none has true e = subst (λ (r : Option X). IsSome r) (get_alike cmp o old k q (equal_back cmp o k q e)) there
    go q none has false e = before.room q (ap (λ (xs : List K). list_any (λ x. is_at (cmp q) x) xs) step ∙ (ap (λ (b : Bool). b || list_any (λ x. is_at (cmp q) x) rest) e ∙ none)) has

-- at a key equal to k, what k has is what comes in
pub merged_here : {K V : Type 0} (cmp : K → K → Ordering) → IsTotalOrder cmp → (d : MergeBehavior) (ours theirs : BTreeMap K (Slot V)) (k q : K) (s : Slot V) → is_at (cmp k) q ≡ true → get cmp theirs k ≡ Some s → merged_slot d (slot_in cmp ours.entries k) s ≡ merged_slot d (slot_in cmp ours.entries q) (slot_in cmp theirs.entries q)
merged_here {K} {V} cmp o d ours theirs k q s e got =
    ap (λ (r : Option (Slot V)). merged_slot d (unwrap_or r blank) s) (get_alike cmp o ours k q e)
    ∙ ap (λ (r : Option (Slot V)). merged_slot d (slot_in cmp ours.entries q) (unwrap_or r blank)) (sym got ∙ get_alike cmp o theirs k q e)

pub put_unwrapped : {X : Type 0} (b : Bool) (d x : X) (o p : Option X) → o ≡ cond b (Some x) p → unwrap_or o d ≡ cond b x (unwrap_or p d)
put_unwrapped true d x o p e = ap (λ r. unwrap_or r d) e
put_unwrapped false d x o p e = ap (λ r. unwrap_or r d) e
