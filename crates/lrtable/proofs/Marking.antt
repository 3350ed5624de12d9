-- Marking the states that edges lead to: what one mark does, what the marks of several targets do, and the end.
use Rattle.std.proofs.Common.{◌≡◌, ℕ, ◌+◌, ◌<◌, ◌⊎◌, inl, inr, ◌↔◌, Bool, true, false, List, [], ◌∷◌, ◌++◌, length, get_or, set, map, take, replicate, Some, refl, sym, ap, ◌∙◌, subst, arith, length-set, length-append}
use Rattle.std.specs.Prelude.{IsTrue}
use Rattle.std.specs.List.{Contains}
use Rattle.std.proofs.lemmas.Bool.{cases_lt}
use Rattle.std.proofs.lemmas.List.{get_or_past, length-replicate}
use Rattle.std.proofs.lemmas.List.Elements.{Contains-append_left, Contains-push, Contains-push_cases}
use Rattle.cfg_theory.specs.Grammar.{Sym}
use Rattle.vob.specs.Sets.{is_set, missing}
use Rattle.vob.proofs.Bits.{none_set, put_in, put_fills}
use Rattle.lr_theory.specs.Graph.{Leads}
use Rattle.lrtable.specs.States.{Edge, StateValue, state_at}
use Rattle.lrtable.specs.Pruning.{graph_of_states, IsLed, AreLinked, IsTargetOf, Marks, AreMarking}
use Rattle.lrtable.proofs.EdgeOrder.{edge_found, edge_here}
use Rattle.lrtable.proofs.OpenLaws.{map_next}

never : false ≡ true → ⊥
never e = cc

-- a flag that is set stands in the list
pub flag_within : (flags : List Bool) (s : ℕ) → IsTrue (is_set flags s) → s < length flags
flag_within flags s h = elim (cases_lt s (length flags)) [ inl lt ↦ lt | inr ge ↦ absurd (never (sym (get_or_past flags s false ge) ∙ h)) ]

-- ---- one mark

module _ (old new : List Bool) (n : ℕ) (waiting : List ℕ) (lt : n < length old) (put : new ≡ set old n true) where
  flags_are : (s : ℕ) → IsTrue (is_set new s) ↔ (IsTrue (is_set old s) ⊎ (n ≡ s))
  flags_are s = subst (λ (l : List Bool). IsTrue (is_set l s) ↔ (IsTrue (is_set old s) ⊎ (n ≡ s))) (sym put) (put_in old n s lt)

  same_size : length new ≡ length old
  same_size = ap length put ∙ length-set old n true

  -- it wasn't there, and the state waits
  pub marks_new : is_set old n ≡ false → Marks (λ s. n ≡ s) old new waiting (waiting ++ n ∷ [])
  marks_new free = record {
    size = same_size;
    flags = flags_are;
    told = λ s h. elim ((flags_are s).0 h) [ inl x ↦ inl x | inr e ↦ inr (subst (λ k. Contains (waiting ++ n ∷ []) k) e (Contains-push waiting n)) ];
    still = λ s h. Contains-append_left waiting (n ∷ []) s h;
    only = λ s h. elim (Contains-push_cases waiting n s h) [ inl x ↦ inl x | inr e ↦ inr ((flags_are s).1 (inr e)) ];
    fewer = let f = put_fills old n lt free in let q = ap missing put in let m = length-append waiting (n ∷ []) in omega (arith, f, q, m);
  }

-- ---- marks after marks

pub marks_none : (N : ℕ → Type 0) (flags : List Bool) (waiting : List ℕ) → ((s : ℕ) → N s → ⊥) → Marks N flags flags waiting waiting
marks_none N flags waiting none = record {
  size = refl;
  flags = λ s. (λ h. inl h, λ h. elim h [ inl x ↦ x | inr y ↦ absurd (none s y) ]);
  told = λ s h. inl h;
  still = λ s h. h;
  only = λ s h. inl h;
  fewer = omega arith;
}

pub marks_on : (N M K : ℕ → Type 0) (a b c : List Bool) (u v w : List ℕ) → ((s : ℕ) → (N s ⊎ M s) ↔ K s) → Marks N a b u v → Marks M b c v w → Marks K a c u w
marks_on N M K a b c u v w same h k = record {
  size = k.size ∙ h.size;
  flags = λ s. (
    λ x. elim ((k.flags s).0 x) [ inl y ↦ elim ((h.flags s).0 y) [ inl z ↦ inl z | inr z ↦ inr ((same s).0 (inl z)) ] | inr y ↦ inr ((same s).0 (inr y)) ],
    λ x. elim x [ inl y ↦ (k.flags s).1 (inl ((h.flags s).1 (inl y))) | inr y ↦ elim ((same s).1 y) [ inl z ↦ (k.flags s).1 (inl ((h.flags s).1 (inr z))) | inr z ↦ (k.flags s).1 (inr z) ] ],
  );
  told = λ s x. elim (k.told s x) [ inl y ↦ elim (h.told s y) [ inl z ↦ inl z | inr z ↦ inr (k.still s z) ] | inr y ↦ inr y ];
  still = λ s x. k.still s (h.still s x);
  only = λ s x. elim (k.only s x) [ inl y ↦ elim (h.only s y) [ inl z ↦ inl z | inr z ↦ inr ((k.flags s).1 (inl z)) ] | inr y ↦ inr y ];
  fewer = let p = h.fewer in let q = k.fewer in omega (arith, p, q);
}

-- the targets of one edge more
pub targets_more : {X : Type 0} (f : X → Edge) (xs : List X) (i : ℕ) (x : X) (a b c : List Bool) (u v w : List ℕ) → i < length xs → x ≡ get_or xs i x → Marks (IsTargetOf (map f (take i xs))) a b u v → Marks (λ s. (f x).target ≡ s) b c v w →
    Marks (IsTargetOf (map f (take (i + 1) xs))) a c u w
targets_more f xs i x a b c u v w lt is h k = subst (λ (l : List Edge). Marks (IsTargetOf l) a c u w) (sym (map_next f xs i x lt is)) (marks_on (IsTargetOf es) (λ s. (f x).target ≡ s) (IsTargetOf (es ++ f x ∷ [])) a b c u v w same h k)
  where
    es : List Edge
    es = map f (take i xs)

    same : (s : ℕ) → (IsTargetOf es s ⊎ ((f x).target ≡ s)) ↔ IsTargetOf (es ++ f x ∷ []) s
    same s = (
      λ y. elim y [ inl t ↦ (t.0, Contains-append_left es (f x ∷ []) t.0 t.1, t.2) | inr q ↦ (f x, Contains-push es (f x), q) ],
      λ t. elim (Contains-push_cases es (f x) t.0 t.1) [ inl m ↦ inl (t.0, m, t.2) | inr q ↦ inr (ap (λ (e : Edge). e.target) q ∙ t.2) ],
    )

-- ---- the work list

-- at first the first state is marked and waits
pub marking_begins : (states : List StateValue) (none flags : List Bool) (n : ℕ) (waiting now : List ℕ) → n ≡ length states → none ≡ replicate n false → waiting ≡ [] → Marks (λ s. 0 ≡ s) none flags waiting now → AreMarking states flags now
marking_begins states none flags n waiting now count empty no_one h = record {
  size = h.size ∙ ap length empty ∙ length-replicate n false ∙ count;
  start = (h.flags 0).1 (inr refl);
  led = λ s x. elim ((h.flags s).0 x) [ inl y ↦ absurd (unset s y) | inr e ↦ ([], Leads.none (sym e)) ];
  waits = λ s x. elim (h.only s x) [ inl y ↦ absurd (idle s y) | inr y ↦ y ];
  closed = λ s x. elim (h.told s x) [ inl y ↦ absurd (unset s y) | inr y ↦ inl y ];
}
  where
    unset : (s : ℕ) → IsTrue (is_set none s) → ⊥
    unset s x = none_set n s (subst (λ (l : List Bool). IsTrue (is_set l s)) empty x)

    nothing : (s : ℕ) (l : List ℕ) → l ≡ [] → Contains l s → ⊥
    nothing s l e (i, lt, at) = let m = ap length e in omega (arith, lt, m)

    idle : (s : ℕ) → Contains waiting s → ⊥
    idle s x = nothing s waiting no_one x

-- an edge of a state leads on
pub edge_leads : (states : List StateValue) (s k : ℕ) → AreLinked states → s < length states → IsLed states s → IsTargetOf (state_at states s).edges k → IsLed states k
edge_leads states s k linked lt (w, l) (e, at, q) = (e.symbol ∷ w, Leads.on l (edge_here (state_at states s).edges e (linked.ascend s lt) at ∙ ap Some q))

-- the targets of an edge are states
pub target_within : (states : List StateValue) (s : ℕ) (e : Edge) → AreLinked states → s < length states → Contains (state_at states s).edges e → e.target < length states
target_within states s e linked lt at = linked.targets s e.target e.symbol (edge_here (state_at states s).edges e (linked.ascend s lt) at)

-- one that waits was taken, and its targets were marked
pub marking_goes_on : (states : List StateValue) (old new : List Bool) (n : ℕ) (waiting now : List ℕ) → AreLinked states → AreMarking states old (waiting ++ n ∷ []) → Marks (IsTargetOf (state_at states n).edges) old new waiting now → AreMarking states new now
marking_goes_on states old new n waiting now linked h m = record {
  size = m.size ∙ h.size;
  start = (m.flags 0).1 (inl h.start);
  led = λ s x. elim ((m.flags s).0 x) [ inl y ↦ h.led s y | inr y ↦ edge_leads states n s linked within (h.led n marked) y ];
  waits = λ s x. elim (m.only s x) [ inl y ↦ (m.flags s).1 (inl (h.waits s (Contains-append_left waiting (n ∷ []) s y))) | inr y ↦ y ];
  closed = λ s x. elim (m.told s x) [ inl y ↦ before s (h.closed s y) | inr y ↦ inl y ];
}
  where
    marked : IsTrue (is_set old n)
    marked = h.waits n (Contains-push waiting n)

    within : n < length states
    within = let lt = flag_within old n marked in let z = h.size in omega (arith, lt, z)

    before : (s : ℕ) → Contains (waiting ++ n ∷ []) s ⊎ ((k : ℕ) → IsTargetOf (state_at states s).edges k → IsTrue (is_set old k)) → Contains now s ⊎ ((k : ℕ) → IsTargetOf (state_at states s).edges k → IsTrue (is_set new k))
    before s (inl c) = elim (Contains-push_cases waiting n s c) [
      | inl y ↦ inl (m.still s y)
      | inr e ↦ inr (subst (λ r. (k : ℕ) → IsTargetOf (state_at states r).edges k → IsTrue (is_set new k)) e (λ k t. (m.flags k).1 (inr t)))
    ]
    before s (inr all) = inr (λ k t. (m.flags k).1 (inl (all k t)))

-- none waits: the marked states are those that edges lead to
pub marking_ends : (states : List StateValue) (flags : List Bool) → AreMarking states flags [] → (s : ℕ) → IsTrue (is_set flags s) ↔ IsLed states s
marking_ends states flags h s = (h.led s, λ l. all l.1)
  where
    nothing : (s : ℕ) → Contains [] s → ⊥
    nothing s (i, lt, at) = omega (arith, lt)

    all : {w : List Sym} {s : ℕ} → Leads (graph_of_states states) w s → IsTrue (is_set flags s)
    all (Leads.none e) = subst (λ k. IsTrue (is_set flags k)) (sym e) h.start
    all (Leads.on {X = X} {s = r} {target = k} l e) = elim (h.closed r (all l)) [ inl c ↦ absurd (nothing r c) | inr each ↦ each k (edge_found (state_at states r).edges X k e) ]
