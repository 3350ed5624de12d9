-- The rule of each production, noted rule by rule.
use Rattle.std.proofs.Common.{◌≡◌, ℕ, suc, ◌+◌, ◌<◌, ◌||◌, ◌==◌, inl, inr, Bool, true, false, true≢false, List, [], ◌∷◌, length, map, get_or, set, All, Option, Some, None, option_map, Contains, slice_get, if◌then◌else◌, refl, sym, ap, ◌∙◌, subst, arith}
use Rattle.std.specs.List.{fold, list_any, position_or_len}
use Rattle.std.proofs.lemmas.List.{length-set, get_or-set_same, get_or-set_other}
use Rattle.std.proofs.lemmas.List.Folds.{list_any_at}
use Rattle.std.proofs.lemmas.List.Sums.{position_or_len_is}
use Rattle.std.proofs.lemmas.Option.{slice_get-get_or, slice_get-map, slice_get_within, get_or_from_slice_get}
use Rattle.std.proofs.lemmas.Bool.{cases_lt, eqb-true, eqb-false, eq-eqb}
use Rattle.std.proofs.lemmas.List.Elements.{Contains-get_or}
use Rattle.std.specs.declared.alloc.Global.{Global}
use Rattle.std.specs.declared.string.String.{String}
use Rattle.cfg_read.specs.declared.yacc.ast.Rule.{Rule as RuleEntry}
use Rattle.cfg_read.specs.AstModels.{named_rule}
use Rattle.cfg_read.specs.Asts.{Ast, RuleAst}
use Rattle.cfg_read.specs.WellFormedAst.{ListsProduction, IsWellFormedAst}
use Rattle.cfgrammar.specs.FromAst.{file_head}
use Rattle.cfgrammar.proofs.FromAstNames.{same_some}

abbrev pub notes : ℕ → List ℕ → List ℕ → List ℕ
notes v hs ps = fold (λ hs p. set hs p v) hs ps

pub length_notes : (v : ℕ) (hs ps : List ℕ) → length (notes v hs ps) ≡ length hs
length_notes v hs [] = refl
length_notes v hs (p ∷ ps) = length_notes v (set hs p v) ps ∙ length-set hs p v

abbrev pub lists : List ℕ → ℕ → Bool
lists ps n = list_any (λ k. k == n) ps

-- what stands at an index afterwards
pub noted : (v : ℕ) (hs ps : List ℕ) (n : ℕ) → n < length hs → get_or (notes v hs ps) n 0 ≡ (if lists ps n then v else get_or hs n 0)
noted v hs [] n lt = refl
noted v hs (p ∷ ps) n lt =
    noted v (set hs p v) ps n (let l = length-set hs p v in omega (arith, l, lt))
    ∙ by (p == n) (lists ps n) refl
  where
    by : (a b : Bool) → (p == n) ≡ a → (if b then v else get_or (set hs p v) n 0) ≡ (if a || b then v else get_or hs n 0)
    by true true e = refl
    by false true e = refl
    by true false e = let at = eqb-true p n e in ap (λ k. get_or (set hs p v) k 0) (sym at) ∙ get_or-set_same hs p v 0 (omega (arith, lt, at))
    by false false e = get_or-set_other hs p n v 0 (λ at. eqb-false p n e (sym at))

-- each production that is listed by one of the first k rules has this rule's index
pub record Noted (ast : Ast) (k : ℕ) (hs : List ℕ) : Type 0 where
  pub count : length hs ≡ length ast.productions
  pub each : (A p : ℕ) → A < k → ListsProduction ast A p → get_or hs p 0 ≡ A

listed : (ps : List ℕ) (p : ℕ) → Contains ps p → lists ps p ≡ true
listed ps p h = list_any_at (λ k. k == p) ps h.0 p h.1 (eq-eqb (get_or ps h.0 p) p h.2)

-- a test that finds a number
held : (ps : List ℕ) (p : ℕ) → lists ps p ≡ true → Contains ps p
held [] p h = absurd (true≢false (sym h))
held (q ∷ ps) p h = by (q == p) refl h (held ps p)
  where
    by : (b : Bool) → (q == p) ≡ b → (b || lists ps p) ≡ true → (lists ps p ≡ true → Contains ps p) → Contains (q ∷ ps) p
    by true e t more = (0, omega arith, eqb-true q p e)
    by false e t more = let h = more t in let lt = h.1 in (suc h.0, omega (arith, lt), h.2)

both : {b : Bool} → b ≡ true → b ≡ false → ⊥
both s t = cc

module _ (ast : Ast) (sound : IsWellFormedAst ast) where
  pub noted_none : (hs : List ℕ) → length hs ≡ length ast.productions → Noted ast 0 hs
  noted_none hs e = record { count = e; each = λ A p lt l. absurd (omega (arith, lt)) }

  pub noted_more : (k : ℕ) (hs : List ℕ) (r : RuleAst) → Noted ast k hs → slice_get ast.rules k ≡ Some r → Noted ast (k + 1) (notes k hs r.productions)
  noted_more k hs r h at = record { count = length_notes k hs r.productions ∙ h.count; each = go }
    where
      go : (A p : ℕ) → A < k + 1 → ListsProduction ast A p → get_or (notes k hs r.productions) p 0 ≡ A
      go A p lt l =
          let c = h.count in
          let within = sound.in_range A p l in
          noted k hs r.productions p (omega (arith, c, within)) ∙ by (lists r.productions p) refl
        where
          mine : lists r.productions p ≡ true → k ≡ A
          mine e = sound.one_rule k A p (record { rule = r; at = at; listed = held r.productions p e }) l

          same : A ≡ k → lists r.productions p ≡ true
          same e =
              let is : l.rule ≡ r = same_some l.rule r (sym l.at ∙ ap (slice_get ast.rules) e ∙ at) in
              subst (λ (x : RuleAst). lists x.productions p ≡ true) is (listed l.rule.productions p l.listed)

          by : (b : Bool) → lists r.productions p ≡ b → (if b then k else get_or hs p 0) ≡ A
          by true e = mine e
          by false e = elim (cases_lt A k) [ inl low ↦ h.each A p low l | inr high ↦ absurd (both (same (omega (arith, lt, high))) e) ]

  here : {p : ℕ} (A : ℕ) (l : ListsProduction ast A p) → lists (get_or ast.rules A l.rule).productions p ≡ true
  here {p} A l = subst (λ (r : RuleAst). lists r.productions p ≡ true) (sym (get_or_from_slice_get ast.rules A l.rule l.rule l.at)) (listed l.rule.productions p l.listed)

  before : {p : ℕ} (A : ℕ) (l : ListsProduction ast A p) (k : ℕ) → k < length ast.rules → k < A → lists (get_or ast.rules k l.rule).productions p ≡ false
  before {p} A l k lt low = by (lists (get_or ast.rules k l.rule).productions p) refl
    where
      by : (b : Bool) → lists (get_or ast.rules k l.rule).productions p ≡ b → b ≡ false
      by true e = let same = sound.one_rule k A p (record { rule = get_or ast.rules k l.rule; at = slice_get-get_or ast.rules k l.rule lt; listed = held (get_or ast.rules k l.rule).productions p e }) l in absurd (omega (arith, same, low))
      by false e = refl

  place_is : (p : ℕ) (lt : p < length ast.productions) → position_or_len (λ (r : RuleAst). lists r.productions p) ast.rules ≡ (sound.has_rule p lt).0
  place_is p lt =
      let has = sound.has_rule p lt in
      let l = has.1 in
      let A = has.0 in
      let within = slice_get_within ast.rules A l.rule l.at in
      position_or_len_is (λ (r : RuleAst). lists r.productions p) ast.rules A l.rule (omega (arith, within)) (λ k low. before A l k (omega (arith, low, within)) (omega (arith, low))) (λ low. here A l)

  pub noted_all : (hs : List ℕ) → Noted ast (length ast.rules) hs → (p : ℕ) → p < length ast.productions → suc (get_or hs p 0) ≡ file_head ast p
  noted_all hs h p lt =
      let has = sound.has_rule p lt in
      let l = has.1 in
      let within = slice_get_within ast.rules has.0 l.rule l.at in
      ap suc (h.each has.0 p within l ∙ sym (place_is p lt))

  -- a production's rule is one of the file's
  pub head_within : (hs : List ℕ) (p : ℕ) → p < length ast.productions → suc (get_or hs p 0) ≡ file_head ast p → get_or hs p 0 < length ast.rules
  head_within hs p lt e =
      let has = sound.has_rule p lt in
      let l = has.1 in
      let within = slice_get_within ast.rules has.0 l.rule l.at in
      let is = place_is p lt in
      omega (arith, within, is, e)

  stands : (o : Option RuleAst) (ps : List ℕ) → option_map (λ (r : RuleAst). r.productions) o ≡ Some ps → (r : RuleAst) × (o ≡ Some r) × (r.productions ≡ ps)
  stands None ps e = cc
  stands (Some r) ps e = (r, refl, same_some r.productions ps e)

  -- the same by the list of the rule at the index
  pub noted_next : (k : ℕ) (hs ps : List ℕ) → Noted ast k hs → option_map (λ (r : RuleAst). r.productions) (slice_get ast.rules k) ≡ Some ps → Noted ast (k + 1) (notes k hs ps)
  noted_next k hs ps h at =
      let s = stands (slice_get ast.rules k) ps at in
      subst (λ qs. Noted ast (k + 1) (notes k hs qs)) s.2 (noted_more k hs s.0 h s.1)

  pub listed_within : (k : ℕ) (hs ps : List ℕ) → Noted ast k hs → option_map (λ (r : RuleAst). r.productions) (slice_get ast.rules k) ≡ Some ps → All (λ p. p < length hs) ps
  listed_within k hs ps h at =
      let s = stands (slice_get ast.rules k) ps at in
      let c = h.count in
      subst (λ qs. All (λ p. p < length hs) qs) s.2 (λ n d lt.
      let within = sound.in_range k (get_or s.0.productions n d) (record { rule = s.0; at = s.1; listed = Contains-get_or s.0.productions n d lt }) in
      omega (arith, within, c))

-- the list of the rule at an index of a map
pub rule_list : (es : List (String Global × RuleEntry)) (k : ℕ) (v : RuleEntry) → slice_get (map (λ (e : String Global × RuleEntry). e.1) es) k ≡ Some v → option_map (λ (r : RuleAst). r.productions) (slice_get (map named_rule es) k) ≡ Some v.pidxs.items
rule_list es k v at =
    ap (option_map (λ (r : RuleAst). r.productions)) (slice_get-map named_rule es k)
    ∙ by (slice_get es k) (sym (slice_get-map (λ (e : String Global × RuleEntry). e.1) es k) ∙ at)
  where
    by : (o : Option (String Global × RuleEntry)) → option_map (λ (e : String Global × RuleEntry). e.1) o ≡ Some v → option_map (λ (r : RuleAst). r.productions) (option_map named_rule o) ≡ Some v.pidxs.items
    by None e = cc
    by (Some x) e = ap (λ (w : RuleEntry). Some w.pidxs.items) (same_some x.1 v e)
