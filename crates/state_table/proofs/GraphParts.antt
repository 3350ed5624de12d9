-- What a state of a graph has for its row and its gotos: the candidates of its cells, and rows that rise.
use Rattle.std.proofs.Common.{◌≡◌, ℕ, zero, suc, ◌<◌, inl, inr, Bool, true, false, cond, ◌&&◌, nat_eq, List, [], ◌∷◌, length, get_or, Option, Some, None, refl, sym, ap, ap₂, ◌∙◌, subst, arith}
use Rattle.std.specs.Prelude.{not, slice_get, unwrap_or}
use Rattle.std.specs.List.{AllByRecursion}
use Rattle.std.proofs.lemmas.Bool.{cases_lt}
use Rattle.std.proofs.lemmas.List.{get_or_past}
use Rattle.std.proofs.lemmas.Option.{unwrap_or-slice_get}
use Rattle.cfg_theory.specs.Grammar.{Sym, rule, token, Grammar, WellFormed, body_of, end_token}
use Rattle.vob.specs.Sets.{is_set}
use Rattle.lr_theory.specs.Building.{same_symbol}
use Rattle.lr_theory.specs.Itemset.{Entry, ItemSet, HasItem, FitsGrammar, entry_at}
use Rattle.lr_theory.proofs.GraphLaws.{graph_finished}
use Rattle.table_theory.specs.Cells.{Candidates, reductions_in, accepts_in, candidates_in}
use Rattle.state_table.specs.CellRows.{ReductionValue, FitsParts, reductions_on, candidates_on}
use Rattle.state_table.specs.GraphParts.{complete_items, with_token, with_rule, token_edges, rule_edges, parts_in, targets_in}
use Rattle.state_table.specs.Graphs.{GraphValue, IsGraphOf, AreInOrder, graph_of, target_in, SymBefore}
use Rattle.state_table.specs.Rows.{Rises, Below, at_of}
use Rattle.state_table.specs.SparseRows.{IsTargetRow}
use Rattle.state_table.proofs.EdgeLists.{found_at}

-- ---- reductions

one_reduction : (a b : Bool) (r : ReductionValue) (rs : List ReductionValue) (on : List ℕ) (t : ℕ) (c : Bool) → is_set r.looks t ≡ c → reductions_on rs t ≡ on →
    reductions_on (cond (a && b) (r ∷ rs) rs) t ≡ cond (a && (b && c)) (r.production ∷ on) on
one_reduction true true r rs on t c h e = ap₂ (λ x (l : List ℕ). cond x (r.production ∷ l) l) h e
one_reduction true false r rs on t c h e = e
one_reduction false b r rs on t c h e = e

pub reductions_are : (G : Grammar) (t : ℕ) (es : ItemSet) → reductions_on (complete_items G es) t ≡ reductions_in G t es
reductions_are G t [] = refl
reductions_are G t (e ∷ es) = one_reduction (not (nat_eq e.production G.start)) (nat_eq e.dot (length (body_of G e.production))) (record { production = e.production; looks = e.lookaheads }) (complete_items G es) (reductions_in G t es) t
    (unwrap_or (slice_get e.lookaheads t) false) (sym (unwrap_or-slice_get e.lookaheads t false)) (reductions_are G t es)

-- what is so of each item's production is so of those of the complete ones
kept_production : (P : ℕ → Type 0) (b : Bool) (r : ReductionValue) (rs : List ReductionValue) → P r.production → AllByRecursion (λ x. P x.production) rs → AllByRecursion (λ x. P x.production) (cond b (r ∷ rs) rs)
kept_production P true r rs h all = (h, all)
kept_production P false r rs h all = all

own_item : (e : Entry) (es : ItemSet) → HasItem (e ∷ es) e.production e.dot
unfolding entry_at
own_item e es = record { lookaheads = e.lookaheads; at = ap₂ (λ a b. cond (a && b) (Some e.lookaheads) (entry_at es e.production e.dot)) (same_number e.production) (same_number e.dot) } where
  same_number : (n : ℕ) → nat_eq n n ≡ true
  same_number n = grind arith

later_item : (e : Entry) (es : ItemSet) (p d : ℕ) → HasItem es p d → HasItem (e ∷ es) p d
unfolding entry_at
later_item e es p d h = by (nat_eq e.production p && nat_eq e.dot d) refl where
  by : (b : Bool) → nat_eq e.production p && nat_eq e.dot d ≡ b → HasItem (e ∷ es) p d
  by true q = record { lookaheads = e.lookaheads; at = ap (λ b. cond b (Some e.lookaheads) (entry_at es p d)) q }
  by false q = record { lookaheads = h.lookaheads; at = ap (λ b. cond b (Some e.lookaheads) (entry_at es p d)) q ∙ h.at }

complete_productions : (P : ℕ → Type 0) (G : Grammar) (es : ItemSet) → ((p d : ℕ) → HasItem es p d → P p) → AllByRecursion (λ x. P x.production) (complete_items G es)
complete_productions P G [] h = tt
complete_productions P G (e ∷ es) h = kept_production P (not (nat_eq e.production G.start) && nat_eq e.dot (length (body_of G e.production))) (record { production = e.production; looks = e.lookaheads }) (complete_items G es)
    (h e.production e.dot (own_item e es)) (complete_productions P G es (λ p d i. h p d (later_item e es p d i)))

-- ---- edges of one kind of symbols, by number

number_of_token : Sym → Option ℕ
number_of_token (token t) = Some t
number_of_token (rule A) = None

number_of_rule : Sym → Option ℕ
number_of_rule (token t) = None
number_of_rule (rule A) = Some A

abbrev put_at : Option ℕ → ℕ → List (ℕ × ℕ) → List (ℕ × ℕ)
put_at None k es = es
put_at (Some n) k es = (n, k) ∷ es

abbrev is_number : Option ℕ → ℕ → Bool
is_number None n = false
is_number (Some m) n = nat_eq m n

put_read : (o : Option ℕ) (k n : ℕ) (es : List (ℕ × ℕ)) → at_of (put_at o k es) n ≡ cond (is_number o n) (Some k) (at_of es n)
put_read None k n es = refl
put_read (Some m) k n es = refl

abbrev AllAt : (ℕ × ℕ → Type 0) → List (ℕ × ℕ) → Type 0
AllAt P row = (i : ℕ) (d : ℕ × ℕ) → i < length row → P (get_or row i d)

put_all : (P : ℕ × ℕ → Type 0) (o : Option ℕ) (k : ℕ) (es : List (ℕ × ℕ)) → ((n : ℕ) → o ≡ Some n → P (n, k)) → AllAt P es → AllAt P (put_at o k es)
put_all P None k es h all i d lt = all i d lt
put_all P (Some n) k es h all zero d lt = h n refl
put_all P (Some n) k es h all (suc i) d lt = all i d (omega (arith, lt))

put_rises : (o : Option ℕ) (k : ℕ) (es : List (ℕ × ℕ)) → ((n : ℕ) → o ≡ Some n → AllAt (λ y. n < y.0) es) → Rises es → Rises (put_at o k es)
put_rises None k es above up i j d ij lt = up i j d ij lt
put_rises (Some n) k es above up i zero d ij lt = absurd (omega (arith, ij))
put_rises (Some n) k es above up zero (suc j) d ij lt = above n refl j d (omega (arith, lt))
put_rises (Some n) k es above up (suc i) (suc j) d ij lt = up i j d (omega (arith, ij)) (omega (arith, lt))

module _ (number : Sym → Option ℕ) where
  abbrev numbered : List (Sym × ℕ) → List (ℕ × ℕ)
  numbered [] = []
  numbered (e ∷ es) = put_at (number e.0) e.1 (numbered es)

  numbered_at : (X : Sym) (n : ℕ) → ((Y : Sym) → is_number (number Y) n ≡ same_symbol X Y) → (es : List (Sym × ℕ)) → at_of (numbered es) n ≡ target_in es X
  numbered_at X n same [] = refl
  numbered_at X n same (e ∷ es) = put_read (number e.0) e.1 n (numbered es) ∙ ap₂ (λ b (o : Option ℕ). cond b (Some e.1) o) (same e.0) (numbered_at X n same es)

  numbered_all : (P : ℕ × ℕ → Type 0) (es : List (Sym × ℕ)) → ((i : ℕ) (d : Sym × ℕ) (n : ℕ) → i < length es → number (get_or es i d).0 ≡ Some n → P (n, (get_or es i d).1)) → AllAt P (numbered es)
  numbered_all P [] h = λ i d lt. absurd (omega (arith, lt))
  numbered_all P (e ∷ es) h = put_all P (number e.0) e.1 (numbered es) (λ n q. h zero e n (omega arith) q) (numbered_all P es (λ i d n lt q. h (suc i) d n (omega (arith, lt)) q))

  numbered_rises : ((X Y : Sym) (m n : ℕ) → number X ≡ Some m → number Y ≡ Some n → SymBefore X Y → m < n) → (es : List (Sym × ℕ)) → AreInOrder es → Rises (numbered es)
  numbered_rises before [] a = λ i j d ij lt. absurd (omega (arith, lt))
  numbered_rises before (e ∷ es) a = put_rises (number e.0) e.1 (numbered es)
      (λ m h. numbered_all (λ y. m < y.0) es (λ i d n lt q. before e.0 (get_or es i d).0 m n h q (a zero (suc i) d (omega arith) (omega (arith, lt)))))
      (numbered_rises before es (λ i j d ij lt. a (suc i) (suc j) d (omega (arith, ij)) (omega (arith, lt))))

equal_either : (m n : ℕ) → nat_eq m n ≡ nat_eq n m
equal_either m n = grind arith

token_is : (t : ℕ) (Y : Sym) → is_number (number_of_token Y) t ≡ same_symbol (token t) Y
unfolding number_of_token
token_is t (token u) = equal_either u t
token_is t (rule A) = refl

rule_is : (A : ℕ) (Y : Sym) → is_number (number_of_rule Y) A ≡ same_symbol (rule A) Y
unfolding number_of_rule
rule_is A (token t) = refl
rule_is A (rule B) = equal_either B A

numbers_rise : (m n t u : ℕ) → Some t ≡ Some m → Some u ≡ Some n → t < u → m < n
numbers_rise m n t u e f lt = let g : t ≡ m = cc in let h : u ≡ n = cc in omega (arith, g, h, lt)

none_is : (m : ℕ) → None ≡ Some m → ⊥
none_is m e = cc

tokens_before : (X Y : Sym) (m n : ℕ) → number_of_token X ≡ Some m → number_of_token Y ≡ Some n → SymBefore X Y → m < n
unfolding number_of_token
tokens_before (token t) (token u) m n e f lt = numbers_rise m n t u e f lt
tokens_before (token t) (rule A) m n e f lt = absurd lt
tokens_before (rule A) Y m n e f lt = absurd (none_is m e)

rules_before : (X Y : Sym) (m n : ℕ) → number_of_rule X ≡ Some m → number_of_rule Y ≡ Some n → SymBefore X Y → m < n
unfolding number_of_rule
rules_before (rule A) (rule B) m n e f lt = numbers_rise m n A B e f lt
rules_before (rule A) (token t) m n e f lt = absurd (none_is n f)
rules_before (token t) Y m n e f lt = absurd (none_is m e)

token_numbered : (X : Sym) (k : ℕ) (row es : List (ℕ × ℕ)) → row ≡ es → put_at (number_of_token X) k row ≡ with_token X k es
unfolding number_of_token
token_numbered (token t) k row es e = ap (λ l. (t, k) ∷ l) e
token_numbered (rule A) k row es e = e

tokens_numbered : (es : List (Sym × ℕ)) → numbered number_of_token es ≡ token_edges es
tokens_numbered [] = refl
tokens_numbered (e ∷ es) = token_numbered e.0 e.1 (numbered number_of_token es) (token_edges es) (tokens_numbered es)

rule_numbered : (X : Sym) (k : ℕ) (row es : List (ℕ × ℕ)) → row ≡ es → put_at (number_of_rule X) k row ≡ with_rule X k es
unfolding number_of_rule
rule_numbered (token t) k row es e = e
rule_numbered (rule A) k row es e = ap (λ l. (A, k) ∷ l) e

rules_numbered : (es : List (Sym × ℕ)) → numbered number_of_rule es ≡ rule_edges es
rules_numbered [] = refl
rules_numbered (e ∷ es) = rule_numbered e.0 e.1 (numbered number_of_rule es) (rule_edges es) (rules_numbered es)

pub token_target : (es : List (Sym × ℕ)) (t : ℕ) → at_of (token_edges es) t ≡ target_in es (token t)
token_target es t = ap (λ l. at_of l t) (sym (tokens_numbered es)) ∙ numbered_at number_of_token (token t) t (token_is t) es

pub rule_target : (es : List (Sym × ℕ)) (A : ℕ) → at_of (rule_edges es) A ≡ target_in es (rule A)
rule_target es A = ap (λ l. at_of l A) (sym (rules_numbered es)) ∙ numbered_at number_of_rule (rule A) A (rule_is A) es

pub tokens_rise : (es : List (Sym × ℕ)) → AreInOrder es → Rises (token_edges es)
tokens_rise es a = subst Rises (tokens_numbered es) (numbered_rises number_of_token tokens_before es a)

rule_of_number : (X : Sym) (n : ℕ) → number_of_rule X ≡ Some n → X ≡ rule n
unfolding number_of_rule
rule_of_number (rule A) n e = let f : A ≡ n = cc in ap rule f
rule_of_number (token t) n e = absurd (none_is n e)

pub rules_rise : (es : List (Sym × ℕ)) → AreInOrder es → Rises (rule_edges es)
rules_rise es a = subst Rises (rules_numbered es) (numbered_rises number_of_rule rules_before es a)

pub rules_below : (es : List (Sym × ℕ)) (n : ℕ) → ((i : ℕ) (d : Sym × ℕ) (A : ℕ) → i < length es → (get_or es i d).0 ≡ rule A → A < n) → Below n (rule_edges es)
rules_below es n h = subst (λ l. AllAt (λ y. y.0 < n) l) (rules_numbered es) (numbered_all number_of_rule (λ y. y.0 < n) es (λ i d A lt q. h i d A lt (rule_of_number (get_or es i d).0 A q)))

-- ---- the parts of a state

module _ (G : Grammar) (g : GraphValue) where
  pub candidates_are : (s t : ℕ) → candidates_on G (parts_in G g s) t ≡ candidates_in G (get_or g.closed s []) ((graph_of g).edge s (token t)) t
  candidates_are s t =
      let made : List ℕ → Option ℕ → Candidates = λ rs o. record { reductions = rs; edge = o; accepts = nat_eq t (end_token G) && accepts_in G (get_or g.closed s []) } in
      ap₂ made (reductions_are G t (get_or g.closed s [])) (token_target (get_or g.edges s []) t)

  module _ (is : IsGraphOf G g) where
    closed_fits : (s : ℕ) → s < length g.closed → FitsGrammar G (get_or g.closed s [])
    closed_fits s lt = is.fits.1 s [] lt

    pub fits_parts : (s : ℕ) → FitsParts G (parts_in G g s)
    fits_parts s = record {
      productions = elim (cases_lt s (length g.closed)) [
        | inl lt ↦ complete_productions (λ p. p < length G.productions) G (get_or g.closed s []) (closed_fits s lt).productions
        | inr ge ↦ subst (λ (es : ItemSet). AllByRecursion (λ x. x.production < length G.productions) (complete_items G es)) (sym (get_or_past g.closed s [] ge)) tt
      ];
      rises = tokens_rise (get_or g.edges s []) (is.ascend s);
    }

    pub target_row : WellFormed G → (s : ℕ) → IsTargetRow G.rules (targets_in g s)
    target_row good s = record {
      rises = rules_rise (get_or g.edges s []) (is.ascend s);
      below = elim (cases_lt s (length g.cores)) [
        | inl lt ↦ rules_below (get_or g.edges s []) G.rules (λ j d A l q.
            let (p, x, i, n) = (graph_finished G (graph_of g) good is.graph).no_other s (get_or (get_or g.edges s []) j d).1 (rule A) lt
            (ap (target_in (get_or g.edges s [])) (sym q) ∙ found_at (get_or g.edges s []) j d (is.ascend s) l) in
            good.symbols p x (rule A) n)
        | inr ge ↦ (let lists = is.lists in
            subst (λ (es : List (Sym × ℕ)). Below G.rules (rule_edges es)) (sym (get_or_past g.edges s [] (omega (arith, ge, lists)))) (λ i d lt. absurd (omega (arith, lt))))
      ];
    }
