-- Productions by their numbers.
use Rattle.std.proofs.Common.{◌≡◌, ℕ, ◌<◌, List, [], length, get_or, refl, sym, ap, ◌∙◌, subst, arith}
use Rattle.std.specs.Prelude.{map}
use Rattle.std.proofs.lemmas.List.{get_or-map, length-map}
use Rattle.cfg_theory.specs.Grammar.{Production, Grammar, IsOf, WellFormed, head_of, body_of}
use Rattle.cfg_numbered.specs.Symbols.{syms_of}
use Rattle.cfg_numbered.specs.Value.{GrammarValue}
use Rattle.cfg_numbered.specs.Info.{value_of, production_of, with_productions}
use Rattle.std.specs.declared.alloc.Global.{Global}
use Rattle.std.specs.declared.string.String.{String}
use Rattle.cfg_numbered.specs.declared.yacc.info.RuleInfo.{RuleInfo}
use Rattle.cfg_numbered.specs.declared.yacc.info.TokenInfo.{TokenInfo}
use Rattle.cfg_numbered.specs.declared.yacc.info.ProductionInfo.{ProductionInfo}
use Rattle.cfg_numbered.specs.declared.yacc.info.KeptInfo.{KeptInfo}

module _ {X : Type 0} (view : X → Production) (G : Grammar) (xs : List X) (e : G.productions ≡ map view xs) where
  -- the production of a number
  at : (p : ℕ) (x d : X) → p < length xs → x ≡ get_or xs p d → get_or G.productions p (record { head = 0; body = [] }) ≡ view x
  at p x d lt is = ap (λ l. get_or l p (record { head = 0; body = [] })) e ∙ get_or-map view xs p d (record { head = 0; body = [] }) lt ∙ ap view (sym is)

  pub head_at : (p : ℕ) (x d : X) → p < length xs → x ≡ get_or xs p d → head_of G p ≡ (view x).head
  unfolding head_of
  head_at p x d lt is = ap (λ r. r.head) (at p x d lt is)

  pub body_at : (p : ℕ) (x d : X) → p < length xs → x ≡ get_or xs p d → body_of G p ≡ (view x).body
  unfolding body_of
  body_at p x d lt is = ap (λ r. r.body) (at p x d lt is)

  pub is_of : (p : ℕ) (x d : X) → p < length xs → x ≡ get_or xs p d → IsOf G p (view x).head
  is_of p x d lt is = record { in_range = subst (λ n. p < n) (sym (ap length e ∙ length-map xs view)) lt; head = head_at p x d lt is }

-- a well-formed grammar has a rule
pub some_rule : (G : Grammar) → WellFormed G → 0 < G.rules
some_rule G good = good.heads G.start 0 good.start_of

-- in a value that is made of parts
module _ {S : Type 0} (number : S → ℕ) (rules : List (String Global × RuleInfo)) (tokens : List (String Global × TokenInfo)) (prods : List (ProductionInfo S)) (start : ℕ) (kept : KeptInfo S) (v : GrammarValue) (is : value_of number rules tokens prods start kept ≡ v) where
  index : (i p : ℕ) (x : ProductionInfo S) → i ≡ p → x ≡ get_or prods i x → x ≡ get_or prods p x
  index i p x e h = subst (λ k. x ≡ get_or prods k x) e h

  within : (p : ℕ) → p < length v.grammar.productions → p < length prods
  within p lt = let n = ap (λ w. length w.grammar.productions) is in let m = length-map prods (production_of number) in omega (arith, n, m, lt)

  pub body_in : (i p : ℕ) (x : ProductionInfo S) → i ≡ p → p < length v.grammar.productions → x ≡ get_or prods i x → body_of v.grammar p ≡ syms_of number x.symbols.items
  body_in i p x e lt h = sym (ap (λ w. body_of w.grammar p) is) ∙ body_at (production_of number) (value_of number rules tokens prods start kept).grammar prods refl p x x (within p lt) (index i p x e h)

  pub head_in : (i p : ℕ) (x : ProductionInfo S) → i ≡ p → p < length v.grammar.productions → x ≡ get_or prods i x → head_of v.grammar p ≡ number x.rule.0
  head_in i p x e lt h = sym (ap (λ w. head_of w.grammar p) is) ∙ head_at (production_of number) (value_of number rules tokens prods start kept).grammar prods refl p x x (within p lt) (index i p x e h)

-- only the productions matter
pub is_of_any : (G : Grammar) (rules : ℕ) (ps : List Production) (p A : ℕ) → ps ≡ G.productions → IsOf (with_productions rules ps) p A → IsOf G p A
unfolding head_of
is_of_any G rules ps p A e o = record { in_range = subst (λ l. p < length l) e o.in_range; head = sym (ap (λ (l : List Production). (get_or {A = Production} l p (record { head = 0; body = [] })).head) e) ∙ o.head }
