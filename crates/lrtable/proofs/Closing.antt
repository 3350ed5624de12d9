-- The sizes of a closure's sets, and where it begins.
use Rattle.std.proofs.Common.{◌≡◌, ℕ, inl, inr, false, List, [], length, get_or, replicate, refl, sym, ap, ◌∙◌, subst, arith}
use Rattle.std.proofs.lemmas.List.{length-replicate}
use Rattle.cfg_theory.specs.Grammar.{Grammar, rule, IsNext, WellFormed}
use Rattle.state_table.specs.ItemRows.{Core}
use Rattle.lrtable.specs.Opening.{Front, RuleSets, IsOpen, HasRuleLook, AllFit, SameSizes, Opened, OpenedLook}
use Rattle.lrtable.specs.Closes.{AreFronts}
use Rattle.lrtable.specs.Stepping.{IsSized, IsClosureOf}
use Rattle.vob.proofs.Bits.{none_set, none_in}

pub sized_on : (G : Grammar) (a b : RuleSets) → IsSized G a → SameSizes a b → IsSized G b
sized_on G a b h s = record { tokens = s.tokens ∙ h.tokens; opened = s.opened ∙ h.opened; rows = s.rows ∙ h.rows }

module _ (G : Grammar) (s : RuleSets) (rules tokens : ℕ) (r : rules ≡ G.rules) (t : tokens ≡ G.tokens) (e : s ≡ record { tokens = tokens; rows = replicate rules (replicate tokens false); opened = replicate rules false }) where
  pub empty_sized : IsSized G s
  empty_sized = record {
    tokens = ap (λ (x : RuleSets). x.tokens) e ∙ t;
    opened = ap (λ (x : RuleSets). length x.opened) e ∙ length-replicate rules false ∙ r;
    rows = ap (λ (x : RuleSets). length x.rows) e ∙ length-replicate rules (replicate tokens false) ∙ r;
  }

  pub none_open : (A : ℕ) → IsOpen s A → ⊥
  none_open A h = none_set rules A (subst (λ (x : RuleSets). IsOpen x A) e h)

  pub no_look : (A u : ℕ) → HasRuleLook s A u → ⊥
  no_look A u h = none_in rules tokens A u (subst (λ (x : RuleSets). HasRuleLook x A u) e h)

-- the fronts of a grammar fit sets of its sizes
pub fronts_fit : (G : Grammar) (fronts : List (List Front)) (s : RuleSets) → AreFronts G fronts → IsSized G s → (A : ℕ) → AllFit (length s.opened) s.tokens (get_or fronts A [])
fronts_fit G fronts s good z A e m = record {
  rule = (let lt = good.fit A e m in let n = z.opened in omega (arith, lt, n));
  first = good.width A e m ∙ sym z.tokens;
}

-- the start rule isn't open: no body names it
pub start_closed : (G : Grammar) (fronts : List (List Front)) (c : Core) (s : RuleSets) → WellFormed G → AreFronts G fronts → IsClosureOf G fronts c s → IsOpen s 0 → ⊥
start_closed G fronts c s good fit h x = go 0 refl ((h.opened.rules 0).0 x)
  where
    go : (A : ℕ) → A ≡ 0 → Opened fronts h.from A → ⊥
    go A z (Opened.given i) = let (p, d, j, n) = (h.seeds.rules A).0 i in good.no_start p d (subst (λ B. IsNext G p d (rule B)) z n)
    go A z (Opened.opened {A = B} e o m q) = let (p, k, n) = fit.rules B e m in good.no_start p 0 (subst (λ C. IsNext G p 0 (rule C)) (q ∙ z) n)

-- a rule with a lookahead is open
pub look_open : (G : Grammar) (fronts : List (List Front)) (c : Core) (s : RuleSets) → AreFronts G fronts → IsClosureOf G fronts c s → (A t : ℕ) → HasRuleLook s A t → IsOpen s A
look_open G fronts c s fit h A t x = (h.opened.rules A).1 (go A t ((h.opened.looks A t).0 x))
  where
    go : (A t : ℕ) → OpenedLook fronts h.from A t → Opened fronts h.from A
    go A t (OpenedLook.given i) = Opened.given ((h.seeds.rules A).1 (elim ((h.seeds.looks A t).0 i) [ inl y ↦ (y.0, y.1, y.2, y.3) | inr y ↦ (y.0, y.1, record { lookaheads = y.2.lookaheads; at = y.2.at }, y.3) ]))
    go A t (OpenedLook.first e o m q f) = Opened.opened e o m q
    go A t (OpenedLook.passed e o l m q f) = Opened.opened e o m q
