-- The edges of a state that was taken: it has one for each symbol behind a dot of its closure, to a state with the items of
-- the goto set, also after it and others have grown.
use Rattle.std.proofs.Common.{◌≡◌, ℕ, zero, suc, ◌<◌, ◌≢◌, ◌⊎◌, inl, inr, false, List, [], ◌∷◌, length, get_or, None, Some, Option, refl, sym, ◌∙◌, subst, arith, length-set}
use Rattle.std.proofs.Math.Decide.{ℕ_discrete, dec_lt}
use Rattle.cfg_theory.specs.Grammar.{Sym, Grammar, WellFormed, IsNext, InRange}
use Rattle.lr_theory.specs.Itemset.{Items, ItemSet, HasItem, HasLook, SameItems, Closure, ClosureLook, Goto, GotoLook, Tied}
use Rattle.lr_theory.specs.Graph.{Graph, IsState, CoreItem, CoreLook, core_of}
use Rattle.lr_theory.specs.Building.{Building, Handled, symbols, taken, Step, Reached}
use Rattle.lr_theory.proofs.Goto.{goto_tied}
use Rattle.lr_theory.proofs.Place.{Placed, placed, same_symbol_decides}
use Rattle.lrtable.specs.Handling.{rank}
use Rattle.lrtable.proofs.Ranks.{rank_at, rank_below, symbol_count}
use Rattle.lr_theory.proofs.Building.{closed_more, reached_sound, within, Sound, Between}
pub use Rattle.lr_theory.proofs.Building.{AnySymbol}

-- the state s, with the items of source, has an edge on X to a state that has those of the goto set
pub record IsMade (G : Grammar) (g : Graph) (s : ℕ) (source : ItemSet) (X : Sym) : Type 0 where
  pub target : ℕ
  pub edge : g.edge s X ≡ Some target
  pub state : IsState g target
  pub items : SameItems (Goto G (Closure G (HasItem source)) X) (CoreItem g target)

-- so it has on the symbols of Done
abbrev pub AreMade : Grammar → Graph → ℕ → ItemSet → (Sym → Type 0) → Type 0
AreMade G g s source Done = (X : Sym) → Done X → (p d : ℕ) → Closure G (HasItem source) p d → IsNext G p d X → IsMade G g s source X

abbrev pub In : List Sym → Sym → Type 0
In [] Y = ⊥
In (X ∷ Xs) Y = (Y ≡ X) ⊎ In Xs Y

-- what handling these symbols for the state s keeps, and makes
record After (G : Grammar) (s : ℕ) (source : ItemSet) (Done : Sym → Type 0) (Xs : List Sym) (b c : Building) : Type 0 where
  size : length c.todo ≡ length c.graph.cores
  ties : (r : ℕ) → IsState c.graph r → Tied G (CoreItem c.graph r) (CoreLook c.graph r)
  stays : (r : ℕ) → IsState b.graph r → IsState c.graph r
  items : (r : ℕ) → IsState b.graph r → SameItems (CoreItem b.graph r) (CoreItem c.graph r)
  others : (r : ℕ) (Y : Sym) → r ≢ s → c.graph.edge r Y ≡ b.graph.edge r Y
  made : AreMade G b.graph s source Done → AreMade G c.graph s source (λ Y. Done Y ⊎ In Xs Y)

same_through : (I J K : Items) → SameItems I J → SameItems J K → SameItems I K
same_through I J K h k = λ p d. (λ x. (k p d).0 ((h p d).0 x), λ x. (h p d).1 ((k p d).1 x))

-- an edge stays, where its target has the same items
made_on : (G : Grammar) (g h : Graph) (s : ℕ) (source : ItemSet) (X : Sym) → h.edge s X ≡ g.edge s X → ((r : ℕ) → IsState g r → IsState h r) → ((r : ℕ) → IsState g r → SameItems (CoreItem g r) (CoreItem h r)) → IsMade G g s source X → IsMade G h s source X
made_on G g h s source X edge stays items was = record {
  target = was.target;
  edge = edge ∙ was.edge;
  state = stays was.target was.state;
  items = same_through (Goto G (Closure G (HasItem source)) X) (CoreItem g was.target) (CoreItem h was.target) was.items (items was.target was.state);
}

module _ (G : Grammar) (good : WellFormed G) (s : ℕ) (source : ItemSet) (source_tied : Tied G (HasItem source) (HasLook source)) where
  after : (Done : Sym → Type 0) {Xs : List Sym} {b c : Building} → Handled G s source Xs b c → length b.todo ≡ length b.graph.cores → ((r : ℕ) → IsState b.graph r → Tied G (CoreItem b.graph r) (CoreLook b.graph r)) → After G s source Done Xs b c
  after Done Handled.done size ties = record {
    size = size;
    ties = ties;
    stays = λ r h. h;
    items = λ r h p d. (λ x. x, λ x. x);
    others = λ r Y ne. refl;
    made = λ was X h p d i n. elim h [ inl x ↦ was X x p d i n | inr x ↦ absurd x ];
  }
  after Done {b = b} {c = c} (Handled.absent {X = X} {Xs = Xs} none rest) size ties =
      let r = after Done rest size ties in
      record {
        size = r.size;
        ties = r.ties;
        stays = r.stays;
        items = r.items;
        others = r.others;
        made = λ was Y h p d i n. elim h [
          | inl x ↦ r.made was Y (inl x) p d i n
          | inr x ↦ elim x [ inl y ↦ absurd (none p d i (subst (IsNext G p d) y n)) | inr z ↦ r.made was Y (inr z) p d i n ]
        ];
      }
  after Done {b = b} {c = e} (Handled.placed {X = X} {Xs = Xs} {c = c} p d item next place rest) size ties =
      let now : Placed G b c s X (Goto G (Closure G (HasItem source)) X) (GotoLook G (ClosureLook G (HasItem source) (HasLook source)) X) =
      placed G s X _ _ size ties (goto_tied G good (HasItem source) X (HasLook source) source_tied) place in
      let r = after (λ Y. Done Y ⊎ (Y ≡ X)) rest now.size now.ties in
      record {
        size = r.size;
        ties = r.ties;
        stays = λ n h. r.stays n (now.stays n h);
        items = λ n h. same_through (CoreItem b.graph n) (CoreItem c.graph n) (CoreItem e.graph n) ((now.grows n h).items) (r.items n (now.stays n h));
        others = λ n Y ne. r.others n Y ne ∙ now.others n Y (λ x _. ne x);
        made = λ was Y h q f i n. r.made (λ Z z q' f' i' n'. step Done b c X now was Z z (same_symbol_decides Z X) q' f' i' n') Y (regroup Done Xs X Y h) q f i n;
      }
    where
      regroup : (Done : Sym → Type 0) (Xs : List Sym) (X Y : Sym) → Done Y ⊎ In (X ∷ Xs) Y → (Done Y ⊎ (Y ≡ X)) ⊎ In Xs Y
      regroup Done Xs X Y (inl h) = inl (inl h)
      regroup Done Xs X Y (inr (inl h)) = inl (inr h)
      regroup Done Xs X Y (inr (inr h)) = inr h

      step : (Done : Sym → Type 0) (b c : Building) (X : Sym) → Placed G b c s X (Goto G (Closure G (HasItem source)) X) (GotoLook G (ClosureLook G (HasItem source) (HasLook source)) X) → AreMade G b.graph s source Done →
          (Z : Sym) → Done Z ⊎ (Z ≡ X) → Dec (Z ≡ X) → (p d : ℕ) → Closure G (HasItem source) p d → IsNext G p d Z → IsMade G c.graph s source Z
      step Done b c X now was Z h (yes z) p d i n = subst (IsMade G c.graph s source) (sym z) (record { target = now.target; edge = now.made; state = now.state; items = now.items })
      step Done b c X now was Z (inr z) (no ne) p d i n = absurd (ne z)
      step Done b c X now was Z (inl h) (no ne) p d i n = made_on G b.graph c.graph s source Z (now.others s Z (λ _ z. ne z)) now.stays (λ r x. (now.grows r x).items) (was Z h p d i n)

-- the same for another set with these items
made_as : (G : Grammar) (g : Graph) (s : ℕ) (x y : ItemSet) → SameItems (HasItem x) (HasItem y) → AreMade G g s x AnySymbol → AreMade G g s y AnySymbol
made_as G g s x y same was X _ p d i n =
    let m = was X tt p d (closed_more G (HasItem y) (HasItem x) (λ p d. (same p d).1) i) n in
    record {
      target = m.target;
      edge = m.edge;
      state = m.state;
      items = λ q e. (λ h. (m.items q e).0 (moved (HasItem y) (HasItem x) (λ p d. (same p d).1) h), λ h. moved (HasItem x) (HasItem y) (λ p d. (same p d).0) ((m.items q e).1 h));
    }
  where
    moved : (K L : Items) → ((p d : ℕ) → K p d → L p d) → {q e : ℕ} → Goto G (Closure G K) X q e → Goto G (Closure G L) X q e
    moved K L h (Goto.moved i n) = Goto.moved (closed_more G K L h i) n

-- a state has no edge, or all
abbrev pub AreWhole : Grammar → Graph → ℕ → Type 0
AreWhole G g s = ((X : Sym) → g.edge s X ≡ None) ⊎ AreMade G g s (core_of g s) AnySymbol

-- each symbol of the grammar is handled
in_at : (Xs : List Sym) (k : ℕ) (X : Sym) → k < length Xs → get_or Xs k X ≡ X → In Xs X
in_at [] k X lt e = absurd (omega (arith, lt))
in_at (Y ∷ Xs) zero X lt e = inl (sym e)
in_at (Y ∷ Xs) (suc k) X lt e = inr (in_at Xs k X (omega (arith, lt)) e)

in_symbols : (G : Grammar) (X : Sym) → InRange G X → In (symbols G) X
in_symbols G X h = in_at (symbols G) (rank G X) X (let lt = rank_below G X h in let n = symbol_count G in omega (arith, lt, n)) (rank_at G X h)

module _ (G : Grammar) (good : WellFormed G) where
  no_edge : (b : Building) → Sound G b → (s : ℕ) → (IsState b.graph s → ⊥) → (X : Sym) → b.graph.edge s X ≡ None
  no_edge b sound s none X = by (b.graph.edge s X) refl
    where
      by : (o : Option ℕ) → b.graph.edge s X ≡ o → b.graph.edge s X ≡ None
      by None e = e
      by (Some t) e = absurd (none (let (p, d, state, i, n) = sound.no_other s t X e in state))

  module _ (b c : Building) (was : Between G b) (whole : (s : ℕ) → AreWhole G b.graph s) (step : Step G b c) where
    abbrev source : ItemSet
    source = core_of b.graph step.state

    todo_within : IsState b.graph step.state
    todo_within = within G good b was step.state step.todo

    now : After G step.state source (λ X. ⊥) (symbols G) (taken b step.state) c
    now = after G good step.state source (was.sound.ties step.state todo_within) (λ X. ⊥) step.handled (length-set b.todo step.state false ∙ was.sound.size) was.sound.ties

    whole_on : (s : ℕ) → Dec (s ≡ step.state) → Dec (s < length b.graph.cores) → AreWhole G c.graph s
    whole_on s (no ne) (no out) = inl (λ X. now.others s X ne ∙ no_edge b was.sound s out X)
    whole_on s (no ne) (yes state) = elim (whole s) [
      | inl none ↦ inl (λ X. now.others s X ne ∙ none X)
      | inr made ↦ inr (made_as G c.graph s (core_of b.graph s) (core_of c.graph s) (now.items s state)
          (λ X any p d i n. made_on G b.graph c.graph s (core_of b.graph s) X (now.others s X ne) now.stays now.items (made X any p d i n)))
    ]
    whole_on s (yes e) _ = inr (subst (λ n. AreMade G c.graph n (core_of c.graph n) AnySymbol) (sym e)
        (made_as G c.graph step.state source (core_of c.graph step.state) (now.items step.state todo_within)
        (λ X any p d i n. now.made (λ X h. absurd h) X (inr (in_symbols G X (good.symbols p d X n))) p d i n)))

  pub reached_whole : {b : Building} → Reached G b → (s : ℕ) → AreWhole G b.graph s
  reached_whole (Reached.begin h) s = inl (λ X. h.no_edge s X)
  reached_whole (Reached.step {b} {c} r step) s = whole_on b c (reached_sound G good r) (reached_whole r) step s (ℕ_discrete s step.state) (dec_lt s (length b.graph.cores))
