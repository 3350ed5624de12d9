-- Items whose actions stand in their cells.
use Rattle.std.proofs.Common.{◌≡◌, ◌≢◌, ℕ, Bool, true, false, List, length, Some, refl, sym, ap, ◌∙◌, subst}
use Rattle.std.specs.Prelude.{slice_get, IsTrue, ◌↔◌}
use Rattle.std.proofs.lemmas.Option.{same_Some}
use Rattle.cfg_theory.specs.Grammar.{token, Grammar, body_of, symbol_at, IsNext}
use Rattle.lr_theory.specs.Automaton.{Action, shift, reduce, Complete}
use Rattle.lr_theory.specs.Itemset.{ItemSet, entry_at, HasItem, HasLook}
use Rattle.state_table.specs.Graphs.{GraphValue}
use Rattle.state_table.specs.TableValues.{TableValue, action_at}
use Rattle.state_table.specs.Tables.{automaton_of}
use Rattle.lrpar.specs.Fitting.{closed_at}
use Rattle.cfg_theory.specs.Decides.{Decides}
use Rattle.lrpar.specs.Completing.{ItemStands}
use Rattle.lrpar.proofs.Edging.{same_token}

module _ (G : Grammar) (v : TableValue) (s p d : ℕ) where
  pub next_tells : (n : ℕ) (k : Action) (b : Bool) → symbol_at G p d ≡ Some (token n) → k ≡ action_at v s n → Decides ((q : ℕ) × (k ≡ shift q)) b → Decides ((t : ℕ) → IsNext G p d (token t) → (q : ℕ) × (action_at v s t ≡ shift q)) b
  next_tells n k true e is h = λ t next.
      let same : n ≡ t = same_token n t (same_Some (token n) (token t) (sym e ∙ next.at)) in
      (h.0, ap (action_at v s) (sym same) ∙ sym is ∙ h.1)
  next_tells n k false e is h = λ all. let q = all n (record { at = e }) in h (q.0, is ∙ q.1)

  pub looks_tell : (items : ItemSet) (bits : List Bool) (b : Bool) → entry_at items p d ≡ Some bits → d ≡ length (body_of G p) → p ≢ G.start → ((t : ℕ) → IsNext G p d (token t) → (q : ℕ) × (action_at v s t ≡ shift q)) → Decides ((t : ℕ) → slice_get bits t ≡ Some true → action_at v s t ≡ reduce p) b → Decides (ItemStands G v items s p d) b
  looks_tell items bits true at end ne next h = record {
    before_token = next;
    at_end = λ _ _ t look. h t (ap (λ (l : List Bool). slice_get l t) (same_Some bits look.lookaheads (sym at ∙ look.at)) ∙ look.set);
    at_start_end = λ _ e. absurd (ne e);
  }
  looks_tell items bits false at end ne next h = λ stands. h (λ t set. stands.at_end end ne t (record { lookaheads = bits; at = at; set = set }))

item_of_look : (items : ItemSet) (p d t : ℕ) → HasLook items p d t → HasItem items p d
item_of_look items p d t look = record { lookaheads = look.lookaheads; at = look.at }

module _ (G : Grammar) (g : GraphValue) (v : TableValue) where
  pub stands_of : Complete G (automaton_of g v) → (s p d : ℕ) → HasItem (closed_at g s) p d → ItemStands G v (closed_at g s) s p d
  stands_of complete s p d item = record {
    before_token = λ t next. complete.before_token s p d t item next;
    at_end = λ end ne t look. complete.at_end s p t (subst (λ e. HasLook (closed_at g s) p e t) end look) ne;
    at_start_end = λ end is. complete.at_start_end s (subst (λ q. HasItem (closed_at g s) q (length (body_of G q))) is (subst (HasItem (closed_at g s) p) end item));
  }

  pub complete_of : ((s p d : ℕ) → HasItem (closed_at g s) p d → ItemStands G v (closed_at g s) s p d) → Complete G (automaton_of g v)
  complete_of all = record {
    before_token = λ s p d t item next. (all s p d item).before_token t next;
    at_end = λ s p t look ne. (all s p (length (body_of G p)) (item_of_look (closed_at g s) p (length (body_of G p)) t look)).at_end refl ne t look;
    at_start_end = λ s item. (all s G.start (length (body_of G G.start)) item).at_start_end refl refl;
  }

pub tells_both : (P : Type 0) (b : Bool) → Decides P b → IsTrue b ↔ P
tells_both P true h = (λ _. h, λ _. refl)
tells_both P false h = (λ e. cc e, λ p. absurd (h p))
