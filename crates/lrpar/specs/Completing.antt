-- Whether each item's action stands in its cell.
use Rattle.std.specs.Prelude.{◌≡◌, ◌≢◌, ℕ, length}
use Rattle.cfg_theory.specs.Grammar.{token, Grammar, body_of, end_token, IsNext}
use Rattle.lr_theory.specs.Automaton.{shift, reduce, accept}
use Rattle.lr_theory.specs.Itemset.{ItemSet, HasLook}
use Rattle.state_table.specs.TableValues.{TableValue, action_at}

-- those of an item (p, d) of a state s with these items
pub record ItemStands (G : Grammar) (v : TableValue) (items : ItemSet) (s p d : ℕ) : Type 0 where
  pub before_token : (t : ℕ) → IsNext G p d (token t) → (q : ℕ) × (action_at v s t ≡ shift q)
  pub at_end : d ≡ length (body_of G p) → p ≢ G.start → (t : ℕ) → HasLook items p d t → action_at v s t ≡ reduce p
  pub at_start_end : d ≡ length (body_of G p) → p ≡ G.start → action_at v s (end_token G) ≡ accept
