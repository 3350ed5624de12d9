-- Two graphs of a grammar are one as lists.
use Rattle.std.proofs.Common.{◌≡◌, ℕ, ◌<◌, length, get_or, [], sym, ap, arith}
use Rattle.std.proofs.lemmas.List.{ext_get_or}
use Rattle.cfg_theory.specs.Grammar.{Grammar, WellFormed}
use Rattle.lr_theory.specs.Itemset.{Items, Lookaheads, ItemSet, HasItem, HasLook, SameItems, SameLooks, ClosureLook, Is, FitsGrammar}
use Rattle.lr_theory.specs.Graph.{Graph, IsState, CoreItem, CoreLook, StateItem, StateLook, core_of}
use Rattle.lr_theory.specs.Building.{IsGraph}
use Rattle.lr_theory.specs.GraphLaws.{GraphListsAreOne}
use Rattle.lr_theory.proofs.Building.{closed_more}
use Rattle.lr_theory.proofs.Unique.{alike_is}
use Rattle.lr_theory.proofs.UniqueGraph.{graph_same}
use Rattle.lr_theory.proofs.ItemLists.{one_set}

-- a set with more lookaheads has more in its closure
pub closed_look_more : (G : Grammar) (I J : Items) (L M : Lookaheads) → ((p d : ℕ) → I p d → J p d) → ((p d t : ℕ) → L p d t → M p d t) → {p d t : ℕ} → ClosureLook G I L p d t → ClosureLook G J M p d t
closed_look_more G I J L M items looks (ClosureLook.given l) = ClosureLook.given (looks _ _ _ l)
closed_look_more G I J L M items looks (ClosureLook.first c n o f) = ClosureLook.first (closed_more G I J items c) n o f
closed_look_more G I J L M items looks (ClosureLook.passed c n o z) = ClosureLook.passed (closed_look_more G I J L M items looks c) n o z

module _ (G : Grammar) (g h : Graph) (good : WellFormed G) (x : IsGraph G g) (y : IsGraph G h) where
  pub same_cores : ((s : ℕ) → IsState g s → FitsGrammar G (core_of g s)) → ((s : ℕ) → IsState h s → FitsGrammar G (core_of h s)) → g.cores ≡ h.cores
  same_cores fg fh =
      let same = graph_same G good g h x y in
      let n = same.count in
      ext_get_or [] g.cores h.cores n (λ s lt. one_set G (core_of g s) (core_of h s) (fg s lt) (fh s (omega (arith, lt, n))) (same.items s lt) (same.looks s lt))

  same_items : (s : ℕ) → IsState g s → SameItems (StateItem G g s) (StateItem G h s)
  same_items s lt =
      let same = graph_same G good g h x y in
      λ p d. (closed_more G (CoreItem g s) (CoreItem h s) (λ p d. (same.items s lt p d).0), closed_more G (CoreItem h s) (CoreItem g s) (λ p d. (same.items s lt p d).1))

  same_looks : (s : ℕ) → IsState g s → SameLooks (StateLook G g s) (StateLook G h s)
  same_looks s lt =
      let same = graph_same G good g h x y in
      λ p d t. (
        closed_look_more G (CoreItem g s) (CoreItem h s) (CoreLook g s) (CoreLook h s) (λ p d. (same.items s lt p d).0) (λ p d t. (same.looks s lt p d t).0),
        closed_look_more G (CoreItem h s) (CoreItem g s) (CoreLook h s) (CoreLook g s) (λ p d. (same.items s lt p d).1) (λ p d t. (same.looks s lt p d t).1),
      )

  pub same_closed : (s : ℕ) (u v : ItemSet) → IsState g s → Is u (StateItem G g s) (StateLook G g s) → Is v (StateItem G h s) (StateLook G h s) → FitsGrammar G u → FitsGrammar G v → u ≡ v
  same_closed s u v lt is other fu fv =
      let alike = alike_is u v (StateItem G g s) (StateItem G h s) (StateLook G g s) (StateLook G h s) (same_items s lt) (same_looks s lt) is other in
      one_set G u v fu fv alike.items alike.looks

pub graph_lists_are_one : GraphListsAreOne
graph_lists_are_one = record {
  cores = λ G g h good x y. same_cores G g h good x y;
  closed = λ G g h good x y. same_closed G g h good x y;
}
