-- Edits of a sequence put on the stacks one after another.
use Rattle.std.proofs.Common.{◌≡◌, ◌≢◌, ℕ, zero, suc, ◌+◌, ◌<◌, ◌≤◌, List, [], ◌∷◌, ◌++◌, length, drop, Some, refl, sym, ap, ◌∙◌, subst, arith, ⊎_elim, inr}
use Rattle.std.specs.Prelude.{slice_get}
use Rattle.std.specs.List.{AllByRecursion}
use Rattle.std.proofs.lemmas.Bool.{cases_lt}
use Rattle.std.proofs.lemmas.List.{length-append, drop_all}
use Rattle.cfg_theory.specs.Grammar.{Grammar, end_token}
use Rattle.cfg_theory.specs.Tree.{Tree}
use Rattle.lr_theory.specs.Automaton.{Automaton, error}
use Rattle.lr_theory.specs.Machine.{Config, failed, next_or, act, step_on}
use Rattle.lr_theory.specs.Stack.{IsPath, stack_yield}
use Rattle.lr_theory.specs.Repair.{Edit, insert, delete, keep, apply, with_rest, Takes}
use Rattle.lr_theory.proofs.Repair.{stands_on, later}
use Rattle.lr_theory.proofs.RunTermination.{run_append}
use Rattle.state_table.specs.Graphs.{GraphValue}
use Rattle.state_table.specs.TableValues.{TableValue}
use Rattle.state_table.specs.Tables.{automaton_of}
use Rattle.parse_trees.specs.Lex.{Lex, token_by}
use Rattle.lrpar.specs.Reducing.{IsTableFor}
use Rattle.lrpar.specs.Run.{StandFor, GoesOn}
use Rattle.parse_trees.specs.Edits.{edit_of, edits_of}
use Rattle.lrpar.specs.Applied.{FailsPast, OnWay, GoesOnWay, IsApplied}
use Rattle.lrpar.specs.declared.stacks.Stacks.{Stacks}
use Rattle.parse_trees.specs.declared.parse_repair.RepairStep.{RepairStep}
use Rattle.lrpar.proofs.Turning.{one_step}
use Rattle.lrpar.proofs.Taken.{puts_first}

some_pair : {L : Type 0} (p q : List L × List L) → Some p ≡ Some q → p ≡ q
some_pair p q e = cc

-- an edit that takes the next lexeme asks for one
pub keeps_one : {L : Type 0} (make : ℕ → List L → L) (es : List Edit) (xs : List L) (k : ℕ) (r : List L × List L) → apply make (keep ∷ es) (drop k xs) ≡ Some r → k < length xs
keeps_one make es xs k r e =
    ⊎_elim
    (λ lt. lt)
    (λ le. absurd (by (ap (apply make (keep ∷ es)) (sym (drop_all k xs le)) ∙ e)))
    (cases_lt k (length xs))
  where
    by : apply make (keep ∷ es) [] ≡ Some r → ⊥
    by h = cc

pub deletes_one : {L : Type 0} (make : ℕ → List L → L) (es : List Edit) (xs : List L) (k : ℕ) (r : List L × List L) → apply make (delete ∷ es) (drop k xs) ≡ Some r → k < length xs
deletes_one make es xs k r e =
    ⊎_elim
    (λ lt. lt)
    (λ le. absurd (by (ap (apply make (delete ∷ es)) (sym (drop_all k xs le)) ∙ e)))
    (cases_lt k (length xs))
  where
    by : apply make (delete ∷ es) [] ≡ Some r → ⊥
    by h = cc

pub lexeme_in : {L : Type 0} (xs : List L) (k : ℕ) → k < length xs → (y : L) × (slice_get xs k ≡ Some y) × (drop k xs ≡ y ∷ drop (k + 1) xs)
lexeme_in [] k lt = absurd (omega arith)
lexeme_in (x ∷ xs) zero lt = (x, refl, refl)
lexeme_in (x ∷ xs) (suc k) lt =
    let h = lexeme_in xs k (omega arith) in
    let n : suc k + 1 ≡ suc (k + 1) = omega arith in
    (h.0, h.1, h.2 ∙ ap (λ j. h.0 ∷ drop j (x ∷ xs)) (sym n))

module _ {L : Type 0} (G : Grammar) (a : Automaton) (tok : L → ℕ) where
  -- where the cell of the next lexeme is an error the machine fails at it
  fails_on : (ss : List ℕ) (zs : List _) (ts : List (Tree L)) (xs : List L) (y : L) (ys : List L) → IsPath a ss zs → xs ≡ y ∷ ys → ((q : ℕ) → a.action q (tok y) ≡ error) → step_on G a tok ss ts xs ≡ failed (record { states = ss; trees = ts; rest = xs })
  fails_on [] zs ts xs y ys path is none = absurd path
  fails_on (q ∷ ss) zs ts xs y ys path is none =
      ap (λ l. act G a (a.action q (next_or tok (end_token G) l)) (q ∷ ss) ts xs) is ∙ ap (λ k. act G a k (q ∷ ss) ts xs) (none q)

module _ {S L V : Type 0} (number : S → ℕ) (lex : L → Lex) (G : Grammar) (g : GraphValue) (v : TableValue) (holds : V → List (Tree L) → Type 0) (make : ℕ → List L → L) (input : List L) where
  -- the next lexeme is the one that the first edit puts
  pub record Ahead (c : Config L) (y : L) (lexemes : List L) (es : List Edit) (left : List L) : Type 0 where
    pub further : List L
    pub applied : apply make es lexemes ≡ Some (further, left)
    pub rest_is : c.rest ≡ y ∷ (further ++ left)

  module _ (c : Config L) (s : Stacks S V) (lexemes left : List L) where
    pub ahead_made : (t : ℕ) (y : L) (es : List Edit) → y ≡ make t lexemes → OnWay number lex G g v holds make input c s lexemes (insert t ∷ es) left → Ahead c y lexemes es left
    ahead_made t y es is w =
        let p = puts_first (make t lexemes) (apply make es lexemes) w.put left w.applied in
        record { further = p.further; applied = p.applied; rest_is = w.rest_is ∙ ap (λ l. l ++ left) p.put_is ∙ ap (λ z. z ∷ (p.further ++ left)) (sym is) }

    pub ahead_kept : (y : L) (ys : List L) (es : List Edit) → lexemes ≡ y ∷ ys → OnWay number lex G g v holds make input c s lexemes (keep ∷ es) left → Ahead c y ys es left
    ahead_kept y ys es is w =
        let p = puts_first y (apply make es ys) w.put left (sym (ap (apply make (keep ∷ es)) is) ∙ w.applied) in
        record { further = p.further; applied = p.applied; rest_is = w.rest_is ∙ ap (λ l. l ++ left) p.put_is }

    -- a lexeme that is deleted
    pub way_deleted : (y : L) (ys : List L) (es : List Edit) → lexemes ≡ y ∷ ys → OnWay number lex G g v holds make input c s lexemes (delete ∷ es) left → GoesOnWay number lex G g v holds make input c s ys es left
    way_deleted y ys es is w = (0, c, refl, record { stand = w.stand; put = w.put; applied = sym (ap (apply make (delete ∷ es)) is) ∙ w.applied; rest_is = w.rest_is; past = w.past })

  module _ (c : Config L) (y : L) (lexemes : List L) (es : List Edit) (left : List L) (h : Ahead c y lexemes es left) where
    pub next_is_it : c.rest ≡ y ∷ drop 1 c.rest
    next_is_it = h.rest_is ∙ ap (λ l. y ∷ drop 1 l) (sym h.rest_is)

    pub past_it : FailsPast lex G g v c left → FailsPast lex G g v c c.rest
    past_it past m e r =
        let lt = past m e r in
        let len = ap length h.rest_is in
        let more = length-append h.further left in
        omega (arith, lt, len, more)

    -- a lexeme that is put
    pub way_put : (s' : Stacks S V) → FailsPast lex G g v c left → (n : ℕ) × GoesOn number lex G g v holds input n c s' (drop 1 c.rest) → GoesOnWay number lex G g v holds make input c s' lexemes es left
    way_put s' past k = (
      k.0,
      k.1.config,
      k.1.goes,
      record {
        stand = k.1.stand;
        put = h.further;
        applied = h.applied;
        rest_is = k.1.rest_is ∙ ap (drop 1) h.rest_is;
        past = λ m e r. past (k.0 + m) e (run_append L G (automaton_of g v) (token_by lex) k.0 m c k.1.config k.1.goes ∙ r);
      },
    )

    -- its token is one of the grammar other than the end
    pub it_is_inside : IsTableFor G v → (s : Stacks S V) → StandFor number lex G g v holds input s c → FailsPast lex G g v c c.rest → (lex y).token < end_token G
    it_is_inside table s stand past =
        let some = table.well_formed.end_token in
        let tokens = table.tokens in
        let other : AllByRecursion (λ x. token_by lex x ≢ end_token G) (y ∷ (h.further ++ left)) = subst (AllByRecursion (λ x. token_by lex x ≢ end_token G)) h.rest_is stand.stands.no_end in
        ⊎_elim
        (λ lt. before (lex y).token (end_token G) (omega (arith, lt, some, tokens)) other.0)
        (λ le.
        let on = fails_on G (automaton_of g v) (token_by lex) c.states _ c.trees c.rest y (h.further ++ left) stand.stands.path h.rest_is (λ q. table.is_table.no_action q (lex y).token (inr le)) in
        let lt = past 1 c (one_step G (automaton_of g v) (token_by lex) c ∙ on) in
        absurd (omega (arith, lt)))
        (cases_lt (lex y).token v.tokens)
      where
        before : (m n : ℕ) → m ≤ n → m ≢ n → m < n
        before m n le ne = ⊎_elim (λ lt. lt) (λ ge. absurd (ne (omega (arith, le, ge)))) (cases_lt m n)

  -- the start of a sequence that can be taken
  pub way_begun : (d : Config L) (s : Stacks S V) (es : List Edit) (xs : List L) → StandFor number lex G g v holds input s d → d.rest ≡ xs → (k : Takes G (automaton_of g v) (token_by lex) make d es) →
      OnWay number lex G g v holds make (stack_yield d.trees ++ (k.put ++ k.left)) (with_rest d (k.put ++ k.left)) s xs es k.left
  way_begun d s es xs stand is k = record {
    stand = record { states = stand.states; stands = stands_on L G (automaton_of g v) (token_by lex) make (λ c. []) input d es k stand.stands; held = stand.held };
    put = k.put;
    applied = ap (apply make es) (sym is) ∙ k.applied;
    rest_is = refl;
    past = λ m e r. later L G (automaton_of g v) (token_by lex) make (λ c. []) m d e k.put k.left k.gets_past r;
  }

  -- and its end
  pub way_ended : (d : Config L) (s : Stacks S V) (es : List Edit) (xs : List L) (k : Takes G (automaton_of g v) (token_by lex) make d es) →
      GoesOnWay number lex G g v holds make (stack_yield d.trees ++ (k.put ++ k.left)) (with_rest d (k.put ++ k.left)) s xs [] k.left → IsApplied number lex G g v holds make d es k s xs
  way_ended d s es xs k w =
      let same : ([], xs) ≡ (w.3.put, k.left) = some_pair ([], xs) (w.3.put, k.left) w.3.applied in
      record {
        left_is = sym (ap (λ u. u.1) same);
        steps = w.0;
        goes = record { config = w.1; goes = w.2; stand = w.3.stand; rest_is = w.3.rest_is ∙ ap (λ l. l ++ k.left) (sym (ap (λ u. u.0) same)) };
        past = w.3.past;
      }

  pub way_named : (d : Config L) (s : Stacks S V) (xs : List L) (es fs : List Edit) (left : List L) → es ≡ fs → GoesOnWay number lex G g v holds make input d s xs es left → GoesOnWay number lex G g v holds make input d s xs fs left
  way_named d s xs es fs left e w = subst (λ l. GoesOnWay number lex G g v holds make input d s xs l left) e w

  -- one more edit
  pub way_on : (d : Config L) (s s' : Stacks S V) (xs ys : List L) (es fs : List Edit) (left : List L) (w : GoesOnWay number lex G g v holds make input d s xs es left) →
      GoesOnWay number lex G g v holds make input w.1 s' ys fs left → GoesOnWay number lex G g v holds make input d s' ys fs left
  way_on d s s' xs ys es fs left w j = (w.0 + j.0, j.1, run_append L G (automaton_of g v) (token_by lex) w.0 j.0 d w.1 w.2 ∙ j.2, j.3)

pub edits_from : {S : Type 0} (number : S → ℕ) (steps : List (RepairStep S)) (k : ℕ) (x : RepairStep S) → slice_get steps k ≡ Some x → edits_of number (drop k steps) ≡ edit_of number x ∷ edits_of number (drop (k + 1) steps)
edits_from number [] k x e = cc
edits_from number (y ∷ steps) zero x e =
    let same : y ≡ x = cc in
    ap (λ z. edit_of number z ∷ edits_of number steps) same
edits_from number (y ∷ steps) (suc k) x e =
    let n : suc k + 1 ≡ suc (k + 1) = omega arith in
    edits_from number steps k x e ∙ ap (λ j. edit_of number x ∷ edits_of number (drop j (y ∷ steps))) (sym n)
