-- Errors as the code finds them, and what is mended there.
use Rattle.std.proofs.Common.{◌≡◌, ◌≢◌, ◌<◌, ◌≤◌, ◌+◌, ◌-◌, ℕ, true, zero, suc, List, [], ◌∷◌, ◌++◌, length, get_or, map, reverse, drop, None, Some, Vec, refl, sym, ap, ◌∙◌, subst, arith, length-append}
use Rattle.std.specs.Prelude.{slice_get}
use Rattle.std.specs.List.{AllByRecursion}
use Rattle.std.specs.declared.alloc.Global.{Global}
use Rattle.std.proofs.lemmas.List.{get_or-map, get_or-reverse, length-map}
use Rattle.cfg_theory.specs.Grammar.{Grammar, WellFormed, start_symbol, end_token}
use Rattle.cfg_theory.specs.Tree.{Tree}
use Rattle.cfg_theory.proofs.Start.{well_formed_start}
use Rattle.lr_theory.specs.Automaton.{Automaton, Safe}
use Rattle.lr_theory.specs.Machine.{Config, start_config}
use Rattle.lr_theory.specs.Repair.{Edit, IsFirstTaken}
use Rattle.lr_theory.specs.OfferedRepairs.{AreRepairs}
use Rattle.lr_theory.proofs.OfferedRepairs.{repairs_are_offered}
use Rattle.lr_theory.proofs.Sound.{start_stands}
use Rattle.state_table.specs.Graphs.{GraphValue}
use Rattle.state_table.specs.TableValues.{TableValue}
use Rattle.state_table.specs.Tables.{automaton_of}
use Rattle.state_table.specs.declared.stidx.StIdx.{StIdx}
use Rattle.parse_trees.specs.Lex.{Lex, lex_at, token_by}
use Rattle.lrpar.specs.Made.{end_from, end_of, made_by}
use Rattle.lrpar.specs.Parsing.{error_of, errors_of}
use Rattle.lrpar.specs.Reducing.{states_of, stack_of, AreStates}
use Rattle.parse_trees.specs.Lexemes.{AreLexemes}
use Rattle.lrpar.specs.Run.{StandFor, AreStacks}
use Rattle.parse_trees.specs.Edits.{edits_of, sequences_of}
use Rattle.lrpar.specs.Taking.{MakesTokens}
use Rattle.lrpar.specs.declared.parse.ErrorFound.{ErrorFound}
use Rattle.parse_trees.specs.declared.parse_repair.RepairStep.{RepairStep}
use Rattle.lrpar.specs.declared.stacks.Stacks.{Stacks}

end_last : {L : Type 0} (lex : L → Lex) (xs : List L) (k e : ℕ) (x : L) → suc k ≡ length xs → Some x ≡ slice_get xs k → end_from lex e xs ≡ (lex x).places.end
end_last lex [] k e x len is = absurd (omega (arith, len))
end_last lex (y ∷ []) zero e x len is = let same : y ≡ x = cc in ap (λ z. (lex z).places.end) same
end_last lex (y ∷ []) (suc k) e x len is = absurd (omega (arith, len))
end_last lex (y ∷ z ∷ ys) zero e x len is = absurd (omega (arith, len))
end_last lex (y ∷ z ∷ ys) (suc k) e x len is = end_last lex (z ∷ ys) k (lex y).places.end x (omega (arith, len)) is

-- the end of a list is that of its last lexeme
pub end_is : {L : Type 0} (lex : L → Lex) (xs : List L) (x : L) → Some x ≡ slice_get xs (length xs - 1) → end_of lex xs ≡ (lex x).places.end
end_is lex [] x is = cc
end_is lex (y ∷ ys) x is =
    let n : length (y ∷ ys) - 1 ≡ length ys = omega arith in
    end_last lex (y ∷ ys) (length ys) 0 x refl (is ∙ ap (slice_get (y ∷ ys)) n)

-- that of no lexemes
pub end_is_nought : {L : Type 0} (lex : L → Lex) (xs : List L) → length xs ≡ 0 → 0 ≡ end_of lex xs
end_is_nought lex [] e = refl
end_is_nought lex (x ∷ xs) e = absurd (omega (arith, e))

-- the last state is the top
pub top_is : {S : Type 0} (number : S → ℕ) (ss : List (StIdx S)) (q : StIdx S) → 0 < length ss → q ≡ get_or ss (length ss - 1) q → number q.0 ≡ get_or (stack_of number ss) 0 0
top_is {S} number ss q lt is =
    let f : StIdx S → ℕ = λ r. number r.0 in
    let len : length (map f ss) ≡ length ss = length-map ss f in
    let at : length (map f ss) - 1 - 0 ≡ length ss - 1 = omega (arith, len) in
    sym (get_or-reverse (map f ss) 0 0 (omega (arith, len, lt)) ∙ ap (λ k. get_or (map f ss) k 0) at ∙ get_or-map f ss (length ss - 1) q 0 (omega (arith, lt)) ∙ ap f (sym is))

-- made lexemes have their tokens
pub makes_tokens : {L : Type 0} (lex : L → Lex) (faulty : ℕ → ℕ → ℕ → L) (top end : ℕ) → ((t start len : ℕ) → t ≤ top → lex (faulty t start len) ≡ lex_at t start len true) → MakesTokens top (token_by lex) (made_by faulty lex end)
makes_tokens lex faulty top end h t xs le = ap (λ l. l.token) (h t _ 0 le)

head_listed : {S : Type 0} (number : S → ℕ) (xs : List (Vec (RepairStep S) Global)) (x : Vec (RepairStep S) Global) (ys : List (RepairStep S)) → Some x ≡ slice_get xs 0 → ys ≡ x.items →
    sequences_of number xs ≡ edits_of number ys ∷ sequences_of number (drop 1 xs)
head_listed number [] x ys is e = cc
head_listed number (z ∷ xs) x ys is e =
    let same : z ≡ x = cc in
    ap (λ l. edits_of number l ∷ sequences_of number xs) (ap (λ w. w.items) same ∙ sym e)

pub none_listed : {S : Type 0} (number : S → ℕ) (xs : List (Vec (RepairStep S) Global)) → None ≡ slice_get xs 0 → sequences_of number xs ≡ []
none_listed number [] is = refl
none_listed number (z ∷ xs) is = cc

-- the first listed sequence is the first that can be taken
pub first_taken : {S L : Type 0} (number : S → ℕ) (G : Grammar) (a : Automaton) (tok : L → ℕ) (make : ℕ → List L → L) (d : Config L) (offered : List (List Edit)) (all xs : List (Vec (RepairStep S) Global))
    (x : Vec (RepairStep S) Global) (ys : List (RepairStep S)) → AreRepairs G a tok make d offered (sequences_of number all) → xs ≡ all → Some x ≡ slice_get xs 0 → ys ≡ x.items → IsFirstTaken G a tok make d offered (edits_of number ys)
first_taken {S} {L} number G a tok make d offered all xs x ys are same is e =
    let listed = ap (sequences_of number) (sym same) ∙ head_listed number xs x ys is e in
    (repairs_are_offered L).first G a tok make d offered (sequences_of number (drop 1 xs)) (edits_of number ys) (subst (AreRepairs G a tok make d offered) listed are)

pub no_end_of : {L : Type 0} (tok : L → ℕ) (e : ℕ) (xs : List L) → ((k : ℕ) (x : L) → slice_get xs k ≡ Some x → tok x < e) → AllByRecursion (λ y. tok y ≢ e) xs
no_end_of tok e [] h = tt
no_end_of tok e (x ∷ xs) h = let lt = h 0 x refl in (λ same. omega (arith, lt, same), no_end_of tok e xs (λ k y s. h (suc k) y s))

-- the stacks of a start stand for the machine's start
pub starts_stand : {S L V : Type 0} (number : S → ℕ) (lex : L → Lex) (G : Grammar) (g : GraphValue) (v : TableValue) (holds : V → List (Tree L) → Type 0) → WellFormed G → Safe G (automaton_of g v) → (lexemes : List L) → AreLexemes G lex lexemes →
    (s : Stacks S V) (values : V) (start : ℕ) → states_of number s.states.items ≡ start ∷ [] → s.values ≡ values → start ≡ g.start → holds values [] → StandFor number lex G g v holds lexemes s (start_config (automaton_of g v) lexemes)
starts_stand {S} {L} {V} number lex G g v holds well_formed safe lexemes are s values start is same begins empty = record {
  states = ap (λ q. q ∷ []) (sym begins) ∙ ap reverse (sym is);
  stands = start_stands L G (automaton_of g v) (token_by lex) safe (start_symbol G) (well_formed_start G well_formed) lexemes (no_end_of (token_by lex) (end_token G) lexemes are.inside);
  held = subst (λ w. holds w []) (sym same) empty;
}

one_state : (v : TableValue) (q : ℕ) → q < v.states → AreStates v (q ∷ [])
one_state v q lt = record { each = λ k r e. at k r e }
  where
    at : (k r : ℕ) → slice_get (q ∷ []) k ≡ Some r → r < v.states
    at zero r e = let same : q ≡ r = cc in subst (λ n. n < v.states) same lt
    at (suc k) r e = cc

-- they are stacks
pub are_begun : {S V : Type 0} (number : S → ℕ) (v : TableValue) (s : Stacks S V) (start : ℕ) → states_of number s.states.items ≡ start ∷ [] → start ≡ v.start → v.start < v.states → AreStacks number v s
are_begun number v s start is same lt = record {
  are_states = subst (AreStates v) (sym is) (one_state v start (subst (λ n. n < v.states) (sym same) lt));
  some = let len = length-map s.states.items (λ q. number q.0) in let one = ap length is in omega (arith, len, one);
}

pub more_errors : {S L : Type 0} (number : S → ℕ) (xs ys : List (ErrorFound S L)) (x : ErrorFound S L) → ys ≡ xs ++ x ∷ [] → errors_of number ys ≡ errors_of number xs ++ error_of number x ∷ []
more_errors {S} {L} number xs ys x e = ap (errors_of number) e ∙ each xs
  where
    each : (zs : List (ErrorFound S L)) → errors_of number (zs ++ x ∷ []) ≡ errors_of number zs ++ error_of number x ∷ []
    each [] = refl
    each (z ∷ zs) = ap (λ l. error_of number z ∷ l) (each zs)

-- one error more, and less is left of what may come
pub fewer_left : {S L : Type 0} (number : S → ℕ) (n : ℕ) (xs ys : List (ErrorFound S L)) (x : ErrorFound S L) → length (errors_of number xs) ≤ n → ys ≡ xs ++ x ∷ [] → n + 1 - length ys < n + 1 - length xs
fewer_left number n xs ys x few e =
    let same : length (errors_of number xs) ≡ length xs = length-map xs (error_of number) in
    let long : length (xs ++ x ∷ []) ≡ length xs + 1 = length-append xs (x ∷ []) in
    let whole = ap length e in
    omega (arith, few, same, long, whole)
