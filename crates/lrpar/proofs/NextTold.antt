-- What is told of the tokens that may come next, loop by loop, and what it is of data.
use Rattle.std.proofs.Common.{◌≡◌, ◌↔◌, ℕ, zero, suc, ◌+◌, ◌<◌, Bool, true, false, List, [], ◌∷◌, ◌++◌, length, map, take, drop, replicate, reverse, get_or, Option, None, Some, refl, sym, ap, ◌∙◌, subst, arith, ⊎_elim}
use Rattle.std.specs.Prelude.{slice_get, slice_set, IfSome, IsNone, IsSome}
use Rattle.std.proofs.lemmas.Bool.{cases_lt}
use Rattle.std.proofs.lemmas.Option.{same_Some}
use Rattle.std.proofs.lemmas.List.{append-nil, length-replicate}
use Rattle.cfg_theory.specs.Derivation.{AllProductive, BeginsSentence, IsSentence}
use Rattle.cfg_theory.specs.Grammar.{Grammar, HasStart, WellFormed, end_token, start_symbol}
use Rattle.cfg_theory.proofs.Start.{well_formed_start}
use Rattle.cfg_numbered.specs.Value.{GrammarValue}
use Rattle.lr_theory.specs.Automaton.{Automaton, Complete, Safe}
use Rattle.lr_theory.specs.Chains.{ChainsWithin}
use Rattle.lr_theory.specs.ErrorPlaces.{IsReady}
use Rattle.lr_theory.specs.Machine.{Config, start_config}
use Rattle.lr_theory.specs.Table.{IsAutomatonOf}
use Rattle.lr_theory.proofs.TableLaws.{automaton_is_safe}
use Rattle.table_theory.proofs.TableCells.{built_law}
use Rattle.state_table.specs.CellViews.{precedences_of}
use Rattle.state_table.specs.Graphs.{GraphValue}
use Rattle.state_table.specs.TableValues.{TableValue}
use Rattle.state_table.specs.Tables.{IsTableOf, automaton_of}
use Rattle.vob.specs.Packed.{Contents}
use Rattle.lrpar.specs.declared.overlay.Overlay.{Overlay}
use Rattle.lrpar.specs.NextStates.{AreInside, TellsNext, TellBelow, TellsAfter}
use Rattle.lrpar.specs.NextTokens.{Reaches, HasError, IsSet}
use Rattle.state_table.specs.declared.stidx.StIdx.{StIdx}
use Rattle.lrpar.specs.Reducing.{AreStates, IsTableFor, states_of, stack_of}
use Rattle.lrpar.specs.Replay.{overlaid, ShiftsTo, ShiftsNot, TellsShift}
use Rattle.lrpar.proofs.CarriedItems.{set_length}
use Rattle.lrpar.proofs.NextFacts.{begin_none, begin_one, exact_end_on, exact_on, no_end_of, sound_end_on, sound_on}
use Rattle.lrpar.proofs.NextRuns.{are_next, at_start, failed_there, shifted_one, stands_there}
use Rattle.parse_trees.proofs.ListsAt.{drop_at}

take_nothing : (k : ℕ) → take {A = ℕ} k [] ≡ []
take_nothing zero = refl
take_nothing (suc k) = refl

-- an overlay over nothing
pub over_nothing : {S : Type 0} (number : S → ℕ) (o : Overlay S) → overlaid number [] o ≡ stack_of number o.over.items
over_nothing number o = ap (λ l. stack_of number o.over.items ++ reverse l) (take_nothing o.kept) ∙ append-nil (stack_of number o.over.items)

-- an overlay of one state
pub over_one : {S : Type 0} (number : S → ℕ) (base : List (StIdx S)) (o : Overlay S) (q : StIdx S) → o.kept ≡ 0 → o.over.items ≡ q ∷ [] → overlaid number base o ≡ number q.0 ∷ []
over_one number base o q none e = ap (λ l. reverse (states_of number l) ++ reverse (take o.kept (states_of number base))) e ∙ ap (λ n. reverse (number q.0 ∷ []) ++ reverse (take n (states_of number base))) none

pub one_state : (v : TableValue) (q : ℕ) → q < v.states → AreStates v (q ∷ [])
one_state v q lt = record { each = each }
  where
    each : (k r : ℕ) → slice_get (q ∷ []) k ≡ Some r → r < v.states
    each zero r e = subst (λ n. n < v.states) (same_Some q r e) lt
    each (suc k) r e = cc

-- lexemes of tokens other than the end, as far as they were looked at
abbrev pub InsideBelow : {L : Type 0} → ℕ → (L → ℕ) → List L → ℕ → Type 0
InsideBelow {L} end tok lexemes n = (k : ℕ) (y : L) → k < n → slice_get lexemes k ≡ Some y → tok y < end

pub inside_more : {L : Type 0} (end : ℕ) (tok : L → ℕ) (lexemes : List L) (n : ℕ) (x : L) → slice_get lexemes n ≡ Some x → tok x < end → InsideBelow end tok lexemes n → InsideBelow end tok lexemes (n + 1)
inside_more end tok lexemes n x at lt below k y less e = ⊎_elim
    (λ small. below k y small e)
    (λ ge. let same : k ≡ n = omega (arith, less, ge) in subst (λ z. tok z < end) (same_Some x y (sym at ∙ subst (λ j. slice_get lexemes j ≡ Some y) same e)) lt)
    (cases_lt k n)

-- right before the k-th lexeme of the run these are the states
abbrev pub ComesWith : {L : Type 0} → Grammar → TableValue → (L → ℕ) → List L → ℕ → List ℕ → Type 0
ComesWith {L} G v tok lexemes k ss = (x : GraphValue) → Safe G (automaton_of x v) → v.start ≡ x.start → (c : Config L) × Reaches G (automaton_of x v) tok lexemes (drop k lexemes) c × (c.states ≡ ss)

module _ {L : Type 0} (G : Grammar) (v : TableValue) (tok : L → ℕ) (lexemes : List L) where
  pub comes_first : (ss : List ℕ) → ss ≡ v.start ∷ [] → ComesWith G v tok lexemes 0 ss
  comes_first ss e = λ x safe same. (start_config (automaton_of x v) lexemes, at_start L G (automaton_of x v) tok lexemes, ap (λ s. s ∷ []) (sym same) ∙ sym e)

module _ {L : Type 0} (G : Grammar) (v : TableValue) (tok : L → ℕ) (table : IsTableFor G v) (lexemes : List L) (inside : AreInside G tok lexemes) where
  start : HasStart G (start_symbol G)
  start = well_formed_start G table.well_formed

  module _ (k t : ℕ) (y : L) (ss ss' : List ℕ) (so : ComesWith G v tok lexemes k ss) (at : slice_get lexemes k ≡ Some y) (is : t ≡ tok y) where
    here : (x : GraphValue) (safe : Safe G (automaton_of x v)) (same : v.start ≡ x.start) → (c : Config L) × Reaches G (automaton_of x v) tok lexemes (y ∷ drop (k + 1) lexemes) c × (c.states ≡ ss)
    here x safe same =
        let h = so x safe same in
        (h.0, subst (λ l. Reaches G (automaton_of x v) tok lexemes l h.0) (drop_at lexemes k y at) h.1, h.2)

    pub comes_on : ((x : GraphValue) → TellsShift G (automaton_of x v) t ss ss' true) → ComesWith G v tok lexemes (k + 1) ss'
    comes_on shifts = λ x safe same.
        let a = automaton_of x v in
        let h = here x safe same in
        shifted_one L G a tok (start_symbol G) safe start lexemes (no_end_of G tok lexemes inside) y (drop (k + 1) lexemes) h.0 h.1 ss' (subst (λ u. ShiftsTo G a u h.0.states ss') is (subst (λ l. ShiftsTo G a t l ss') (sym h.2) (shifts x)))

    pub stops_here : ((x : GraphValue) → TellsShift G (automaton_of x v) t ss ss' false) → (x : GraphValue) → Safe G (automaton_of x v) → v.start ≡ x.start → HasError G (automaton_of x v) tok lexemes
    stops_here shifts = λ x safe same.
        let a = automaton_of x v in
        let h = here x safe same in
        failed_there L G a tok (start_symbol G) safe start lexemes (no_end_of G tok lexemes inside) y (drop (k + 1) lexemes) h.0 h.1 (subst (λ u. ShiftsNot G a u h.0.states) is (subst (λ l. ShiftsNot G a t l) (sym h.2) (shifts x)))

  -- the bits told of the states at the end
  pub after_all : (make : ℕ → List L → L) (x : GraphValue) (ss : List ℕ) (b : Contents) → Safe G (automaton_of x v) → (c : Config L) × Reaches G (automaton_of x v) tok lexemes [] c × (c.states ≡ ss) → TellBelow G (automaton_of x v) ss G.tokens b.bits → TellsAfter G (automaton_of x v) tok lexemes (Some b)
  after_all make x ss b safe h told =
      let a = automaton_of x v in
      let stands = stands_there L G a tok (start_symbol G) safe start lexemes (no_end_of G tok lexemes inside) [] h.0 h.1 in
      (inside, h.0, h.1, are_next L G a tok (start_symbol G) safe start lexemes h.0 stands make b.bits table.well_formed.end_token (subst (λ l. TellBelow G a l G.tokens b.bits) (sym h.2) told))

-- bits that are set one after another
get_set : (bits : List Bool) (n : ℕ) (b : Bool) → n < length bits → get_or (slice_set bits n b) n false ≡ b
get_set [] n b lt = absurd (omega (arith, lt))
get_set (x ∷ bits) zero b lt = refl
get_set (x ∷ bits) (suc n) b lt = get_set bits n b (omega (arith, lt))

get_other : (bits : List Bool) (n t : ℕ) (b : Bool) → t < n → get_or (slice_set bits n b) t false ≡ get_or bits t false
get_other [] n t b lt = refl
get_other (x ∷ bits) zero t b lt = absurd (omega (arith, lt))
get_other (x ∷ bits) (suc n) zero b lt = refl
get_other (x ∷ bits) (suc n) (suc t) b lt = get_other bits n t b (omega (arith, lt))

module _ (G : Grammar) (a : Automaton) (ss : List ℕ) where
  pub told_none : (n : ℕ) (bits : List Bool) → n ≡ G.tokens → bits ≡ replicate n false → TellBelow G a ss 0 bits
  told_none n bits e is = record { count = ap length is ∙ length-replicate n false ∙ e; each = λ t lt. absurd (omega (arith, lt)) }

  pub told_more : (n : ℕ) (bits bits' : List Bool) (b : Bool) → n < G.tokens → bits' ≡ slice_set bits n b → TellsNext G a n ss b → TellBelow G a ss n bits → TellBelow G a ss (n + 1) bits'
  told_more n bits bits' b lt is next h =
      let within : n < length bits = let e = h.count in omega (arith, lt, e) in
      subst (TellBelow G a ss (n + 1)) (sym is) (record {
        count = set_length bits n b ∙ h.count;
        each = λ t less. ⊎_elim
            (λ before. subst (TellsNext G a t ss) (sym (get_other bits n t b before)) (h.each t before))
            (λ ge. let e : n ≡ t = omega (arith, less, ge) in subst (λ k. TellsNext G a k ss (get_or (slice_set bits n b) k false)) e (subst (TellsNext G a n ss) (sym (get_set bits n b within)) next))
            (cases_lt t n);
      })

-- what follows of data
module _ {L : Type 0} (v : GrammarValue) (g : GraphValue) (t : TableValue) (tok : L → ℕ) (good : WellFormed v.grammar) (safe : Safe v.grammar (automaton_of g t)) (lexemes : List L) where
  abbrev G : Grammar
  G = v.grammar

  abbrev a : Automaton
  a = automaton_of g t

  has_start : HasStart G (start_symbol G)
  has_start = well_formed_start G good

  pub tells_none : (o : Option Contents) → TellsAfter G a tok lexemes o → IsNone o → HasError G a tok lexemes
  tells_none None h e = h
  tells_none (Some b) h e = cc e

  pub tells_sound_end : (o : Option Contents) → TellsAfter G a tok lexemes o → IfSome o (λ b. IsSet b.bits (end_token G) → IsSentence G (start_symbol G) (map tok lexemes))
  tells_sound_end None h = tt
  tells_sound_end (Some b) h = sound_end_on L G a tok (start_symbol G) safe has_start lexemes (no_end_of G tok lexemes h.0) h.1 h.2 b.bits h.3

  module _ (is : IsTableOf v g t) where
    of_grammar : IsAutomatonOf G a
    of_grammar = built_law.automaton G (precedences_of v) a good is.built

    ready : Complete G a → IsReady G a (start_symbol G)
    ready complete = record { safe = safe; closed = automaton_is_safe.closed G a good of_grammar; complete = complete; has_start = has_start }

  module _ (lexeme : (k : ℕ) → k < end_token G → (y : L) × (tok y ≡ k)) where
    pub tells_sound : (o : Option Contents) → TellsAfter G a tok lexemes o → IfSome o (λ b. IsTableOf v g t → AllProductive G → (k : ℕ) → k < end_token G → IsSet b.bits k → BeginsSentence G (start_symbol G) (map tok lexemes ++ k ∷ []))
    tells_sound None h = tt
    tells_sound (Some b) h = λ is productive k lt.
        let y = lexeme k lt in
        sound_on L G a tok (start_symbol G) safe has_start lexemes (no_end_of G tok lexemes h.0) h.1 h.2 b.bits h.3 y.0 k y.1 lt (automaton_is_safe.present G a good (of_grammar is)) productive

    module _ (cap : ℕ) (chains : ChainsWithin G a cap) where
      pub tells_exact : (o : Option Contents) → TellsAfter G a tok lexemes o → IfSome o (λ b. IsTableOf v g t → Complete G a → AllProductive G → (k : ℕ) → k < end_token G → IsSet b.bits k ↔ BeginsSentence G (start_symbol G) (map tok lexemes ++ k ∷ []))
      tells_exact None h = tt
      tells_exact (Some b) h = λ is complete productive k lt.
          let y = lexeme k lt in
          exact_on L G a tok (start_symbol G) safe has_start lexemes (no_end_of G tok lexemes h.0) h.1 h.2 b.bits h.3 y.0 k y.1 lt cap (ready is complete) chains (automaton_is_safe.present G a good (of_grammar is)) productive

      pub tells_exact_end : (o : Option Contents) → TellsAfter G a tok lexemes o → IfSome o (λ b. IsTableOf v g t → Complete G a → AllProductive G → IsSet b.bits (end_token G) ↔ IsSentence G (start_symbol G) (map tok lexemes))
      tells_exact_end None h = tt
      tells_exact_end (Some b) h = λ is complete productive.
          exact_end_on L G a tok (start_symbol G) safe has_start lexemes (no_end_of G tok lexemes h.0) h.1 h.2 b.bits h.3 cap (ready is complete) chains (automaton_is_safe.present G a good (of_grammar is)) productive

  pub tells_begins : (o : Option Contents) → TellsAfter G a tok lexemes o → IsTableOf v g t → Complete G a → AllProductive G → IsSome o ↔ BeginsSentence G (start_symbol G) (map tok lexemes)
  tells_begins None h = λ is complete productive. (λ e. cc e, λ b. absurd (begin_none L G a tok good lexemes (ready is complete) h b))
  tells_begins (Some b) h = λ is complete productive. (
    λ e. begin_one L G a tok (start_symbol G) safe has_start lexemes (no_end_of G tok lexemes h.0) h.1 h.2 b.bits h.3 (automaton_is_safe.present G a good (of_grammar is)) productive,
    λ s. refl,
  )
