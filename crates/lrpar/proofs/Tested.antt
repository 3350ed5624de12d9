-- What is told of edits and of sequences from each configuration that stands with the same states and lexemes.
use Rattle.std.proofs.Common.{◌≡◌, ℕ, zero, suc, ◌+◌, ◌<◌, ◌≤◌, Bool, true, false, List, [], ◌∷◌, ◌++◌, length, take, drop, reverse, Some, None, refl, sym, ap, ◌∙◌, subst, arith, inr, ⊎_elim}
use Rattle.std.proofs.lemmas.Bool.{cases_lt}
use Rattle.std.proofs.lemmas.List.{take_all, length-map, length-reverse}
use Rattle.cfg_theory.specs.Grammar.{end_token, Grammar, HasStart, start_symbol}
use Rattle.cfg_theory.proofs.Start.{well_formed_start}
use Rattle.lr_theory.specs.Automaton.{Safe, error}
use Rattle.lr_theory.specs.Machine.{Config}
use Rattle.lr_theory.specs.Stack.{Stands}
use Rattle.lr_theory.specs.Repair.{Edit, insert, delete, keep}
use Rattle.state_table.specs.Graphs.{GraphValue}
use Rattle.state_table.specs.TableValues.{TableValue}
use Rattle.state_table.specs.Tables.{automaton_of}
use Rattle.state_table.specs.declared.stidx.StIdx.{StIdx}
use Rattle.lrpar.specs.declared.overlay.Overlay.{Overlay}
use Rattle.lrpar.specs.Reducing.{IsTableFor, states_of, stack_of}
use Rattle.lrpar.specs.Replay.{overlaid, action_on, none, Rests, ShiftsTo, ShiftsNot, TellsShift, TellsAccept}
use Rattle.lrpar.specs.Taking.{MakesTokens, TakesOn, StepTells, SequenceTells, EditsAreTaken}
use Rattle.lrpar.proofs.Overlays.{reduction_on}
use Rattle.lrpar.proofs.Taken.{edits_are_taken}

-- the lexeme at an index and those behind it
pub drop_next : {X : Type 0} (xs : List X) (k : ℕ) → k < length xs → (x : X) × (drop k xs ≡ x ∷ drop (k + 1) xs)
drop_next [] k lt = absurd (omega arith)
drop_next (x ∷ xs) zero lt = (x, refl)
drop_next (x ∷ xs) (suc k) lt =
    let r = drop_next xs k (omega (arith, lt)) in
    let n : suc (k + 1) ≡ suc k + 1 = omega arith in
    (r.0, r.1 ∙ ap (λ j. r.0 ∷ drop j (x ∷ xs)) n)

-- from each configuration that stands with these states and lexemes left the sequence fs is taken, behind it, exactly where es is
abbrev pub Follows : {L : Type 0} → ℕ → Grammar → TableValue → (L → ℕ) → List Edit → List ℕ → List L → List Edit → List ℕ → List L → Type 0
Follows {L} top G v tok es ss rest fs ss' rest' = (g : GraphValue) (make : ℕ → List L → L) (input : List L) (d : Config L) → Safe G (automaton_of g v) → MakesTokens top tok make → Stands G (automaton_of g v) tok input d → d.states ≡ ss → d.rest ≡ rest →
    TakesOn G (automaton_of g v) tok make d es ss' rest' fs

-- an overlay that keeps all of its base stands for the base
pub whole_base : {S : Type 0} (number : S → ℕ) (base : List (StIdx S)) (o : Overlay S) → o.kept ≡ length base → o.over.items ≡ [] → overlaid number base o ≡ stack_of number base
whole_base number base o kept empty =
    let len = length-map base (λ q. number q.0) in
    ap (λ l. reverse (states_of number l) ++ reverse (take o.kept (states_of number base))) empty ∙ ap reverse (take_all o.kept (states_of number base) (omega (arith, len, kept)))

pub whole_some : {S : Type 0} (number : S → ℕ) (base : List (StIdx S)) → 0 < length base → 0 < length (stack_of number base)
whole_some number base lt = omega (arith, lt, length-reverse (states_of number base), length-map base (λ q. number q.0))

module _ {L : Type 0} (top : ℕ) (G : Grammar) (v : TableValue) (tok : L → ℕ) (table : IsTableFor G v) where
  laws : EditsAreTaken L
  laws = edits_are_taken L

  start : HasStart G (start_symbol G)
  start = well_formed_start G table.well_formed

  -- on a token past the table's the cells are errors
  past_error : (g : GraphValue) (t : ℕ) (ss : List ℕ) → v.tokens ≤ t → action_on (automaton_of g v) t ss ≡ error
  past_error g t [] le = refl
  past_error g t (s ∷ ss) le = table.is_table.no_action s t (inr le)

  past_not : (g : GraphValue) (t : ℕ) (ss : List ℕ) → v.tokens ≤ t → ShiftsNot G (automaton_of g v) t ss
  past_not g t ss le =
      let e = past_error g t ss le in
      record {
        reduced = ss;
        rests = record { leads = none; last = reduction_on G (automaton_of g v) t ss error e };
        cell = λ q h. cc (sym e ∙ h);
      }

  -- insertions
  pub insert_tells : (t index : ℕ) (ss ss' : List ℕ) (lexemes : List L) → t ≤ top → t < end_token G → ((g : GraphValue) → ShiftsTo G (automaton_of g v) t ss ss') → StepTells top G v tok (insert t) ss (drop index lexemes) ss' lexemes (Some index)
  insert_tells t index ss ss' lexemes fits lt shifts = λ g make input d safe makes stands states rest es.
      subst (λ l. TakesOn G (automaton_of g v) tok make d (insert t ∷ es) ss' l es) rest
      (laws.inserted G (automaton_of g v) tok (start_symbol G) make input d t ss' es safe start stands (makes t d.rest fits) (λ e. omega (arith, lt, e)) (subst (λ l. ShiftsTo G (automaton_of g v) t l ss') (sym states) (shifts g)))

  pub insert_tells_not : (t : ℕ) (ss ss' : List ℕ) (rest lexemes : List L) → t ≤ top → t < end_token G → ((g : GraphValue) → ShiftsNot G (automaton_of g v) t ss) → StepTells top G v tok (insert t) ss rest ss' lexemes None
  insert_tells_not t ss ss' rest lexemes fits lt shifts = λ g make input d safe makes stands states is es.
      laws.inserted_not G (automaton_of g v) tok (start_symbol G) make input d t es safe start stands (makes t d.rest fits) (λ e. omega (arith, lt, e)) (subst (ShiftsNot G (automaton_of g v) t) (sym states) (shifts g))

  pub insert_tells_past : (t : ℕ) (ss ss' : List ℕ) (rest lexemes : List L) → t ≤ top → end_token G ≤ t → StepTells top G v tok (insert t) ss rest ss' lexemes None
  insert_tells_past t ss ss' rest lexemes fits le = λ g make input d safe makes stands states is es.
      let some = table.well_formed.end_token in
      let same = table.tokens in
      ⊎_elim
      (λ lt. laws.inserted_not G (automaton_of g v) tok (start_symbol G) make input d t es safe start stands (makes t d.rest fits) (λ e. omega (arith, lt, e)) (past_not g t d.states (omega (arith, lt, some, same))))
      (λ ge. laws.end_not G (automaton_of g v) tok (start_symbol G) make input d t es safe start stands (makes t d.rest fits) (omega (arith, le, ge)))
      (cases_lt (end_token G) t)

  -- a lexeme that is kept
  pub keep_tells : (y : L) (t index : ℕ) (ss ss' : List ℕ) (lexemes : List L) → t ≡ tok y → drop index lexemes ≡ y ∷ drop (index + 1) lexemes → ((g : GraphValue) → ShiftsTo G (automaton_of g v) t ss ss') → StepTells top G v tok keep ss (drop index lexemes) ss' lexemes (Some (index + 1))
  keep_tells y t index ss ss' lexemes is next shifts = λ g make input d safe makes stands states rest es.
      laws.kept_one G (automaton_of g v) tok (start_symbol G) make input d y (drop (index + 1) lexemes) ss' es safe start stands (rest ∙ next) (subst (λ u. ShiftsTo G (automaton_of g v) u d.states ss') is (subst (λ l. ShiftsTo G (automaton_of g v) t l ss') (sym states) (shifts g)))

  pub keep_tells_not : (y : L) (ys : List L) (t : ℕ) (ss ss' : List ℕ) (rest lexemes : List L) → t ≡ tok y → rest ≡ y ∷ ys → ((g : GraphValue) → ShiftsNot G (automaton_of g v) t ss) → StepTells top G v tok keep ss rest ss' lexemes None
  keep_tells_not y ys t ss ss' rest lexemes same next shifts = λ g make input d safe makes stands states is es.
      laws.kept_not G (automaton_of g v) tok (start_symbol G) make input d y ys es safe start stands (is ∙ next) (subst (λ u. ShiftsNot G (automaton_of g v) u d.states) same (subst (ShiftsNot G (automaton_of g v) t) (sym states) (shifts g)))

  pub keep_tells_nothing : (ss ss' : List ℕ) (rest lexemes : List L) → rest ≡ [] → StepTells top G v tok keep ss rest ss' lexemes None
  keep_tells_nothing ss ss' rest lexemes empty = λ g make input d safe makes stands states is es.
      laws.nothing_kept G (automaton_of g v) tok (start_symbol G) make input d es safe start stands (is ∙ empty)

  -- a lexeme that is deleted
  pub delete_tells : (y : L) (index : ℕ) (ss : List ℕ) (lexemes : List L) → drop index lexemes ≡ y ∷ drop (index + 1) lexemes → StepTells top G v tok delete ss (drop index lexemes) ss lexemes (Some (index + 1))
  delete_tells y index ss lexemes next = λ g make input d safe makes stands states rest es.
      subst (λ l. TakesOn G (automaton_of g v) tok make d (delete ∷ es) l (drop (index + 1) lexemes) es) states
      (laws.deleted G (automaton_of g v) tok (start_symbol G) make input d y (drop (index + 1) lexemes) es safe start stands (rest ∙ next))

  pub delete_tells_read : (index : ℕ) (ss : List ℕ) (lexemes : List L) → index < length lexemes → StepTells top G v tok delete ss (drop index lexemes) ss lexemes (Some (index + 1))
  delete_tells_read index ss lexemes lt =
      let r = drop_next lexemes index lt in
      delete_tells r.0 index ss lexemes r.1

  pub delete_tells_nothing : (ss ss' : List ℕ) (rest lexemes : List L) → rest ≡ [] → StepTells top G v tok delete ss rest ss' lexemes None
  delete_tells_nothing ss ss' rest lexemes empty = λ g make input d safe makes stands states is es.
      laws.nothing_deleted G (automaton_of g v) tok (start_symbol G) make input d es safe start stands (is ∙ empty)

  -- the end of a sequence
  pub past_tells : (y : L) (ys : List L) (t : ℕ) (ss ss' : List ℕ) (rest : List L) (past : Bool) → t ≡ tok y → rest ≡ y ∷ ys → ((g : GraphValue) → TellsShift G (automaton_of g v) t ss ss' past) → SequenceTells top G v tok [] ss rest past
  past_tells y ys t ss ss' rest true same next shifts = λ g make input d safe makes stands states is.
      laws.goes G (automaton_of g v) tok (start_symbol G) make input d y ys ss' safe start stands (is ∙ next) (subst (λ u. ShiftsTo G (automaton_of g v) u d.states ss') same (subst (λ l. ShiftsTo G (automaton_of g v) t l ss') (sym states) (shifts g)))
  past_tells y ys t ss ss' rest false same next shifts = λ g make input d safe makes stands states is.
      laws.goes_not G (automaton_of g v) tok (start_symbol G) make input d y ys safe start stands (is ∙ next) (subst (λ u. ShiftsNot G (automaton_of g v) u d.states) same (subst (ShiftsNot G (automaton_of g v) t) (sym states) (shifts g)))

  pub end_tells : (ss : List ℕ) (rest : List L) (past : Bool) → rest ≡ [] → ((g : GraphValue) → TellsAccept G (automaton_of g v) (end_token G) ss past) → SequenceTells top G v tok [] ss rest past
  end_tells ss rest true empty accepts = λ g make input d safe makes stands states is.
      let h = accepts g in
      laws.ends G (automaton_of g v) tok (start_symbol G) make input d h.0 safe start stands (is ∙ empty) (subst (λ l. Rests G (automaton_of g v) (end_token G) l h.0) (sym states) h.1) h.2
  end_tells ss rest false empty accepts = λ g make input d safe makes stands states is.
      let h = accepts g in
      laws.ends_not G (automaton_of g v) tok (start_symbol G) make input d h.0 safe start stands (is ∙ empty) (subst (λ l. Rests G (automaton_of g v) (end_token G) l h.0) (sym states) h.1) h.2

  pub follows_first : (es : List Edit) (ss : List ℕ) (rest : List L) → Follows top G v tok es ss rest es ss rest
  follows_first es ss rest = λ g make input d safe makes stands states is. record { input = input; config = d; stands = stands; states = states; rest_is = is; forth = λ k. k; back = λ k. k }

  pub follows_on : (es : List Edit) (ss : List ℕ) (rest : List L) (e : Edit) (fs : List Edit) (ss' ss'' : List ℕ) (rest' lexemes : List L) (next : ℕ) → Follows top G v tok es ss rest (e ∷ fs) ss' rest' → StepTells top G v tok e ss' rest' ss'' lexemes (Some next) → Follows top G v tok es ss rest fs ss'' (drop next lexemes)
  follows_on es ss rest e fs ss' ss'' rest' lexemes next so step = λ g make input d safe makes stands states is.
      let h = so g make input d safe makes stands states is in
      let k = step g make h.input h.config safe makes h.stands h.states h.rest_is fs in
      record {
        input = k.input;
        config = k.config;
        stands = k.stands;
        states = k.states;
        rest_is = k.rest_is;
        forth = λ j. h.forth (k.forth j);
        back = λ j. k.back (h.back j);
      }

  pub follows_not : (es : List Edit) (ss : List ℕ) (rest : List L) (e : Edit) (fs : List Edit) (ss' ss'' : List ℕ) (rest' lexemes : List L) → Follows top G v tok es ss rest (e ∷ fs) ss' rest' → StepTells top G v tok e ss' rest' ss'' lexemes None → SequenceTells top G v tok es ss rest false
  follows_not es ss rest e fs ss' ss'' rest' lexemes so step = λ g make input d safe makes stands states is j.
      let h = so g make input d safe makes stands states is in
      step g make h.input h.config safe makes h.stands h.states h.rest_is fs (h.back j)

  pub follows_end : (es : List Edit) (ss : List ℕ) (rest : List L) (ss' : List ℕ) (rest' : List L) (taken : Bool) → Follows top G v tok es ss rest [] ss' rest' → SequenceTells top G v tok [] ss' rest' taken → SequenceTells top G v tok es ss rest taken
  follows_end es ss rest ss' rest' true so past = λ g make input d safe makes stands states is.
      let h = so g make input d safe makes stands states is in
      h.forth (past g make h.input h.config safe makes h.stands h.states h.rest_is)
  follows_end es ss rest ss' rest' false so past = λ g make input d safe makes stands states is j.
      let h = so g make input d safe makes stands states is in
      past g make h.input h.config safe makes h.stands h.states h.rest_is (h.back j)
