-- Tokens that are pushed one after another are those of one run.
use Rattle.std.proofs.Common.{◌≡◌, ℕ, zero, suc, ◌+◌, ◌<◌, ◌≤◌, ◌↔◌, List, [], ◌∷◌, ◌++◌, length, map, reverse, take, Some, refl, sym, ap, ◌∙◌, subst, arith, inl, inr, append_assoc}
use Rattle.std.specs.Prelude.{slice_get, IsTrue, true, false, Result, Ok, Err, if◌then◌else◌, is_ok}
use Rattle.std.proofs.lemmas.Option.{same_Some}
use Rattle.std.proofs.lemmas.List.{append-nil, map-append, map-id, reverse-append, take-map}
use Rattle.cfg_theory.specs.Derivation.{AllProductive, BeginsSentence, IsSentence}
use Rattle.cfg_theory.specs.Grammar.{Sym, Grammar, HasStart, end_token, start_symbol}
use Rattle.cfg_theory.specs.Tree.{leaf}
use Rattle.cfg_theory.proofs.Start.{well_formed_start}
use Rattle.lr_theory.specs.Automaton.{Automaton, Complete, Safe}
use Rattle.lr_theory.specs.ErrorPlaces.{IsReady}
use Rattle.lr_theory.specs.Machine.{Config, going, run, start_config}
use Rattle.lr_theory.specs.Repair.{with_rest}
use Rattle.lr_theory.specs.Stack.{Stands, stack_yield}
use Rattle.lr_theory.specs.Table.{IsAutomatonOf}
use Rattle.lr_theory.proofs.RunTermination.{run_append}
use Rattle.lr_theory.proofs.TableLaws.{automaton_is_safe}
use Rattle.lr_theory.proofs.ViablePrefix.{is_prefix_correct}
use Rattle.table_theory.proofs.TableCells.{built_law}
use Rattle.state_table.specs.CellViews.{precedences_of}
use Rattle.state_table.specs.Graphs.{GraphValue}
use Rattle.state_table.specs.Tables.{automaton_of}
use Rattle.vob.specs.Packed.{Contents}
use Rattle.state_table.specs.declared.stidx.StIdx.{StIdx}
use Rattle.lrpar.specs.declared.overlay.Overlay.{Overlay}
use Rattle.lrpar.specs.Checked.{ParserValue, IsData}
use Rattle.lrpar.specs.NextStates.{AreInside, TellBelow, TellsAfter}
use Rattle.lrpar.specs.NextTokens.{Reaches, HasError, IsSet, AreNext}
use Rattle.lrpar.specs.Prefixes.{grammar_in, machine_in, IsTableIn, own, ComesTo, IsPrefix}
use Rattle.lrpar.specs.Pair.{IsSafePair}
use Rattle.lrpar.specs.Reducing.{AreStates, stack_of, states_of}
use Rattle.lrpar.specs.Replay.{overlaid, ShiftsTo, ShiftsNot}
use Rattle.lrpar.proofs.NextFacts.{begin_none, no_end_of}
use Rattle.lrpar.proofs.NextRuns.{failed_there, stands_there}
use Rattle.lrpar.proofs.NextTold.{after_all, one_state, tells_exact, tells_exact_end, tells_sound, tells_sound_end}
use Rattle.lrpar.proofs.Replays.{led}
use Rattle.lrpar.proofs.Taken.{shift_step}
use Rattle.lrpar.proofs.Turning.{one_step}

-- one more token that is inside
pub inside_more : (e t : ℕ) (ts : List ℕ) → ((k y : ℕ) → slice_get ts k ≡ Some y → y < e) → t < e → (k y : ℕ) → slice_get (ts ++ t ∷ []) k ≡ Some y → y < e
inside_more e t [] h lt zero y is = subst (λ n. n < e) (same_Some t y is) lt
inside_more e t [] h lt (suc k) y is = cc
inside_more e t (u ∷ ts) h lt zero y is = h 0 y is
inside_more e t (u ∷ ts) h lt (suc k) y is = inside_more e t ts (λ j z. h (suc j) z) lt k y is

last_get : (ts : List ℕ) (t : ℕ) → slice_get (ts ++ t ∷ []) (length ts) ≡ Some t
last_get [] t = refl
last_get (u ∷ ts) t = last_get ts t

-- a last token that is none of the grammar's but the end
pub outside_last : (G : Grammar) (a : Automaton) (ts : List ℕ) (t : ℕ) → end_token G ≤ t → HasError G a own (ts ++ t ∷ [])
outside_last G a ts t le = HasError.outside (length ts) t (last_get ts t) le

-- no tokens yet
pub comes_first : (G : Grammar) (a : Automaton) → ComesTo G a [] (a.graph.start ∷ [])
comes_first G a = record { config = start_config a []; steps = 0; goes = λ ws. refl; fresh = inr (refl, refl); states = refl }

none_inside : (e k y : ℕ) → slice_get [] k ≡ Some y → y < e
none_inside e zero y is = cc
none_inside e (suc k) y is = cc

pub prefix_first : (d : ParserValue) → IsSafePair (grammar_in d) d.graph d.table → (ss : List ℕ) → ss ≡ d.table.start ∷ [] → d.table.start < d.table.states → IsPrefix d [] ss
prefix_first d pair ss e lt = subst (IsPrefix d []) (sym e) (record {
  inside = none_inside (end_token (grammar_in d));
  are_states = one_state d.table d.table.start lt;
  some = omega arith;
  comes = subst (ComesTo (grammar_in d) (machine_in d) []) (ap (λ s. s ∷ []) (sym pair.counts.start)) (comes_first (grammar_in d) (machine_in d));
})

pub taken : {X A E : Type 0} (r : Result A E) (v : A) (x y now : X) → r ≡ Ok v → now ≡ (if is_ok r then x else y) → now ≡ x
taken (Ok w) v x y now e h = h
taken (Err w) v x y now e h = cc

-- the stack that an overlay stands for, settled
pub settled : {S : Type 0} (number : S → ℕ) (base now : List (StIdx S)) (o : Overlay S) → now ≡ take o.kept base ++ o.over.items → stack_of number now ≡ overlaid number base o
settled number base now o e =
    ap (stack_of number) e ∙ ap reverse (map-append (λ q. number q.0) (take o.kept base) o.over.items) ∙ reverse-append (states_of number (take o.kept base)) (states_of number o.over.items)
    ∙ ap (λ l. reverse (states_of number o.over.items) ++ reverse l) (sym (take-map (λ q. number q.0) o.kept base))

module _ (G : Grammar) (a : Automaton) (ts ss : List ℕ) (h : ComesTo G a ts ss) where
  -- a run on the tokens and on what comes behind
  reaches : (ws : List ℕ) → Reaches G a own (ts ++ ws) ws (with_rest h.config ws)
  reaches ws = record { steps = h.steps; goes = h.goes ws; rest_is = refl; fresh = h.fresh }

  -- and on them alone
  pub reaches_end : Reaches G a own ts [] (with_rest h.config [])
  reaches_end = subst (λ l. Reaches G a own l [] (with_rest h.config [])) (append-nil ts) (reaches [])

  module _ (x : Sym) (safe : Safe G a) (start : HasStart G x) (inside : AreInside G own ts) (t : ℕ) (lt : t < end_token G) where
    abbrev more : List ℕ
    more = ts ++ t ∷ []

    stood : Stands G a own more (with_rest h.config (t ∷ []))
    stood = stands_there ℕ G a own x safe start more (no_end_of G own more (inside_more (end_token G) t ts inside lt)) (t ∷ []) (with_rest h.config (t ∷ [])) (reaches (t ∷ []))

    -- a token that is shifted
    pub comes_more : (ss' : List ℕ) → ShiftsTo G a t ss ss' → ComesTo G a more ss'
    comes_more ss' shifts =
        let s : ShiftsTo G a t h.config.states ss' = subst (λ l. ShiftsTo G a t l ss') (sym h.states) shifts in
        let m = led ℕ G a own x safe start more t h.config.states s.reduced h.config.trees (t ∷ []) refl stood s.rests.leads in
        let d : Config ℕ = record { states = s.target ∷ s.reduced; trees = leaf t ∷ m.trees; rest = [] } in
        let on : (ws : List ℕ) → run G a own (h.steps + (m.steps + 1)) (start_config a (more ++ ws)) ≡ going (with_rest d ws) =
        λ ws.
        let b : Config ℕ = record { states = s.reduced; trees = m.trees; rest = t ∷ ws } in
        ap (λ l. run G a own (h.steps + (m.steps + 1)) (start_config a l)) (append_assoc ts (t ∷ []) ws)
        ∙ run_append ℕ G a own h.steps (m.steps + 1) (start_config a (ts ++ t ∷ ws)) (with_rest h.config (t ∷ ws)) (h.goes (t ∷ ws))
        ∙ run_append ℕ G a own m.steps 1 (with_rest h.config (t ∷ ws)) b (m.runs (t ∷ ws) refl)
        ∙ one_step G a own b ∙ shift_step ℕ G a own s.reduced m.trees t ws s.target s.cell in
        record { config = d; steps = h.steps + (m.steps + 1); goes = on; fresh = inl (t, m.trees, refl); states = sym s.states }

    -- or one that isn't
    pub fails_more : ShiftsNot G a t ss → HasError G a own more
    fails_more not =
        failed_there ℕ G a own x safe start more (no_end_of G own more (inside_more (end_token G) t ts inside lt)) t [] (with_rest h.config (t ∷ [])) (reaches (t ∷ []))
        (subst (ShiftsNot G a t) (sym h.states) not)

-- what follows of data
module _ (d : ParserValue) (checked : IsData (grammar_in d) d.graph d.table d.cap) (ts ss : List ℕ) (p : IsPrefix d ts ss) where
  abbrev G : Grammar
  G = grammar_in d

  abbrev a : Automaton
  a = machine_in d

  abbrev S : Sym
  S = start_symbol G

  has_start : HasStart G S
  has_start = well_formed_start G checked.table.well_formed

  module _ (t : ℕ) (lt : t < end_token G) where
    pub prefix_more : (ss' : List ℕ) → ShiftsTo G a t ss ss' → AreStates d.table ss' → IsPrefix d (ts ++ t ∷ []) ss'
    prefix_more ss' shifts are = record {
      inside = inside_more (end_token G) t ts p.inside lt;
      are_states = are;
      some = rw shifts.states (omega arith);
      comes = comes_more G a ts ss p.comes S checked.pair.safe has_start p.inside t lt ss' shifts;
    }

    pub error_more : ShiftsNot G a t ss → HasError G a own (ts ++ t ∷ [])
    error_more not = fails_more G a ts ss p.comes S checked.pair.safe has_start p.inside t lt not

  same : map own ts ≡ ts
  same = map-id ts

  module _ (is : IsTableIn d) where
    of_grammar : IsAutomatonOf G a
    of_grammar = built_law.automaton G (precedences_of d.grammar) a checked.table.well_formed is.built

    ready : Complete G a → IsReady G a S
    ready complete = record { safe = checked.pair.safe; closed = automaton_is_safe.closed G a checked.table.well_formed of_grammar; complete = complete; has_start = has_start }

    -- the tokens begin a sentence
    pub begin_all : AllProductive G → BeginsSentence G S ts
    begin_all productive =
        let c : Config ℕ = with_rest p.comes.config [] in
        let r = reaches_end G a ts ss p.comes in
        let no_end = no_end_of G own ts p.inside in
        let stands = stands_there ℕ G a own S checked.pair.safe has_start ts no_end [] c r in
        let consumed : stack_yield c.trees ≡ ts = sym (append-nil (stack_yield c.trees)) ∙ stands.spells in
        subst (BeginsSentence G S) (map-id (stack_yield c.trees) ∙ consumed)
        ((is_prefix_correct ℕ).consumed_begins G a own S ts r.steps c checked.pair.safe has_start (automaton_is_safe.present G a checked.table.well_formed of_grammar) productive no_end r.goes)

    -- with an error at the last one they don't
    pub begin_not : Complete G a → (us : List ℕ) → HasError G a own us → BeginsSentence G S us → ⊥
    begin_not complete us e b = begin_none ℕ G a own checked.table.well_formed us (ready complete) e (subst (BeginsSentence G S) (sym (map-id us)) b)

    -- so where the last one is put to them, and where it isn't
    pub push_taken : Complete G a → AllProductive G → IsTrue true ↔ BeginsSentence G S ts
    push_taken complete productive = (λ e. begin_all productive, λ b. refl)

    pub push_refused : (us : List ℕ) → HasError G a own us → Complete G a → AllProductive G → IsTrue false ↔ BeginsSentence G S us
    push_refused us e complete productive = (λ h. cc h, λ b. absurd (begin_not complete us e b))

  module _ (b : Contents) (told : (x : GraphValue) → TellBelow G (automaton_of x d.table) ss G.tokens b.bits) where
    tells : TellsAfter G a own ts (Some b)
    tells = after_all G d.table own checked.table ts p.inside (λ t xs. t) d.graph ss b checked.pair.safe (with_rest p.comes.config [], reaches_end G a ts ss p.comes, p.comes.states) (told d.graph)

    pub told_next : (c : Config ℕ) × Reaches G a own ts [] c × AreNext G a own c b.bits
    told_next = (tells.1, tells.2, tells.3)

    pub told_sound : IsTableIn d → AllProductive G → (t : ℕ) → t < end_token G → IsSet b.bits t → BeginsSentence G S (ts ++ t ∷ [])
    told_sound = subst (λ l. IsTableIn d → AllProductive G → (t : ℕ) → t < end_token G → IsSet b.bits t → BeginsSentence G S (l ++ t ∷ [])) same
        (tells_sound d.grammar d.graph d.table own checked.table.well_formed checked.pair.safe ts (λ k lt. (k, refl)) (Some b) tells)

    pub told_sound_end : IsSet b.bits (end_token G) → IsSentence G S ts
    told_sound_end = subst (λ l. IsSet b.bits (end_token G) → IsSentence G S l) same (tells_sound_end d.grammar d.graph d.table own checked.table.well_formed checked.pair.safe ts (Some b) tells)

    pub told_exact : IsTableIn d → Complete G a → AllProductive G → (t : ℕ) → t < end_token G → IsSet b.bits t ↔ BeginsSentence G S (ts ++ t ∷ [])
    told_exact = subst (λ l. IsTableIn d → Complete G a → AllProductive G → (t : ℕ) → t < end_token G → IsSet b.bits t ↔ BeginsSentence G S (l ++ t ∷ [])) same
        (tells_exact d.grammar d.graph d.table own checked.table.well_formed checked.pair.safe ts (λ k lt. (k, refl)) d.cap (checked.chains d.graph) (Some b) tells)

    pub told_exact_end : IsTableIn d → Complete G a → AllProductive G → IsSet b.bits (end_token G) ↔ IsSentence G S ts
    told_exact_end = subst (λ l. IsTableIn d → Complete G a → AllProductive G → IsSet b.bits (end_token G) ↔ IsSentence G S l) same
        (tells_exact_end d.grammar d.graph d.table own checked.table.well_formed checked.pair.safe ts (λ k lt. (k, refl)) d.cap (checked.chains d.graph) (Some b) tells)
