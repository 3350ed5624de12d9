-- A text has a kit or one refusal, want of memory apart.
use Rattle.std.proofs.Common.{◌≡◌, ◌≢◌, ℕ, Bool, true, false, List, [], ◌∷◌, map, Option, Some, None, refl, sym, ap, ◌∙◌, subst}
use Rattle.std.specs.Prelude.{Vec}
use Rattle.std.specs.declared.alloc.Global.{Global}
use Rattle.cfg_sections.specs.SectionResults.{ErrorText}
use Rattle.cfg_base.specs.declared.symbol.RIdx.{RIdx}
use Rattle.cfg_read.specs.declared.yacc.YaccKind.{YaccKind}
use Rattle.cfg_read.specs.declared.yacc.parser.error.YaccGrammarErrorKind.TheVariants as faults
use Rattle.cfg_read.specs.declared.yacc.validity.YaccGrammarError.{YaccGrammarError}
use Rattle.cfg_read.specs.ErrorModels.{failures_in}
use Rattle.cfg_read.specs.Files.{FailsToTell, LacksKind, TellsKind, TellsNoKind, fault_failure, no_key, no_kind, without_kind, without_section}
use Rattle.cfg_read.specs.Validity.{Fault, FailureKind, FailureText, header_failure}
use Rattle.cfg_read.specs.ValidityInfo.{CheckedAst, IsChecked, IsWellMade, is_valid}
use Rattle.cfg_read.specs.Asts.{Ast}
use Rattle.cfg_read.specs.WellFormedAst.{IsWellFormedAst}
use Rattle.cfg_numbered.specs.Value.{GrammarValue, IsGrammar}
use Rattle.cfg_theory.specs.Grammar.{Grammar, WellFormed}
use Rattle.cfgrammar.specs.FromAst.{NamesNoAdded, has_implicit, made, too_many, value_by}
use Rattle.cfgrammar.specs.FromAst as from_ast
use Rattle.cfgrammar.specs.declared.yacc.from_ast.TooMany.{TooMany}
use Rattle.cfgrammar.proofs.AddedNames.{names_not_added}
use Rattle.lr_theory.specs.LongChains.{Chain, IsLeastChain}
use Rattle.lr_theory.specs.Sizes.{StaysWithin}
use Rattle.lr_theory.proofs.LongChains.{long_chains_are_exact}
use Rattle.lrpar.specs.Reducing.{rule_number}
use Rattle.state_table.specs.Graphs.{GraphValue, IsGraphOf}
use Rattle.state_table.specs.TableValues.{TableValue}
use Rattle.state_table.specs.Tables.{IsRefusal, IsTableOf, Refusal, automaton_of}
use Rattle.lrpar.specs.Checked.{ParserValue}
use Rattle.parser_kit.specs.Kit.{grammar_of}
use Rattle.parser_kit.specs.KitErrors.{HasFitting, IsKeptRefusal, IsKitRefusal, IsMemory, IsTextRefusal, IsToldRefusal, IsUntold, told_as}
use Rattle.parser_kit.specs.Tabled.{HasLeastChain, IsTabled, IsTabledRefusal}
use Rattle.parser_kit.specs.TextKinds.{IsKindOfText}
use Rattle.parser_kit.specs.declared.grammar_kit_error.GrammarKitError.{GrammarKitError}
use Rattle.parser_kit.specs.declared.grammar_kit_error.GrammarKitError.TheVariants as tabled
use Rattle.parser_kit.specs.declared.kit_error.KitError.{KitError}
use Rattle.parser_kit.specs.declared.kit_error.KitError.TheVariants as errors
use Rattle.lrkit.specs.RunKits.{IsRunKit, IsRunKitRefusal, cap, top}

-- what is told of the same, but for where errors lie in memory
abbrev pub IsSameError : KitError ℕ → KitError ℕ → Type 0
IsSameError (errors.Grammar es) (errors.Grammar fs) = failures_in es.items ≡ failures_in fs.items
IsSameError e f = e ≡ f

-- the laws of what lies below
pub record Below : Type 0 where
  pub kinds : (text : List ℕ) (k l : YaccKind) → IsKindOfText text k → IsKindOfText text l → k ≡ l
  pub kinds_apart : (text : List ℕ) (k : YaccKind) (fs : List FailureText) → TellsKind text k → LacksKind text fs → ⊥
  pub lacks_once : (text : List ℕ) (es fs : List FailureText) → LacksKind text es → LacksKind text fs → es ≡ fs
  pub answers : (kind : YaccKind) (text : List ℕ) (c d : CheckedAst) → IsChecked kind text c → IsChecked kind text d → c ≡ d
  pub well_made : (kind : YaccKind) (text : List ℕ) (c : CheckedAst) → IsChecked kind text c → IsWellMade c
  pub sound : (top : ℕ) (implicit : Bool) (ast : Ast) → IsWellFormedAst ast → NamesNoAdded ast → too_many top (from_ast.grammar_of implicit ast) ≡ None → IsGrammar top (value_by implicit ast)
  pub graphs : (G : Grammar) (g h : GraphValue) → WellFormed G → IsGraphOf G g → IsGraphOf G h → g ≡ h
  pub tables : (v : GrammarValue) (g : GraphValue) (t u : TableValue) → WellFormed v.grammar → IsTableOf v g t → IsTableOf v g u → t ≡ u
  pub has_none : (top : ℕ) (v : GrammarValue) (g : GraphValue) (t : TableValue) (r : Refusal) → WellFormed v.grammar → StaysWithin v.grammar top → IsTableOf v g t → IsRefusal top v r → r ≡ Refusal.memory
  pub one : (top : ℕ) (v : GrammarValue) (r s : Refusal) → WellFormed v.grammar → IsRefusal top v r → IsRefusal top v s → r ≢ Refusal.memory → s ≢ Refusal.memory → r ≡ s

not_both : (b : Bool) → b ≡ true → b ≡ false → ⊥
not_both b e f = cc

-- ---- texts that fail to tell their kind

-- the failure of a text without a key for the kind
abbrev is_of_no_kind : FailureKind → Bool
is_of_no_kind (Fault faults.InvalidYaccKind) = true
is_of_no_kind kind = false

abbrev begins_untold : List FailureText → Bool
begins_untold [] = false
begins_untold (f ∷ fs) = is_of_no_kind f.kind

not_headers : (errors : List ErrorText) → begins_untold (map header_failure errors) ≡ false
not_headers [] = refl
not_headers (e ∷ es) = refl

lacks : (text : List ℕ) (fs : List FailureText) → FailsToTell text fs → LacksKind text fs
lacks text fs (FailsToTell.faulty_section f) = without_section f
lacks text fs (FailsToTell.faulty_kind pairs end s v) = without_kind pairs end s (no_kind v.meaning v.some v.fails)

tells_fault : (text : List ℕ) (fs : List FailureText) → FailsToTell text fs → begins_untold fs ≡ false
tells_fault text fs (FailsToTell.faulty_section f) = ap begins_untold f.is ∙ not_headers f.errors
tells_fault text fs (FailsToTell.faulty_kind pairs end s v) = ap begins_untold v.fails.is

lacks_none : (text : List ℕ) → TellsNoKind text → LacksKind text (fault_failure faults.InvalidYaccKind 0 ∷ [])
lacks_none text t = without_kind t.pairs t.end t.section (no_key t.lacks refl)

module _ (laws : Below) where
  untold_or_kind : (text : List ℕ) (fs : List FailureText) (kind : YaccKind) → FailsToTell text fs → IsKindOfText text kind → ⊥
  untold_or_kind text fs kind fails (IsKindOfText.told t) = laws.kinds_apart text kind fs t (lacks text fs fails)
  untold_or_kind text fs kind fails (IsKindOfText.untold n is) = not_both (begins_untold fs) (ap begins_untold (laws.lacks_once text fs _ (lacks text fs fails) (lacks_none text n))) (tells_fault text fs fails)

  untold_once : (text : List ℕ) (es fs : List FailureText) → FailsToTell text es → FailsToTell text fs → es ≡ fs
  untold_once text es fs x y = laws.lacks_once text es fs (lacks text es x) (lacks text fs y)

-- ---- what a refusal is of

-- what is refused of what is kept of a text
abbrev KeptRefusal : CheckedAst → KitError ℕ → Type 0
KeptRefusal c e = IsKeptRefusal top c (λ v. IsTabledRefusal (λ n. n) top v cap) e

-- errors that keep a text from telling its kind; or a refusal of what is kept of it
data IsOf (text : List ℕ) (e : KitError ℕ) : Type 0 where
  untold : (es : Vec YaccGrammarError Global) → e ≡ errors.Grammar es → FailsToTell text (failures_in es.items) → IsOf text e
  kept : (kind : YaccKind) (c : CheckedAst) → IsKindOfText text kind → IsChecked kind text c → KeptRefusal c e → IsOf text e

of_untold : (text : List ℕ) (e : KitError ℕ) → (IsMemory e → ⊥) → IsUntold text e → IsOf text e
of_untold text (errors.Grammar es) ne u = IsOf.untold es refl u
of_untold text (errors.TooMany n) ne u = absurd u
of_untold text (errors.TooManyStates n) ne u = absurd u
of_untold text (errors.AcceptReduce p) ne u = absurd u
of_untold text errors.TooLarge ne u = absurd u
of_untold text (errors.TooManyReductions s r t n) ne u = absurd u
of_untold text (errors.Memory e) ne u = absurd (ne tt)

of_told : (text : List ℕ) (e : KitError ℕ) → (IsMemory e → ⊥) → IsToldRefusal text (λ kind. IsKitRefusal (λ n. n) top kind text cap) e → IsOf text e
of_told text e ne (IsToldRefusal.untold u) = of_untold text e ne u
of_told text e ne (IsToldRefusal.of_kind kind is (IsTextRefusal.refused c checked h)) = IsOf.kept kind c is checked h
of_told text e ne (IsToldRefusal.of_kind kind is (IsTextRefusal.memory m)) = absurd (ne m)

-- a grammar's refusal that isn't want of memory
abbrev IsCause : GrammarKitError ℕ → Type 0
IsCause (tabled.Memory e) = ⊥
IsCause x = Unit {0}

-- the three parts of a refusal of what is kept
data Parts (c : CheckedAst) (e : KitError ℕ) : Type 0 where
  invalid : (es : Vec YaccGrammarError Global) → e ≡ errors.Grammar es → is_valid c.errors ≡ false → failures_in es.items ≡ c.errors → Parts c e
  counted : (n : TooMany) → e ≡ errors.TooMany n → is_valid c.errors ≡ true → too_many top (grammar_of c).grammar ≡ Some n → Parts c e
  refused : (x : GrammarKitError ℕ) → e ≡ told_as x → IsCause x → HasFitting top c → IsTabledRefusal (λ n. n) top (grammar_of c) cap x → Parts c e

parts : (c : CheckedAst) (e : KitError ℕ) → (IsMemory e → ⊥) → KeptRefusal c e → Parts c e
parts c (errors.Grammar es) ne h = Parts.invalid es refl h.0 h.1
parts c (errors.TooMany n) ne h = Parts.counted n refl h.0 h.1
parts c (errors.TooManyStates n) ne h = Parts.refused (tabled.TooManyStates n) refl tt h.0 h.1
parts c (errors.AcceptReduce p) ne h = Parts.refused (tabled.AcceptReduce p) refl tt h.0 h.1
parts c errors.TooLarge ne h = Parts.refused tabled.TooLarge refl tt h.0 h.1
parts c (errors.TooManyReductions s r t n) ne h = Parts.refused (tabled.TooManyReductions s r t n) refl tt h.0 h.1
parts c (errors.Memory e) ne h = absurd (ne tt)

-- ---- refusals of a grammar

rule_same : (r s : Option (RIdx ℕ)) → rule_number (λ n. n) r ≡ rule_number (λ n. n) s → r ≡ s
rule_same None None e = refl
rule_same None (Some s) e = cc
rule_same (Some r) None e = cc
rule_same (Some r) (Some s) e = let same : r.0 ≡ s.0 = cc in ap (λ (n : ℕ). Some (record { 0 = n })) same

states_same : (m n : ℕ) → Refusal.states m ≡ Refusal.states n → m ≡ n
states_same m n e = cc

told_same : (m n : ℕ) → Refusal.told m ≡ Refusal.told n → m ≡ n
told_same m n e = cc

module _ (laws : Below) (v : GrammarValue) (good : WellFormed v.grammar) where
  -- the least chain of one table of a grammar is that of each
  chain_at : (g : GraphValue) (t : TableValue) → IsGraphOf v.grammar g → IsTableOf v g t → (n : ℕ) (c : Chain) → HasLeastChain v n c → IsLeastChain v.grammar (automaton_of g t) n c
  chain_at g t is_graph is_table n c h =
      let same_graph = laws.graphs v.grammar h.graph g good h.is_graph is_graph in
      let P : GraphValue → Type 0 = λ x. IsTableOf v x h.table in
      let same_table = laws.tables v g h.table t good (subst P same_graph h.is_table) is_table in
      let Q : GraphValue → Type 0 = λ x. IsLeastChain v.grammar (automaton_of x h.table) n c in
      let R : TableValue → Type 0 = λ u. IsLeastChain v.grammar (automaton_of g u) n c in
      subst R same_table (subst Q same_graph h.least)

  same_chain : (n : ℕ) (c d : Chain) → HasLeastChain v n c → HasLeastChain v n d → c ≡ d
  same_chain n c d h k = long_chains_are_exact.one_least v.grammar (automaton_of k.graph k.table) n c d (chain_at k.graph k.table k.is_graph k.is_table n c h) k.least

  -- a grammar with a table is refused for none of these
  no_refusal : (g : GraphValue) (t : TableValue) (r : Refusal) → StaysWithin v.grammar top → IsTableOf v g t → IsRefusal top v r → r ≢ Refusal.memory → ⊥
  no_refusal g t r stays is h ne = ne (laws.has_none top v g t r good stays is h)

  not_chained : (c : Chain) (r : Refusal) → StaysWithin v.grammar top → HasLeastChain v cap c → IsRefusal top v r → r ≢ Refusal.memory → ⊥
  not_chained c r stays h k ne = no_refusal h.graph h.table r stays h.is_table k ne

  same_refusal : (x y : GrammarKitError ℕ) → IsCause x → IsCause y → IsTabledRefusal (λ n. n) top v cap x → IsTabledRefusal (λ n. n) top v cap y → x ≡ y
  same_refusal (tabled.TooManyStates m) (tabled.TooManyStates n) a b h k = ap tabled.TooManyStates (states_same m n (laws.one top v (Refusal.states m) (Refusal.states n) good h k (λ e. cc) (λ e. cc)))
  same_refusal (tabled.TooManyStates m) (tabled.AcceptReduce p) a b h k = let e = laws.one top v (Refusal.states m) (Refusal.told p.0) good h k (λ e. cc) (λ e. cc) in cc
  same_refusal (tabled.TooManyStates m) tabled.TooLarge a b h k = let e = laws.one top v (Refusal.states m) Refusal.cells good h k (λ e. cc) (λ e. cc) in cc
  same_refusal (tabled.TooManyStates m) (tabled.TooManyReductions s r t n) a b h k = absurd (not_chained _ (Refusal.states m) k.1 k.2 h (λ e. cc))
  same_refusal (tabled.AcceptReduce p) (tabled.TooManyStates n) a b h k = let e = laws.one top v (Refusal.told p.0) (Refusal.states n) good h k (λ e. cc) (λ e. cc) in cc
  same_refusal (tabled.AcceptReduce p) (tabled.AcceptReduce q) a b h k =
      let same = told_same p.0 q.0 (laws.one top v (Refusal.told p.0) (Refusal.told q.0) good h k (λ e. cc) (λ e. cc)) in
      ap (λ (n : ℕ). tabled.AcceptReduce (record { 0 = n })) same
  same_refusal (tabled.AcceptReduce p) tabled.TooLarge a b h k = let e = laws.one top v (Refusal.told p.0) Refusal.cells good h k (λ e. cc) (λ e. cc) in cc
  same_refusal (tabled.AcceptReduce p) (tabled.TooManyReductions s r t n) a b h k = absurd (not_chained _ (Refusal.told p.0) k.1 k.2 h (λ e. cc))
  same_refusal tabled.TooLarge (tabled.TooManyStates n) a b h k = let e = laws.one top v Refusal.cells (Refusal.states n) good h k (λ e. cc) (λ e. cc) in cc
  same_refusal tabled.TooLarge (tabled.AcceptReduce q) a b h k = let e = laws.one top v Refusal.cells (Refusal.told q.0) good h k (λ e. cc) (λ e. cc) in cc
  same_refusal tabled.TooLarge tabled.TooLarge a b h k = refl
  same_refusal tabled.TooLarge (tabled.TooManyReductions s r t n) a b h k = absurd (not_chained _ Refusal.cells k.1 k.2 h (λ e. cc))
  same_refusal (tabled.TooManyReductions s r t n) (tabled.TooManyStates m) a b h k = absurd (not_chained _ (Refusal.states m) h.1 h.2 k (λ e. cc))
  same_refusal (tabled.TooManyReductions s r t n) (tabled.AcceptReduce q) a b h k = absurd (not_chained _ (Refusal.told q.0) h.1 h.2 k (λ e. cc))
  same_refusal (tabled.TooManyReductions s r t n) tabled.TooLarge a b h k = absurd (not_chained _ Refusal.cells h.1 h.2 k (λ e. cc))
  same_refusal (tabled.TooManyReductions s r t n) (tabled.TooManyReductions s' r' t' n') a b h k =
      let same = same_chain cap _ _ h.2 k.2 in
      let state : s.0 ≡ s'.0 = ap (λ (c : Chain). c.state) same in
      let above : r ≡ r' = rule_same r r' (ap (λ (c : Chain). c.rule) same) in
      let on : t.0 ≡ t'.0 = ap (λ (c : Chain). c.token) same in
      ap (λ (i : ℕ). tabled.TooManyReductions (record { 0 = i }) r t n) state
      ∙ ap (λ (q : Option (RIdx ℕ)). tabled.TooManyReductions s' q t n) above
      ∙ ap (λ (i : ℕ). tabled.TooManyReductions s' r' (record { 0 = i }) n) on
      ∙ ap (λ (i : ℕ). tabled.TooManyReductions s' r' t' i) (h.0 ∙ sym k.0)
  same_refusal (tabled.Memory e) y a b h k = absurd a
  same_refusal x (tabled.Memory e) a b h k = absurd b

-- ---- the grammar of a valid text

module _ (laws : Below) where
  fitting_is_good : (kind : YaccKind) (text : List ℕ) (c : CheckedAst) → IsChecked kind text c → HasFitting top c → WellFormed (grammar_of c).grammar
  fitting_is_good kind text c checked fits =
      let well = laws.well_made kind text c checked in
      (laws.sound top (has_implicit c.kind c.ast) c.ast (well.well_formed fits.0) (names_not_added c.ast (well.names fits.0)) fits.1).well_formed

-- ---- a text

module _ (laws : Below) (text : List ℕ) where
  same_checked : (kind other : YaccKind) (c d : CheckedAst) → IsKindOfText text kind → IsKindOfText text other → IsChecked kind text c → IsChecked other text d → c ≡ d
  same_checked kind other c d is_kind is_other x y =
      let P : YaccKind → Type 0 = λ k. IsChecked k text c in
      laws.answers other text c d (subst P (laws.kinds text kind other is_kind is_other) x) y

  -- a kit's table is refused for nothing
  no_cause : (k : ParserValue) → IsTabled top k → k.cap ≡ cap → (x : GrammarKitError ℕ) → IsCause x → IsTabledRefusal (λ n. n) top k.grammar cap x → ⊥
  no_cause k is cap_is (tabled.TooManyStates n) a h = no_refusal laws k.grammar is.well_formed k.graph k.table (Refusal.states n) is.states is.table h (λ e. cc)
  no_cause k is cap_is (tabled.AcceptReduce p) a h = no_refusal laws k.grammar is.well_formed k.graph k.table (Refusal.told p.0) is.states is.table h (λ e. cc)
  no_cause k is cap_is tabled.TooLarge a h = no_refusal laws k.grammar is.well_formed k.graph k.table Refusal.cells is.states is.table h (λ e. cc)
  no_cause k is cap_is (tabled.TooManyReductions s r t n) a h =
      let c : Chain = record { state = s.0; rule = rule_number (λ m. m) r; token = t.0 } in
      let P : ℕ → Type 0 = λ m. IsLeastChain k.grammar.grammar (automaton_of k.graph k.table) m c in
      let least = chain_at laws k.grammar is.well_formed k.graph k.table is.graph is.table cap c h.2 in
      let long = subst P (sym cap_is) least in
      (long_chains_are_exact.none k.grammar.grammar (automaton_of k.graph k.table) k.cap).1 is.chains c long.passes
  no_cause k is cap_is (tabled.Memory e) a h = absurd a

  -- nothing is wrong with the text of a kit
  is_valid_kit : (k : ParserValue) (run : IsRunKit text k) → is_valid run.kept.errors ≡ true
  is_valid_kit k run = ap (λ (c : CheckedAst). is_valid c.errors) run.is_kit.kept ∙ ap is_valid run.is_kit.valid

  kit_or_parts : (k : ParserValue) (run : IsRunKit text k) (e : KitError ℕ) → Parts run.kept e → ⊥
  kit_or_parts k run e (Parts.invalid es is wrong h) = not_both _ (is_valid_kit k run) wrong
  kit_or_parts k run e (Parts.counted n is valid h) = let fits = run.is_kit.fits in cc
  kit_or_parts k run e (Parts.refused x is cause fits h) =
      let P : GrammarValue → Type 0 = λ v. IsTabledRefusal (λ n. n) top v cap x in
      no_cause k run.is_kit.tabled run.is_kit.cap_is x cause (subst P (sym run.is_kit.grammar) h)

  kit_or_of : (k : ParserValue) → IsRunKit text k → (e : KitError ℕ) → (IsMemory e → ⊥) → IsOf text e → ⊥
  kit_or_of k run e ne (IsOf.untold es is fails) = untold_or_kind laws text _ run.kind fails run.is_kind
  kit_or_of k run e ne (IsOf.kept kind c is_kind checked h) =
      let is_read = IsChecked.reads_as run.is_kit.reading run.is_kit.reads run.is_kit.kept in
      let P : CheckedAst → Type 0 = λ d. KeptRefusal d e in
      kit_or_parts k run e (parts run.kept e ne (subst P (same_checked kind run.kind c run.kept is_kind run.is_kind checked is_read) h))

  -- a text with a kit isn't refused
  pub kit_or_refusal : (k : ParserValue) → IsRunKit text k → (e : KitError ℕ) → (IsMemory e → ⊥) → IsRunKitRefusal text e → ⊥
  kit_or_refusal k run e ne h = kit_or_of k run e ne (of_told text e ne h.refused)

  -- the same cause is told as the same error
  as_told : (x y : KitError ℕ) → (a b : KitError ℕ) → x ≡ a → y ≡ b → IsSameError a b → IsSameError x y
  as_told x y a b e f h = subst (λ (u : KitError ℕ). IsSameError u y) (sym e) (subst (λ (u : KitError ℕ). IsSameError a u) (sym f) h)

  same_error : (e f : KitError ℕ) → e ≡ f → IsSameError e f
  same_error e f same = subst (λ (u : KitError ℕ). IsSameError e u) same (itself e)
    where
      itself : (x : KitError ℕ) → IsSameError x x
      itself (errors.Grammar es) = refl
      itself (errors.TooMany n) = refl
      itself (errors.TooManyStates n) = refl
      itself (errors.AcceptReduce p) = refl
      itself errors.TooLarge = refl
      itself (errors.TooManyReductions s r t n) = refl
      itself (errors.Memory e) = refl

  same_parts : (kind : YaccKind) (c : CheckedAst) → IsChecked kind text c → (e f : KitError ℕ) → Parts c e → Parts c f → IsSameError e f
  same_parts kind c checked e f (Parts.invalid es x wrong h) (Parts.invalid fs y also k) = as_told e f (errors.Grammar es) (errors.Grammar fs) x y (h ∙ sym k)
  same_parts kind c checked e f (Parts.invalid es x wrong h) (Parts.counted n y valid k) = absurd (not_both _ valid wrong)
  same_parts kind c checked e f (Parts.invalid es x wrong h) (Parts.refused r y cause fits k) = absurd (not_both _ fits.0 wrong)
  same_parts kind c checked e f (Parts.counted n x valid h) (Parts.invalid fs y wrong k) = absurd (not_both _ valid wrong)
  same_parts kind c checked e f (Parts.counted n x valid h) (Parts.counted m y also k) =
      let same : n ≡ m = cc in
      same_error e f (x ∙ ap errors.TooMany same ∙ sym y)
  same_parts kind c checked e f (Parts.counted n x valid h) (Parts.refused r y cause fits k) = let none = fits.1 in cc
  same_parts kind c checked e f (Parts.refused r x cause fits h) (Parts.invalid fs y wrong k) = absurd (not_both _ fits.0 wrong)
  same_parts kind c checked e f (Parts.refused r x cause fits h) (Parts.counted m y valid k) = let none = fits.1 in cc
  same_parts kind c checked e f (Parts.refused r x cause fits h) (Parts.refused s y other also k) =
      let good = fitting_is_good laws kind text c checked fits in
      same_error e f (x ∙ ap told_as (same_refusal laws (grammar_of c) good r s cause other h k) ∙ sym y)

  same_of : (e f : KitError ℕ) → (IsMemory e → ⊥) → (IsMemory f → ⊥) → IsOf text e → IsOf text f → IsSameError e f
  same_of e f ne nf (IsOf.untold es x h) (IsOf.untold fs y k) = as_told e f (errors.Grammar es) (errors.Grammar fs) x y (untold_once laws text _ _ h k)
  same_of e f ne nf (IsOf.untold es x h) (IsOf.kept kind c is_kind checked k) = absurd (untold_or_kind laws text _ kind h is_kind)
  same_of e f ne nf (IsOf.kept kind c is_kind checked h) (IsOf.untold fs y k) = absurd (untold_or_kind laws text _ kind k is_kind)
  same_of e f ne nf (IsOf.kept kind c is_kind checked h) (IsOf.kept other d is_other also k) =
      let P : CheckedAst → Type 0 = λ x. KeptRefusal x e in
      same_parts other d also e f (parts d e ne (subst P (same_checked kind other c d is_kind is_other checked also) h)) (parts d f nf k)

  -- and is refused in one way
  pub one_refusal : (e f : KitError ℕ) → (IsMemory e → ⊥) → (IsMemory f → ⊥) → IsRunKitRefusal text e → IsRunKitRefusal text f → IsSameError e f
  one_refusal e f ne nf h k = same_of e f ne nf (of_told text e ne h.refused) (of_told text f nf k.refused)
