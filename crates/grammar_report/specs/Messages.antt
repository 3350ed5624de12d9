-- The messages of a report.
use Rattle.std.specs.Prelude.{◌≡◌, ℕ, suc, ◌+◌, ◌≤◌, Bool, true, false, List, [], ◌∷◌, ◌++◌, ◌&&◌, ◌||◌, Option, None, Some, IfSome, codes, cond, drop, length, map, max, min, nat_le, not, slice_get, slice_range, take, IsCharBoundary, ⊤}
use Rattle.std.specs.List.{All, sum_by}
use Rattle.std.specs.Str.{bytes_eq}
use Rattle.cfg_base.specs.SpanModel.{SpanModel}
use Rattle.cfg_base.specs.declared.symbol.PIdx.{PIdx}
use Rattle.cfg_theory.specs.Derivation.{IsProductive}
use Rattle.cfg_read.specs.Asts.{Ast, ProductionAst, RuleAst}
use Rattle.cfg_read.specs.ErrorModels.{failure_of, failures_in}
use Rattle.cfg_read.specs.ErrorTexts.{failure_text}
use Rattle.cfg_read.specs.Files.{FailsToTell}
use Rattle.cfg_read.specs.SyntaxTexts.{WordText}
use Rattle.cfg_read.specs.Validity.{FailureText}
use Rattle.cfg_read.specs.ValidityInfo.{CheckedAst, IsChecked, is_valid}
use Rattle.cfg_read.specs.WarningModels.{warning_text}
use Rattle.cfg_read.specs.Warnings as unused
use Rattle.cfg_read.specs.Warnings.{WarningText}
use Rattle.cfg_read.specs.declared.yacc.YaccKind.{YaccKind}
use Rattle.cfg_read.specs.declared.yacc.validity.YaccGrammarError.{YaccGrammarError}
use Rattle.cfg_numbered.specs.Value.{GrammarValue, IsRuleNamed}
use Rattle.parser_kit.specs.declared.kit_error.KitError.{KitError}
use Rattle.parser_kit.specs.declared.kit_error.KitError.TheVariants.{AcceptReduce, Grammar, TooManyReductions}
use Rattle.std.specs.Fmt.{decimal}
use Rattle.std.specs.declared.cmp.Ordering.{Ordering}
use Rattle.parser_kit.specs.Kit.{KitValue}
use Rattle.refused_tables.specs.Blocks.{AreBlocks}
use Rattle.refused_tables.specs.declared.listed.Listed.{Listed}
use Rattle.text_messages.specs.Added.{AddsSome, AreWarnings, IsPartOf, MessagesValue, OneForEach, Said, said_in}
use Rattle.text_messages.specs.Places.{BeginsWith, SourceValue, heading_if}
use Rattle.text_messages.specs.declared.source.Severity.{Severity}
use Rattle.text_messages.specs.declared.source.Severity.TheVariants.{Error, Note, Warning}
use Rattle.grammar_report.specs.Outcomes.{IsKitIn, TellsExpected, TellsOutcome}
use Rattle.grammar_report.specs.Places.{production_place}
use Rattle.grammar_report.specs.declared.large.Untabled.{Untabled}
use Rattle.grammar_report.specs.declared.large.Untabled.TheVariants.{Errors, Neither, Warnings}
use Rattle.grammar_report.specs.declared.outcome.Outcome.{Outcome}
use Rattle.grammar_report.specs.declared.outcome.Outcome.TheVariants.{Barren, Expected, Invalid, Unexpected}

-- `WHAT 'NAME'`, with the name that the text has at a span
abbrev pub NamesPart : List ℕ → SpanModel → List ℕ → List ℕ → Type 0
NamesPart text span what words =
    (name : List ℕ) × (IsCharBoundary text span.start → IsCharBoundary text span.end → span.start ≤ span.end → name ≡ slice_range text span.start span.end) × (words ≡ what ++ (codes " '" ++ (name ++ codes "'")))

abbrev pub IsNamed : List ℕ → Severity → SpanModel → List ℕ → Said → Type 0
IsNamed text severity span what m = (words : List ℕ) × NamesPart text span what words × (m ≡ said_in text severity (Some span) words)

-- an error at this place, whose words begin so
abbrev pub IsError : List ℕ → Option SpanModel → List ℕ → Said → Type 0
IsError text place front m = (words : List ℕ) × BeginsWith front words × (m ≡ said_in text Error place words)

-- an error at the first of its places, and a note at each other one
abbrev pub again_at : List ℕ → SpanModel → Said
again_at text span = said_in text Note (Some span) (codes "and here again")

abbrev pub at_places : List ℕ → YaccGrammarError → List Said
at_places text e = said_in text Error (slice_get e.spans.items 0) (failure_text (failure_of e).kind) ∷ map (again_at text) (drop 1 e.spans.items)

-- these, and at most one note behind them
abbrev pub AreOfError : List ℕ → YaccGrammarError → List Said → Type 0
AreOfError text e these = (notes : List Said) × All (λ m. m.severity ≡ Note) notes × (length notes ≤ 1) × (these ≡ at_places text e ++ notes)

-- the messages of the elements of a list, one after another
pub data AreOfEach {A : Type 0} (F : A → List Said → Type 0) : List A → List Said → Type 0 where
  none : AreOfEach F [] []
  one_more : {xs : List A} {ms these : List Said} (x : A) → AreOfEach F xs ms → F x these → AreOfEach F (xs ++ x ∷ []) (ms ++ these)

abbrev pub AreOfErrors : List ℕ → List YaccGrammarError → List Said → Type 0
AreOfErrors text es these = AreOfEach (AreOfError text) es these

abbrev pub chain_words : ℕ → List ℕ
chain_words cap = codes "more than " ++ (decimal cap ++ codes " reductions follow each other")

-- what is said of a refusal, with the tree of the text: all errors of the text, else one error
abbrev pub AreOfRefusal : List ℕ → Ast → KitError ℕ → List Said → Type 0
AreOfRefusal text ast (Grammar errors) these = AreOfErrors text errors.items these
AreOfRefusal text ast (AcceptReduce p) these = (m : Said) × IsError text (production_place ast p.0) (codes "accept/reduce conflict") m × (these ≡ m ∷ [])
AreOfRefusal text ast (TooManyReductions state rule token cap) these = (m : Said) × (place : Option SpanModel) × IsError text place (chain_words cap) m × (these ≡ m ∷ [])
AreOfRefusal text ast _ these = (m : Said) × IsError text None [] m × (these ≡ m ∷ [])

-- what is kept of a text, of some kind
abbrev pub IsKeptOf : List ℕ → CheckedAst → Type 0
IsKeptOf text c = (kind : YaccKind) × IsChecked kind text c

abbrev pub ExplainRefusal : List ℕ → KitError ℕ → List Said → Type 0
ExplainRefusal text e these = (c : CheckedAst) × IsKeptOf text c × AreOfRefusal text c.ast e these

-- how many places errors have, and at least one each
abbrev pub place_count : YaccGrammarError → ℕ
place_count e = max (length e.spans.items) 1

abbrev pub places_len : List YaccGrammarError → ℕ
places_len es = sum_by place_count es

-- the messages of the first errors of a text, and how many places the others have
abbrev pub AreFirstErrors : List ℕ → ℕ → CheckedAst → ℕ → List Said → Type 0
AreFirstErrors text most k left these = (es : List YaccGrammarError) × (failures_in es ≡ k.errors) × AreOfErrors text (take most es) these × (left ≡ min (places_len (drop most es)) 18446744073709551615)

-- the rule of this name derives no list of tokens
abbrev pub IsUnproductive : GrammarValue → List ℕ → Type 0
IsUnproductive v name = (A : ℕ) × IsRuleNamed v A name × (IsProductive v.grammar A → ⊥)

-- sentences begin with the rule of this name
abbrev pub is_named : Option WordText → List ℕ → Bool
is_named None name = false
is_named (Some w) name = bytes_eq w.text name

abbrev pub is_start : Ast → List ℕ → Bool
is_start ast name = is_named ast.start name

-- an error about the start rule, a warning about another one, at its heading
abbrev pub IsOfUnproductive : List ℕ → Bool → SpanModel → Said → Type 0
IsOfUnproductive text true span m = IsNamed text Error span (codes "No line is a sentence: unproductive start rule") m
IsOfUnproductive text false span m = IsNamed text Warning span (codes "Unproductive rule") m

abbrev pub AreUnproductive : List ℕ → GrammarValue → Ast → List Said → Type 0
AreUnproductive text v ast these = OneForEach (λ (r : RuleAst). IsUnproductive v r.name.text) (λ (r : RuleAst) m. IsOfUnproductive text (is_start ast r.name.text) r.name.span m) ast.rules these

-- a warning at the first place of what isn't used
abbrev pub SaysAt : List ℕ → List ℕ → Option SpanModel → Said → Type 0
SaysAt text what None m = m ≡ said_in text Warning None what
SaysAt text what (Some s) m = IsNamed text Warning s what m

abbrev pub SaysUnused : List ℕ → WarningText → Said → Type 0
SaysUnused text w m = SaysAt text (warning_text w.kind) (slice_get w.spans 0) m

-- one for each unused rule and token
abbrev pub AreOfUnused : List ℕ → Ast → List Said → Type 0
AreOfUnused text ast these = (ws : List WarningText) × unused.AreWarnings ast ws × OneForEach (λ w. ⊤) (SaysUnused text) ws these

-- those of unused names, and further warnings
abbrev pub AreOfWarnings : List ℕ → Ast → List Said → Type 0
AreOfWarnings text ast these = (names more : List Said) × AreOfUnused text ast names × AreWarnings more × (these ≡ names ++ more)

-- those of the first unused names, further warnings, and how many unused names are left
abbrev pub AreOfFirstUnused : List ℕ → ℕ → Ast → ℕ → List Said → Type 0
AreOfFirstUnused text most ast left these = (ws : List WarningText) × unused.AreWarnings ast ws × OneForEach (λ w. ⊤) (SaysUnused text) (take most ws) these × (left ≡ length (drop most ws))

abbrev pub AreFirstWarnings : List ℕ → ℕ → Ast → ℕ → List Said → Type 0
AreFirstWarnings text most ast left these = (names more : List Said) × AreOfFirstUnused text most ast left names × AreWarnings more × (these ≡ names ++ more)

-- how many productions there are, and symbols in them
abbrev pub size_of : List ProductionAst → ℕ
size_of [] = 0
size_of (p ∷ ps) = suc (length p.symbols) + size_of ps

-- a text in which nothing is wrong, with more productions and symbols in them, or more tokens, than this
abbrev pub is_large : ℕ → CheckedAst → Bool
is_large most k = is_valid k.errors && (not (nat_le (size_of k.ast.productions) most) || not (nat_le (length k.ast.tokens) most))

-- what is found without a table: errors, or warnings of a large text
abbrev pub is_large_found : Untabled → Option Bool
is_large_found Neither = None
is_large_found (Errors left) = Some false
is_large_found (Warnings left) = Some true

-- errors of a text in which something is wrong, warnings of a large one, and nothing of another
abbrev pub found_of : ℕ → CheckedAst → Option Bool
found_of size k = cond (is_valid k.errors) (cond (is_large size k) (Some true) None) (Some false)

-- the first of these, with how many are left
abbrev pub AreOfUntabled : List ℕ → ℕ → CheckedAst → Untabled → List Said → Type 0
AreOfUntabled text most k Neither these = these ≡ []
AreOfUntabled text most k (Errors left) these = AreFirstErrors text most k left these
AreOfUntabled text most k (Warnings left) these = AreFirstWarnings text most k.ast left these

-- a text whose section names no kind has nothing; of another it is what is kept of it that decides
pub data DecidesUntabled (size : ℕ) (text : List ℕ) (found : Option Bool) : Type 0 where
  untold : (fs : List FailureText) → FailsToTell text fs → found ≡ None → DecidesUntabled size text found
  told : (k : CheckedAst) → IsKeptOf text k → found ≡ found_of size k → DecidesUntabled size text found

-- the same of what is kept of it, and what is added
abbrev pub AddsOfChecked : ℕ → ℕ → CheckedAst → Untabled → MessagesValue → MessagesValue → Type 0
AddsOfChecked size most k u old new = (is_large_found u ≡ found_of size k) × AddsSome (AreOfUntabled old.text most k u) old new

pub data AddsOfUntabled (size most : ℕ) (u : Untabled) (old new : MessagesValue) : Type 0 where
  of_untold : (fs : List FailureText) → FailsToTell old.text fs → u ≡ Neither → new ≡ old → AddsOfUntabled size most u old new
  of_told : (k : CheckedAst) → IsKeptOf old.text k → AddsOfChecked size most k u old new → AddsOfUntabled size most u old new

-- what a conflict begins with in words
abbrev pub kind_text : Option (PIdx ℕ) → List ℕ
kind_text None = codes "shift/reduce conflict"
kind_text (Some p) = codes "reduce/reduce conflict"

-- at the production that is reduced
abbrev pub IsOfConflict : List ℕ → Ast → Severity → Listed → Said → Type 0
IsOfConflict text ast severity e m = (words : List ℕ) × BeginsWith (kind_text e.other) words × (m ≡ said_in text severity (production_place ast e.pidx.0) words)

-- a message, and behind it at most one note
abbrev pub AreWithNote : Said → List Said → Type 0
AreWithNote m these = (notes : List Said) × All (λ n. n.severity ≡ Note) notes × (length notes ≤ 1) × (these ≡ m ∷ notes)

abbrev pub AreOfConflict : List ℕ → Ast → Severity → Listed → List Said → Type 0
AreOfConflict text ast severity e these = (m : Said) × IsOfConflict text ast severity e m × AreWithNote m these

-- those of the first conflict of a block
abbrev pub AreOfBlock : List ℕ → Ast → Severity → List Listed → List Said → Type 0
AreOfBlock text ast severity [] these = these ≡ []
AreOfBlock text ast severity (e ∷ es) these = AreOfConflict text ast severity e these

-- conflicts that are expected are notes
abbrev pub conflict_severity : Outcome → Severity
conflict_severity Expected = Note
conflict_severity Unexpected = Warning
conflict_severity Barren = Warning
conflict_severity Invalid = Warning

abbrev pub IsConflictSeverity : KitValue → Severity → Type 0
IsConflictSeverity k severity = (o : Outcome) × TellsExpected k o × (severity ≡ conflict_severity o)

-- how many blocks are shown
abbrev pub most_blocks : ℕ
most_blocks = 100

-- a note how many blocks there are, if not all are shown
abbrev pub count_told : List ℕ → ℕ → List Said
count_told text n = cond (nat_le n most_blocks) [] (said_in text Note None (codes "100 of " ++ (decimal n ++ codes " groups of conflicts are shown")) ∷ [])

-- those of the first blocks, as many as are shown, and then how many there are
abbrev pub AreOfBlocks : List ℕ → Ast → Severity → List (List Listed) → List Said → Type 0
AreOfBlocks text ast severity blocks these = (shown : List Said) × AreOfEach (AreOfBlock text ast severity) (take most_blocks blocks) shown × (these ≡ shown ++ count_told text (length blocks))

-- those of the blocks of the conflicts that a kit lists
abbrev pub AreOfConflicts : (Listed → Listed → Ordering) → Bool → List ℕ → KitValue → List Said → Type 0
AreOfConflicts cmp each text k these =
    (severity : Severity) × (blocks : List (List Listed)) × IsConflictSeverity k severity × AreBlocks cmp each k.parser.table.conflicts blocks × AreOfBlocks text k.kept.ast severity blocks these

-- warnings, rules that derive no list of tokens, and conflicts
abbrev pub AreOfKit : (Listed → Listed → Ordering) → Bool → List ℕ → KitValue → List Said → Type 0
AreOfKit cmp each text k these =
    (warnings barren conflicts : List Said) × AreOfWarnings text k.kept.ast warnings × AreUnproductive text k.parser.grammar k.kept.ast barren × AreOfConflicts cmp each text k conflicts × (these ≡ warnings ++ (barren ++ conflicts))

-- the errors that explain why a text has no kit, or what is said of its kit
pub data AreOfText (cmp : Listed → Listed → Ordering) (each : Bool) (text : List ℕ) : Outcome → List Said → Type 0 where
  of_refusal : {these : List Said} (e : KitError ℕ) → ExplainRefusal text e these → AreOfText cmp each text Invalid these
  of_kit : {o : Outcome} {these : List Said} (k : KitValue) → IsKitIn text k → TellsOutcome k o → AreOfKit cmp each text k these → AreOfText cmp each text o these

-- a text goes on with the headings of these messages, in order, among other lines
pub data Shows (source : SourceValue) (old : List ℕ) : List Said → List ℕ → Type 0 where
  nothing : Shows source old [] old
  others : {these : List Said} {text : List ℕ} (words : List ℕ) → Shows source old these text → Shows source old these (text ++ words)
  heading : {these : List Said} {text : List ℕ} (m : Said) → Shows source old these text → Shows source old (these ++ m ∷ []) (text ++ heading_if source m.severity m.span m.words)

-- some of which P holds, and whose places lie within the text
abbrev pub ShowsSome : (List Said → Type 0) → SourceValue → List ℕ → List ℕ → Type 0
ShowsSome P source old new = (these : List Said) × P these × All (λ m. IfSome m.span (IsPartOf source.text)) these × Shows source old these new

-- a text that was read as it is shown, in plain
abbrev pub source_of : List ℕ → List ℕ → SourceValue
source_of text path = record { text = text; shown = text; places = []; path = path; color = false }
