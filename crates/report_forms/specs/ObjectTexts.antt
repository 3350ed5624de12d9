-- The report as one JSON object: what is written of each value, its members by their keys and in this order.
use Rattle.std.specs.Prelude.{◌≡◌, ℕ, List, [], ◌∷◌, ◌++◌, Option, None, Some, String, codes}
use Rattle.std.specs.String.{string_bytes}
use Rattle.std.specs.declared.alloc.Global.{Global}
use Rattle.serde.specs.Event.{Log, Logs, Then, WritesOption, WritesSeq, field_key, map_begins, map_ends, text, unsigned}
use Rattle.serde.specs.declared.name.Case.TheVariants.{AsIs}
use Rattle.serde_json.specs.Sent.{IsTextOf}
use Rattle.report_forms.specs.declared.values.Action.{Action}
use Rattle.report_forms.specs.declared.values.Conflict.{Conflict}
use Rattle.report_forms.specs.declared.values.Counts.{Counts}
use Rattle.report_forms.specs.declared.values.Example.{Example}
use Rattle.report_forms.specs.declared.values.Object.{Object}
use Rattle.report_forms.specs.declared.values.Place.{Place}
use Rattle.report_forms.specs.declared.values.Production.{Production}
use Rattle.report_forms.specs.declared.values.Range.{Range}
use Rattle.report_forms.specs.declared.values.Said.{Said}

-- what is written between the braces of an object
abbrev pub InObject : (Log → Log → Type 0) → Log → Log → Type 0
InObject members old new = (first last : Log) × Logs old first (map_begins None) × members first last × Logs last new map_ends

-- a key, and what is written behind it
abbrev pub Member : List ℕ → (Log → Log → Type 0) → Log → Log → Type 0
Member key value old new = (mid : Log) × Logs old mid (field_key key AsIs) × value mid new

abbrev pub Number : ℕ → Log → Log → Type 0
Number n old new = Logs old new (unsigned n)

abbrev pub Text : List ℕ → Log → Log → Type 0
Text t old new = Logs old new (text t)

abbrev pub Name : String Global → Log → Log → Type 0
Name t old new = Logs old new (text (string_bytes t))

-- a member that is left out where it has no value
abbrev pub MemberIf : List ℕ → Option ℕ → Log → Log → Type 0
MemberIf key None old new = new ≡ old
MemberIf key (Some n) old new = Member key (Number n) old new

abbrev pub WritesPlace : Place → Log → Log → Type 0
WritesPlace p = InObject (Then (Member (codes "byte") (Number p.byte)) (Then (Member (codes "line") (Number p.line)) (Then (Member (codes "column") (Number p.column)) (Member (codes "utf16_column") (Number p.utf16_column)))))

abbrev pub WritesRange : Range → Log → Log → Type 0
WritesRange r = InObject (Then (Member (codes "start") (WritesPlace r.start)) (Member (codes "end") (WritesPlace r.end)))

abbrev pub WritesSaid : Said → Log → Log → Type 0
WritesSaid s = InObject (Then (Member (codes "severity") (Text s.severity.now)) (Then (Member (codes "message") (Name s.message)) (Then (Member (codes "range") (WritesOption WritesRange s.range)) (Then (Member (codes "help") (WritesOption Name s.help)) (Member (codes "example") (WritesOption Name s.example))))))

abbrev pub WritesProduction : Production → Log → Log → Type 0
WritesProduction p = InObject (Then (Member (codes "production") (Name p.production)) (Then (MemberIf (codes "dot") p.dot) (Member (codes "range") (WritesOption WritesRange p.range))))

abbrev pub WritesAction : Action → Log → Log → Type 0
WritesAction a = InObject (Then (Member (codes "spine") (WritesSeq WritesProduction a.spine.items)) (Member (codes "steps") (WritesSeq WritesProduction a.steps.items)))

abbrev pub WritesExample : Example → Log → Log → Type 0
WritesExample e = InObject (Then (Member (codes "symbols") (WritesSeq Name e.symbols.items)) (Then (Member (codes "token") (Name e.token)) (Then (Member (codes "first") (WritesAction e.first)) (Member (codes "second") (WritesAction e.second)))))

abbrev pub WritesConflict : Conflict → Log → Log → Type 0
WritesConflict c = InObject (Then (Member (codes "kind") (Text c.kind.now)) (Then (Member (codes "tokens") (WritesSeq Name c.tokens.items)) (Then (Member (codes "states") (WritesSeq Number c.states.items)) (Then (Member (codes "productions") (WritesSeq WritesProduction c.productions.items)) (Then (Member (codes "shift") (WritesOption WritesRange c.shift)) (Member (codes "example") (WritesOption WritesExample c.example)))))))

abbrev pub WritesCounts : Counts → Log → Log → Type 0
WritesCounts c = InObject (Then (Member (codes "rules") (Number c.rules)) (Then (Member (codes "tokens") (Number c.tokens)) (Then (Member (codes "productions") (Number c.productions)) (Then (Member (codes "states") (Number c.states)) (Then (Member (codes "shift_reduce") (Number c.shift_reduce)) (Then (Member (codes "reduce_reduce") (Number c.reduce_reduce)) (Then (Member (codes "expected_shift_reduce") (Number c.expected_shift_reduce)) (Member (codes "expected_reduce_reduce") (Number c.expected_reduce_reduce)))))))))

abbrev pub WritesObject : Object → Log → Log → Type 0
WritesObject o = InObject (Then (Member (codes "version") (Number o.version)) (Then (Member (codes "status") (Number o.status)) (Then (Member (codes "errors") (WritesSeq WritesSaid o.errors.items)) (Then (Member (codes "warnings") (WritesSeq WritesSaid o.warnings.items)) (Then (Member (codes "conflicts") (WritesSeq WritesConflict o.conflicts.items)) (Then (Member (codes "counts") (WritesOption WritesCounts o.counts)) (Member (codes "notes") (WritesSeq WritesSaid o.notes.items))))))))

-- the text of what is written, without spaces, and a line feed
abbrev pub IsLineOf : (Log → Log → Type 0) → List ℕ → Type 0
IsLineOf writes line = (log : Log) × writes (Some []) log × (value : List ℕ) × IsTextOf log value × (line ≡ value ++ 10 ∷ [])

abbrev pub IsObjectLine : Object → List ℕ → Type 0
IsObjectLine o = IsLineOf (WritesObject o)
