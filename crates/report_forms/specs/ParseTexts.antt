-- The parse of a text as one JSON object.
use Rattle.std.specs.Prelude.{ℕ, List, codes}
use Rattle.serde.specs.Event.{Log, Then, WritesOption, WritesSeq}
use Rattle.report_forms.specs.ObjectTexts.{InObject, IsLineOf, Member, Name, Number, Text, WritesRange}
use Rattle.report_forms.specs.declared.parse_values.Parse.{Parse}
use Rattle.report_forms.specs.declared.parse_values.Step.{Step}
use Rattle.report_forms.specs.declared.parse_values.TextError.{TextError}
use Rattle.report_forms.specs.declared.parse_values.TreeNode.{TreeNode}

abbrev pub WritesStep : Step → Log → Log → Type 0
WritesStep s = InObject (Then (Member (codes "edit") (Text s.edit.now)) (Then (Member (codes "token") (Text s.token.now)) (Member (codes "text") (WritesOption (λ t. Text t.now) s.text))))

abbrev pub WritesTextError : TextError → Log → Log → Type 0
WritesTextError e = InObject (Then (Member (codes "message") (Name e.message)) (Then (Member (codes "range") (WritesRange e.range)) (Then (Member (codes "expected") (WritesSeq (λ t. Text t.now) e.expected.items)) (Member (codes "repairs") (WritesSeq (λ steps. WritesSeq WritesStep steps.items) e.repairs.items)))))

abbrev pub WritesNode : TreeNode → Log → Log → Type 0
WritesNode n = InObject (Then (Member (codes "kind") (Text n.kind.now)) (Then (Member (codes "name") (Text n.name.now)) (Then (Member (codes "start") (Number n.start)) (Then (Member (codes "end") (Number n.end)) (Then (Member (codes "parent") (WritesOption Number n.parent)) (Member (codes "text") (WritesOption (λ t. Text t.now) n.text)))))))

abbrev pub WritesParse : Parse → Log → Log → Type 0
WritesParse p = InObject (Then (Member (codes "version") (Number p.version)) (Then (Member (codes "path") (Text p.path.now)) (Then (Member (codes "line") (WritesOption Number p.line)) (Then (Member (codes "errors") (WritesSeq WritesTextError p.errors.items)) (Then (Member (codes "tree") (WritesOption (λ v. WritesSeq WritesNode v.items) p.tree)) (Member (codes "next") (WritesOption (λ v. WritesSeq (λ t. Text t.now) v.items) p.next)))))))

-- the object's text without spaces, and a line feed
abbrev pub IsParseLine : Parse → List ℕ → Type 0
IsParseLine p = IsLineOf (WritesParse p)
