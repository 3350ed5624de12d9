-- The forms of a report.
use Rattle.std.specs.Prelude.{ℕ, true, false, Some, ⊤}
use Rattle.report_values.specs.Drawn.{Exceeds}
use Rattle.report_values.specs.declared.findings.Wanted.{Wanted}
use Rattle.report_values.specs.declared.findings_error.FindingsError.{FindingsError}
use Rattle.report_values.specs.declared.findings_error.FindingsError.TheVariants as findings
use Rattle.lrkit_check.specs.declared.fault.CheckFault.{CheckFault}
use Rattle.lrkit_check.specs.declared.fault.CheckFault.TheVariants.{Memory, TooManyStates, Unwritten}
use Rattle.lrkit_check.specs.declared.forms.Form.{Form}
use Rattle.lrkit_check.specs.declared.forms.Form.TheVariants.{Dot, Html, Json, Text}

-- how many states are drawn at most
abbrev pub most_states : ℕ
most_states = 2000

-- a page holds examples and rules; a graph holds states alone
abbrev pub page_values : Wanted
page_values = record { conflicts = true; each = false; full = false; rules = true; states = Some most_states }

abbrev pub wanted_of : Form → Wanted
wanted_of (Text asked) = page_values
wanted_of (Json wanted) = wanted
wanted_of Dot = record page_values { conflicts = false; rules = false }
wanted_of (Html title) = page_values

-- memory is wanting
abbrev pub IsWant : CheckFault → Type 0
IsWant (Memory e) = ⊤
IsWant Unwritten = ⊤
IsWant e = ⊥

-- a form is refused for want of memory, and a drawing also for more states than are drawn
abbrev pub IsRefusalOf : Form → CheckFault → Type 0
IsRefusalOf form (TooManyStates count) = Exceeds (wanted_of form).states count
IsRefusalOf form e = IsWant e

-- the program's fault for values that are not made
abbrev pub fault_of_findings : FindingsError → CheckFault
fault_of_findings (findings.TooManyStates count) = TooManyStates count
fault_of_findings (findings.Memory e) = Memory e
