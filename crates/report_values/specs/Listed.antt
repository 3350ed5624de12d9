-- How many messages findings list.
use Rattle.std.specs.Prelude.{◌≡◌, ◌<◌, ◌+◌, ℕ, length}
use Rattle.report_forms.specs.declared.values.Object.{Object}
use Rattle.report_values.specs.declared.ranges.LeftOut.{LeftOut}

-- errors and warnings
abbrev pub listed_len : Object → ℕ
listed_len o = length o.errors.items + length o.warnings.items

abbrev pub left_len : LeftOut → ℕ
left_len l = l.errors + l.warnings

-- none is left out of a list that has room
abbrev pub LeavesOut : ℕ → ℕ → ℕ → Type 0
LeavesOut most listed left = listed < most → left ≡ 0

-- of errors and of warnings
abbrev pub LeavesFew : ℕ → Object → LeftOut → Type 0
LeavesFew most o l = LeavesOut most (length o.errors.items) l.errors × LeavesOut most (length o.warnings.items) l.warnings
