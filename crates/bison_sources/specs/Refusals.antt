-- Files that are not imported.
use Rattle.std.specs.Prelude.{ℕ, Option, None, Some}
use Rattle.cfg_base.specs.SpanModel.{SpanModel}
use Rattle.checked_import.specs.declared.checking.CheckedError.{CheckedError}
use Rattle.checked_import.specs.declared.checking.CheckedError.TheVariants as refusals
use Rattle.yacc_import.specs.declared.errors.ImportError.{ImportError}
use Rattle.yacc_import.specs.declared.errors.ImportError.TheVariants as imports

-- where the file has its first fault
abbrev pub fault_place : ImportError → Option SpanModel
fault_place (imports.Refused fault at) = Some (record { start = at; end = at })
fault_place (imports.Memory e) = None

-- what the check of an import finds has no place
abbrev pub place_of_refusal : CheckedError → Option SpanModel
place_of_refusal (refusals.Import e) = fault_place e
place_of_refusal refusals.NoRules = None
place_of_refusal (refusals.NotRead at) = None
place_of_refusal refusals.OtherRules = None
place_of_refusal refusals.OtherStart = None
place_of_refusal refusals.OtherLevels = None
place_of_refusal refusals.TooManyNames = None
place_of_refusal (refusals.Memory e) = None
