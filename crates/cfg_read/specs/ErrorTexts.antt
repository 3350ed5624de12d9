-- What errors of a grammar text print.
use Rattle.std.specs.Prelude.{ℕ, List, [], ◌++◌, codes}
use Rattle.cfg_sections.specs.HeaderErrors.{header_error_text}
use Rattle.cfg_read.specs.declared.yacc.parser.error.YaccGrammarErrorKind.{YaccGrammarErrorKind}
use Rattle.cfg_read.specs.declared.yacc.parser.error.YaccGrammarErrorKind.TheVariants as faults
use Rattle.cfg_read.specs.declared.yacc.parser.error.ReadError.{ReadError}
use Rattle.cfg_read.specs.declared.yacc.parser.error.ReadError.TheVariants as reading
use Rattle.cfg_read.specs.declared.yacc.kind.KindError.{KindError}
use Rattle.cfg_read.specs.declared.yacc.kind.KindError.TheVariants as kinds
use Rattle.cfg_read.specs.declared.yacc.validity_info.ASTModificationError.{ASTModificationError}
use Rattle.cfg_read.specs.declared.yacc.validity_info.ASTModificationError.TheVariants as changes
use Rattle.cfg_read.specs.Validity as told
use Rattle.cfg_read.specs.Validity.{FailureKind}
use Rattle.cfg_read.specs.ErrorModels.{kind_of}

-- Faults of reading, and a kind that isn't told. The last three are never given, and print their own names.
abbrev pub fault_text : YaccGrammarErrorKind → List ℕ
fault_text faults.IllegalInteger = codes "Illegal integer"
fault_text faults.IllegalName = codes "Illegal name"
fault_text faults.IllegalString = codes "Illegal string"
fault_text faults.InvalidString = codes "Invalid string"
fault_text faults.IncompleteRule = codes "Incomplete rule"
fault_text faults.IncompleteComment = codes "Incomplete comment"
fault_text faults.IncompleteAction = codes "Incomplete action"
fault_text faults.MissingColon = codes "Missing ':'"
fault_text faults.MissingRightArrow = codes "Missing '->'"
fault_text faults.NonEmptyProduction = codes "%empty used in non-empty production"
fault_text faults.PrematureEnd = codes "File ends prematurely"
fault_text faults.ProductionNotTerminated = codes "Production not terminated correctly"
fault_text faults.UnknownDeclaration = codes "Unknown declaration"
fault_text faults.PrecNotFollowedByToken = codes "%prec not followed by token name"
fault_text faults.ReachedEOL = codes "Reached end of line without finding expected content"
fault_text faults.InvalidYaccKind = codes "Invalid yacc kind"
fault_text faults.ExpectedInput = codes "ExpectedInput"
fault_text faults.MismatchedBrace = codes "MismatchedBrace"
fault_text faults.ProgramsNotSupported = codes "ProgramsNotSupported"
-- the kinds of other failures are no faults
fault_text _ = []

abbrev pub failure_text : FailureKind → List ℕ
failure_text told.NoStartRule = codes "No start rule specified"
failure_text (told.InvalidStartRule name) = codes "Start rule '" ++ (name ++ codes "' does not appear in grammar")
failure_text (told.UnknownRuleRef name) = codes "Unknown reference to rule '" ++ (name ++ codes "'")
failure_text (told.NoPrecForToken name) = codes "Token '" ++ (name ++ codes "' used in %prec has no precedence attached")
failure_text (told.UnknownEPP name) = codes "Unknown token '" ++ (name ++ codes "' in %epp declaration")
failure_text (told.UnknownToken name) = codes "Unknown token '" ++ (name ++ codes "'")
failure_text told.UnknownSymbol = codes "Unknown symbol, expected a rule or token"
failure_text told.DuplicatePrecedence = codes "Token has multiple precedences specified"
failure_text told.DuplicateEPP = codes "Duplicated %epp declaration"
failure_text told.DuplicateAvoidInsertDeclaration = codes "Duplicated %avoid_insert declaration"
failure_text told.DuplicateImplicitTokensDeclaration = codes "Duplicated %implicit_tokens declaration"
failure_text told.DuplicateStartDeclaration = codes "Duplicated %start declaration"
failure_text told.DuplicateExpectDeclaration = codes "Duplicated %expect declaration"
failure_text told.DuplicateExpectRRDeclaration = codes "Duplicated %expect-rr declaration"
failure_text told.DuplicateActiontypeDeclaration = codes "Duplicated %actiontype declaration"
failure_text (told.Fault kind) = fault_text kind
failure_text (told.Header kind spanskind) = header_error_text kind

-- what has no text of its own prints its name
abbrev pub read_error_text : ReadError → List ℕ
read_error_text (reading.Memory e) = codes "Memory"
read_error_text (reading.Fault kind offset) = failure_text (kind_of kind)

abbrev pub kind_error_text : {T : Type 0} → KindError T → List ℕ
kind_error_text (kinds.Memory e) = codes "Memory"
kind_error_text (kinds.Invalid e) = codes "Invalid"

abbrev pub change_error_text : ASTModificationError → List ℕ
change_error_text (changes.Memory e) = codes "Memory"
change_error_text changes.UnknownRule = codes "Rule does not appear in grammar"
