-- Which message gets which answer. Each message takes the server from a phase to a phase, and gets at most one answer.
use Rattle.std.specs.Prelude.{◌≡◌, ℕ, ℤ, negsuc, List, Option, None, Some, codes, ⊤}
use Rattle.language_server.specs.declared.messages.Id.{Id}
use Rattle.language_server.specs.declared.messages.ErrorCode.{ErrorCode}
use Rattle.language_server.specs.declared.messages.ErrorCode.TheVariants.{InvalidRequest, MethodNotFound, ParseError, RequestFailed, ServerNotInitialized}
use Rattle.language_server.specs.declared.messages.Message.{Message}
use Rattle.language_server.specs.declared.messages.Message.TheVariants.{Malformed, Notification, Reply, Request}
use Rattle.language_server.specs.declared.messages.Method.{Method}
use Rattle.language_server.specs.declared.messages.Method.TheVariants as methods
use Rattle.language_server.specs.declared.messages.Query.{Query}
use Rattle.language_server.specs.declared.messages.Query.TheVariants as queries
use Rattle.language_server.specs.declared.messages.Notice.{Notice}
use Rattle.language_server.specs.declared.messages.Notice.TheVariants as notices
use Rattle.language_server.specs.declared.answers.Answer.{Answer}
use Rattle.language_server.specs.declared.answers.Answer.TheVariants.{Error, Refused}
use Rattle.language_server.specs.declared.answers.Response.{Response}
use Rattle.language_server.specs.declared.server.Phase.{Phase}
use Rattle.language_server.specs.declared.server.Phase.TheVariants.{Fresh, Ready, Stopped}

-- the protocol's numbers
abbrev pub code_number : ErrorCode → ℤ
code_number ParseError = negsuc 32699
code_number InvalidRequest = negsuc 32599
code_number MethodNotFound = negsuc 32600
code_number ServerNotInitialized = negsuc 32001
code_number RequestFailed = negsuc 32802

abbrev pub code_text : ErrorCode → List ℕ
code_text ParseError = codes "no JSON"
code_text InvalidRequest = codes "no valid request"
code_text MethodNotFound = codes "unknown method"
code_text ServerNotInitialized = codes "not initialized"
code_text RequestFailed = codes "refused"

-- the error that a request gets in a phase, if it gets one
abbrev pub error_of : Phase → Method → Option ErrorCode
error_of Fresh methods.Initialize = None
error_of Fresh methods.Shutdown = Some ServerNotInitialized
error_of Fresh (methods.Asks query) = Some ServerNotInitialized
error_of Fresh methods.Unknown = Some ServerNotInitialized
error_of Ready methods.Initialize = Some InvalidRequest
error_of Ready methods.Shutdown = None
error_of Ready (methods.Asks query) = None
error_of Ready methods.Unknown = Some MethodNotFound
error_of Stopped method = Some InvalidRequest

-- whether what is asked of a document may get this error, or none: only a rename is refused
abbrev pub MayFail : Option ErrorCode → Query → Type 0
MayFail None query = ⊤
MayFail (Some error) queries.Rename = error ≡ RequestFailed
MayFail (Some error) query = ⊥

-- whether a request may get this error in a phase, or none
abbrev pub MayGive : Phase → Method → Option ErrorCode → Type 0
MayGive Ready (methods.Asks query) error = MayFail error query
MayGive phase method error = error ≡ error_of phase method

-- the error of an answer, if it is one
abbrev pub error_in : Answer → Option ErrorCode
error_in (Error code) = Some code
error_in (Refused words) = Some RequestFailed
error_in answer = None

-- this answer and no other: to this id, with an error that it may have or with none
pub record Answers (id : Id) (may : Option ErrorCode → Type 0) (given : Option Response) : Type 0 where
  pub response : Response
  pub is_given : given ≡ Some response
  pub same_id : response.id ≡ id
  pub error : may (error_in response.answer)

-- a request is answered once, with its id; what is no message gets its error; all else gets no answer
abbrev pub IsAnswered : Phase → Message → Option Response → Type 0
IsAnswered phase (Request id method params) given = Answers id (MayGive phase method) given
IsAnswered phase (Notification notice params) given = given ≡ None
IsAnswered phase Reply given = given ≡ None
IsAnswered phase (Malformed id code) given = Answers id (λ error. error ≡ Some code) given

abbrev pub phase_behind : Phase → Method → Phase
phase_behind Fresh methods.Initialize = Ready
phase_behind Ready methods.Shutdown = Stopped
phase_behind phase method = phase

-- the phase that a message leads to: what is no message changes nothing
abbrev pub phase_after : Phase → Message → Phase
phase_after phase (Request id method params) = phase_behind phase method
phase_after phase (Notification notice params) = phase
phase_after phase Reply = phase
phase_after phase (Malformed id code) = phase

-- the status that the server ends with: well only behind `shutdown`
abbrev pub status_in : Phase → ℕ
status_in Fresh = 1
status_in Ready = 1
status_in Stopped = 0

abbrev pub status_on : Phase → Notice → Option ℕ
status_on phase notices.Exit = Some (status_in phase)
status_on phase notices.Opened = None
status_on phase notices.Changed = None
status_on phase notices.Closed = None
status_on phase notices.Other = None

-- the status that the server ends with at a message: only `exit` ends it
abbrev pub status_after : Phase → Message → Option ℕ
status_after phase (Request id method params) = None
status_after phase (Notification notice params) = status_on phase notice
status_after phase Reply = None
status_after phase (Malformed id code) = None
