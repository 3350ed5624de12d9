-- What bytes and JSON values say as messages. A request is what has an id and a method.
use Rattle.std.specs.Prelude.{◌≡◌, ◌≢◌, ℕ, List, Option, None, Some, IsSome, IsSomeAnd, codes, option_and_then}
use Rattle.std.specs.Str.{IsUtf8}
use Rattle.std.specs.String.{string_bytes}
use Rattle.serde_json.specs.Data.{Data}
use Rattle.serde_json.specs.Find.{as_i64, as_number, as_str, get}
use Rattle.serde_json.specs.Read.{read}
use Rattle.language_server.specs.declared.messages.ErrorCode.TheVariants.{InvalidRequest, ParseError}
use Rattle.language_server.specs.declared.messages.Id.{Id}
use Rattle.language_server.specs.declared.messages.Id.TheVariants.{Null, Number, Text}
use Rattle.language_server.specs.declared.messages.Message.{Message}
use Rattle.language_server.specs.declared.messages.Message.TheVariants.{Malformed, Notification, Reply, Request}
use Rattle.language_server.specs.declared.messages.Method.{Method}
use Rattle.language_server.specs.declared.messages.Method.TheVariants as methods
use Rattle.language_server.specs.declared.messages.Notice.{Notice}
use Rattle.language_server.specs.declared.messages.Notice.TheVariants as notices
use Rattle.language_server.specs.declared.messages.Query.{Query}
use Rattle.language_server.specs.declared.messages.Query.TheVariants as queries

-- the id of a value: a whole number of 64 bits, a text, or none
abbrev pub IsId : Data → Id → Type 0
IsId d (Number n) = option_and_then as_i64 (as_number d) ≡ Some n
IsId d (Text t) = as_str d ≡ Some (string_bytes t)
IsId d Null = (option_and_then as_i64 (as_number d) ≡ None) × (as_str d ≡ None)

-- the name of the method, if there is one
abbrev pub method_in : Data → Option (List ℕ)
method_in d = option_and_then as_str (get (codes "method") d)

-- the name of what is asked of a document
abbrev pub query_text : Query → List ℕ
query_text queries.Symbols = codes "textDocument/documentSymbol"
query_text queries.Folds = codes "textDocument/foldingRange"
query_text queries.Definition = codes "textDocument/definition"
query_text queries.References = codes "textDocument/references"
query_text queries.Highlights = codes "textDocument/documentHighlight"
query_text queries.Renamable = codes "textDocument/prepareRename"
query_text queries.Rename = codes "textDocument/rename"
query_text queries.Completion = codes "textDocument/completion"
query_text queries.Hover = codes "textDocument/hover"

-- the method has this name, or any other one where it is unknown
abbrev pub IsMethod : Method → List ℕ → Type 0
IsMethod methods.Initialize name = name ≡ codes "initialize"
IsMethod methods.Shutdown name = name ≡ codes "shutdown"
IsMethod (methods.Asks query) name = name ≡ query_text query
IsMethod methods.Unknown name = (name ≢ codes "initialize") × (name ≢ codes "shutdown") × ((query : Query) → name ≢ query_text query)

abbrev pub IsNotice : Notice → List ℕ → Type 0
IsNotice notices.Exit name = name ≡ codes "exit"
IsNotice notices.Opened name = name ≡ codes "textDocument/didOpen"
IsNotice notices.Changed name = name ≡ codes "textDocument/didChange"
IsNotice notices.Closed name = name ≡ codes "textDocument/didClose"
IsNotice notices.Other name = (name ≢ codes "exit") × (name ≢ codes "textDocument/didOpen") × (name ≢ codes "textDocument/didChange") × (name ≢ codes "textDocument/didClose")

-- what a value says: of a request also that its id is the value's
abbrev pub Says : Data → Message → Type 0
Says d (Request id method params) = IsSomeAnd (method_in d) (IsMethod method) × IsSomeAnd (get (codes "id") d) (λ i. IsId i id)
Says d (Notification notice params) = IsSomeAnd (method_in d) (IsNotice notice) × (get (codes "id") d ≡ None)
Says d Reply = (method_in d ≡ None) × IsSome (get (codes "id") d)
Says d (Malformed id code) = code ≡ InvalidRequest

-- what bytes say: what the JSON value says that they are, or that they are none
pub data IsRead (bytes : List ℕ) (message : Message) : Type 0 where
  value : (d : Data) → IsUtf8 bytes → read bytes ≡ Some d → Says d message → IsRead bytes message
  no_value : (IsUtf8 bytes → read bytes ≡ None) → message ≡ Malformed Null ParseError → IsRead bytes message
