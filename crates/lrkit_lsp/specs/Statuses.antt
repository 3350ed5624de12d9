-- The statuses that the program ends with.
use Rattle.std.specs.Prelude.{◌≡◌, ℕ, Result, Ok, Err}
use Rattle.language_server.specs.declared.server.Phase.{Phase}
use Rattle.language_server.specs.Protocol.{status_in}
use Rattle.lrkit_lsp.specs.declared.fault.ProgramFault.{ProgramFault}
use Rattle.lrkit_lsp.specs.declared.fault.ProgramFault.TheVariants.{NoParser, Serve, Stream, Unread}

-- that of some phase: 0 or 1
abbrev pub IsStatus : ℕ → Type 0
IsStatus s = (phase : Phase) × (s ≡ status_in phase)

-- the server's; a file, the input or the output; memory; the grammar or the lexer
abbrev pub status_of : Result ℕ ProgramFault → ℕ
status_of (Ok s) = s
status_of (Err Stream) = 5
status_of (Err (Serve fault)) = 6
status_of (Err (Unread line)) = 5
status_of (Err (NoParser line)) = 2
