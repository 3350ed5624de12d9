-- What isn't an error is none that a query can't get.
use Rattle.std.proofs.Common.{◌≡◌, Option, None}
use Rattle.language_server.specs.Protocol.{MayFail}
use Rattle.language_server.specs.declared.messages.ErrorCode.{ErrorCode}
use Rattle.language_server.specs.declared.messages.Query.{Query}

pub no_error : (error : Option ErrorCode) (query : Query) → error ≡ None → MayFail error query
no_error error query is = rw is tt
