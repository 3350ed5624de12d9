-- Messages one after another, and what they are answered.
use Rattle.std.specs.Prelude.{List, [], ◌∷◌, Option, None, Some, ⊤}
use Rattle.language_server.specs.Protocol.{IsAnswered, phase_after}
use Rattle.language_server.specs.declared.answers.Response.{Response}
use Rattle.language_server.specs.declared.messages.Id.{Id}
use Rattle.language_server.specs.declared.messages.Message.{Message}
use Rattle.language_server.specs.declared.messages.Message.TheVariants.{Malformed, Notification, Reply, Request}
use Rattle.language_server.specs.declared.server.Phase.{Phase}

-- each message gets what it may get in the phase that those before it lead to
abbrev pub AreAnswered : Phase → List Message → List (Option Response) → Type 0
AreAnswered phase [] [] = ⊤
AreAnswered phase [] (given ∷ answers) = ⊥
AreAnswered phase (message ∷ messages) [] = ⊥
AreAnswered phase (message ∷ messages) (given ∷ answers) = IsAnswered phase message given × AreAnswered (phase_after phase message) messages answers

-- the ids of what is to be answered, in order: requests, and what is no message
abbrev pub asked : List Message → List Id
asked [] = []
asked (Request id method params ∷ messages) = id ∷ asked messages
asked (Notification notice params ∷ messages) = asked messages
asked (Reply ∷ messages) = asked messages
asked (Malformed id code ∷ messages) = id ∷ asked messages

-- the ids of what is answered
abbrev pub answered : List (Option Response) → List Id
answered [] = []
answered (None ∷ answers) = answered answers
answered (Some response ∷ answers) = response.id ∷ answered answers
