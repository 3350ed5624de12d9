-- Each request is answered once.
use Rattle.std.proofs.Common.{◌≡◌, refl, List, [], ◌∷◌, Option, None, Some, ap₂}
use Rattle.language_server.specs.Protocol.{Answers, phase_after}
use Rattle.language_server.specs.Sessions.{AreAnswered, answered, asked}
use Rattle.language_server.specs.declared.answers.Response.{Response}
use Rattle.language_server.specs.declared.messages.ErrorCode.{ErrorCode}
use Rattle.language_server.specs.declared.messages.Id.{Id}
use Rattle.language_server.specs.declared.messages.Message.{Message}
use Rattle.language_server.specs.declared.messages.Message.TheVariants.{Malformed, Notification, Reply, Request}
use Rattle.language_server.specs.declared.server.Phase.{Phase}

-- an answer to an id in front of those to others
one_id : (id : Id) (may : Option ErrorCode → Type 0) (given : Option Response) (answers : List (Option Response)) (ids : List Id) → Answers id may given → answered answers ≡ ids → answered (given ∷ answers) ≡ id ∷ ids
one_id id may given answers ids a same = rw a.is_given (ap₂ (λ (x : Id) (xs : List Id). x ∷ xs) a.same_id same)

pub once : (phase : Phase) (messages : List Message) (answers : List (Option Response)) → AreAnswered phase messages answers → answered answers ≡ asked messages
once phase [] [] are = refl
once phase [] (given ∷ answers) are = absurd are
once phase (message ∷ messages) [] are = absurd are
once phase (Request id method params ∷ messages) (given ∷ answers) are = one_id id _ given answers (asked messages) are.0 (once (phase_after phase (Request id method params)) messages answers are.1)
once phase (Notification notice params ∷ messages) (given ∷ answers) are = rw are.0 (once phase messages answers are.1)
once phase (Reply ∷ messages) (given ∷ answers) are = rw are.0 (once phase messages answers are.1)
once phase (Malformed id code ∷ messages) (given ∷ answers) are = one_id id _ given answers (asked messages) are.0 (once phase messages answers are.1)
