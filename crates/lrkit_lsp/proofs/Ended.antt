-- A status that a message ends the server with is that of a phase.
use Rattle.std.proofs.Common.{◌≡◌, ℕ, Option, IfSome, refl, subst, sym}
use Rattle.language_server.specs.declared.messages.Message.{Message}
use Rattle.language_server.specs.declared.messages.Message.TheVariants.{Malformed, Notification, Reply, Request}
use Rattle.language_server.specs.declared.messages.Notice.TheVariants as notices
use Rattle.language_server.specs.declared.server.Phase.{Phase}
use Rattle.language_server.specs.Protocol.{status_after}
use Rattle.lrkit_lsp.specs.Statuses.{IsStatus}

pub of_message : (p : Phase) (m : Message) → IfSome (status_after p m) IsStatus
of_message p (Request id method params) = tt
of_message p (Notification notices.Exit params) = (p, refl)
of_message p (Notification notices.Opened params) = tt
of_message p (Notification notices.Changed params) = tt
of_message p (Notification notices.Closed params) = tt
of_message p (Notification notices.Other params) = tt
of_message p Reply = tt
of_message p (Malformed id code) = tt

pub of_status : (s : Option ℕ) (p : Phase) (m : Message) → s ≡ status_after p m → IfSome s IsStatus
of_status s p m is = subst (λ (x : Option ℕ). IfSome x IsStatus) (sym is) (of_message p m)
