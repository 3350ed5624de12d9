-- An answer within an answer.
use Rattle.std.proofs.Common.{Ok, Err}
use Rattle.std.specs.Prelude.{Result, IfOk}

pub within_weaker : {X E F : Type 0} (P Q : X → Type 0) → ((x : X) → P x → Q x) → (r : Result (Result X E) F) → IfOk r (λ s. IfOk s P) → IfOk r (λ s. IfOk s Q)
within_weaker P Q f (Ok (Ok x)) k = f x k
within_weaker P Q f (Ok (Err e)) k = k
within_weaker P Q f (Err e) k = k
