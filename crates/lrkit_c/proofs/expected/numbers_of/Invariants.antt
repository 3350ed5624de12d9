-- The numbers so far are those of the bits so far.
use Rattle.std.proofs.Common.{◌≡◌, false}
use Rattle.std.specs.Prelude.{slice_get, unwrap_or}
use Rattle.lrlex.specs.Lexing.{numbers_below}
use Rattle.lrkit_c.proofs.expected.numbers_of.Given as goal

abbrev pub invariant-tokens : goal.invariant-tokens
invariant-tokens l = l.numbers.items ≡ numbers_below (λ k. unwrap_or (slice_get l.bits.bits k) false) l.token
