-- What a counted reader or writer is made of.
use Rattle.std.specs.Prelude.{ℕ}
use Rattle.byte_streams.specs.declared.counting.Counted.{Counted}

abbrev pub inner_of : {T : Type 0} → Counted T → T
inner_of c = c.inner

abbrev pub failures_of : {T : Type 0} → Counted T → ℕ
failures_of c = c.failures
