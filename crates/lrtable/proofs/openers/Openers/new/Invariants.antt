use Rattle.std.proofs.Common.{◌≡◌, ℕ, ◌<◌, [], length, get_or, map}
use Rattle.std.specs.declared.alloc.Global.{Global}
use Rattle.std.specs.declared.vec.Vec.{Vec}
use Rattle.cfg_numbered.specs.Value.{productions_of}
use Rattle.lrtable.specs.Closes.{AreFrontsOf}
use Rattle.lrtable.specs.Fronts.{front_of}
use Rattle.lrtable.specs.declared.openers.Opener.{Opener}
use Rattle.lrtable.proofs.openers.Openers.new.Given as goal

abbrev pub invariant-rules : goal.invariant-rules
invariant-rules g l = record {
  count : length l.rules.items ≡ l.number;
  each : (A : ℕ) → A < l.number → AreFrontsOf l.grm.grammar (productions_of l.grm.grammar A) (get_or (map (λ (v : Vec Opener Global). map front_of v.items) l.rules.items) A []);
}
