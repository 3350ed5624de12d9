use Rattle.std.proofs.Common.{ℕ, length}
use Rattle.lrtable.specs.Builders.{IsBuilder, GoesOn, states_in}
use Rattle.lrtable.specs.StateViews.{edges_of}
use Rattle.lrtable.specs.Revisits.{core_noted}
use Rattle.lrtable.proofs.Revisits.{IsThrough}
use Rattle.lrtable.proofs.revisiting.retake_all.Given as goal

abbrev pub invariant-edges : goal.invariant-edges
invariant-edges g l =
    let number = g.S.IndexStorage.number in
    (n : ℕ) × record {
      through : IsThrough l.grm.grammar (core_noted number l.was l.rows) l.initial.builder.from (edges_of number l.was.edges.items) l.near n (states_in number l.initial.builder) (states_in number l.builder);
      builder : IsBuilder number g.S.IndexStorage.MAX l.builder;
      goes : GoesOn number l.initial.builder l.builder;
    }
