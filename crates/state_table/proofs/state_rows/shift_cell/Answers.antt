use Rattle.std.proofs.Common.{inl, refl, ap}
use Rattle.state_table.specs.CellViews.{state_of}
use Rattle.state_table.proofs.state_rows.shift_cell.Goals as goal

pub returns-in-Some : goal.returns-in-Some
returns-in-Some g c =
    let number = g.S.IndexStorage.number in
    inl (number c.in-Some.target.0, refl, ap (state_of number) c.in-Some.is, refl)
