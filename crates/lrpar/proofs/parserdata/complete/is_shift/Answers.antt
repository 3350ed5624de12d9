use Rattle.std.proofs.Common.{ap}
use Rattle.state_table.specs.CellViews.{action_of}
use Rattle.lrpar.proofs.parserdata.complete.is_shift.Goals as goal

pub returns-in-Shift : goal.returns-in-Shift
returns-in-Shift g c = (g.S.IndexStorage.number c.in-Shift.field-0.0, ap (action_of g.S.IndexStorage.number) c.in-Shift.is)
