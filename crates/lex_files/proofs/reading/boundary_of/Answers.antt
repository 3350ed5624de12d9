use Rattle.std.proofs.Common.{}
use Rattle.lex_files.proofs.Cuts.{floor_at}
use Rattle.lex_files.proofs.reading.boundary_of.Goals as goal

pub returns-clause-same : goal.returns-clause-same
returns-clause-same c = floor_at c.args.text.now c.args.offset c.floor_char_boundary.result c.floor_char_boundary.ensures.bound c.floor_char_boundary.ensures.nearest
