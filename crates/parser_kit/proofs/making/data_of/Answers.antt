use Rattle.std.proofs.Common.{refl}
use Rattle.parser_kit.proofs.Tabled.{is_tabled}
use Rattle.parser_kit.proofs.making.data_of.Goals as goal

pub returns-in-Ok-clause-tabled : goal.returns-in-Ok-clause-tabled
returns-in-Ok-clause-tabled g c = is_tabled g.S.IndexStorage.MAX c.args.cap c.args.grm c.args.graph c.args.table c.requires.well_formed c.requires.states c.requires.graph c.requires.table c.in-Ok.data c.in-Ok.ensures.holds c.in-Ok.ensures.chains

pub returns-in-Err-TooManyReductions-clause-refused : goal.returns-in-Err-TooManyReductions-clause-refused
returns-in-Err-TooManyReductions-clause-refused g c = (refl, c.requires.states, record { graph = c.args.graph; table = c.args.table; is_graph = c.requires.graph; is_table = c.requires.table; least = rw c.in-Err-TooManyReductions.field-0-is at c.in-Err-TooManyReductions.ensures.refused })
