use Rattle.std.proofs.Common.{◌≡◌, map}
use Rattle.lrpar.specs.declared.parse_error.LexParseError.TheVariants as errors
use Rattle.lrpar.proofs.handed_out.parse_errors.Given as goal

abbrev pub invariant-errors : goal.invariant-errors
invariant-errors g l = l.told.items ≡ map errors.ParseError l.yielded
