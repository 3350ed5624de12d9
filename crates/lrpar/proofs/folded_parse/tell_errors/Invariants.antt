use Rattle.std.proofs.Common.{◌≡◌, map, take}
use Rattle.lrpar.specs.Parsing.{errors_of}
use Rattle.lrpar.specs.Told.{told_of, as_told}
use Rattle.lrpar.proofs.folded_parse.tell_errors.Given as goal

abbrev pub invariant-errors : goal.invariant-errors
invariant-errors g l = map (told_of g.S.IndexStorage.number) l.told.items ≡ map (as_told l.lexemes) (errors_of g.S.IndexStorage.number (take l.error-index l.found))
