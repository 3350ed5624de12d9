use Rattle.std.proofs.Common.{◌≡◌, ◌++◌, map}
use Rattle.std.specs.List.{flat_map}
use Rattle.cfg_read.specs.AstModels.{production_of}
use Rattle.cfg_read.specs.Judging.{both_of}
use Rattle.cfg_read.specs.Settling.{fresh_entry, named_fresh}
use Rattle.cfg_read.proofs.yacc.ast.fresh.fresh_productions.Given as goal

abbrev pub invariant-fresh : goal.invariant-fresh
invariant-fresh l =
    map production_of l.made.items ++ flat_map both_of (map fresh_entry l._name-iterator)
    ≡ flat_map both_of (named_fresh l.fresh)
