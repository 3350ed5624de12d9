use Rattle.std.proofs.Common.{◌≡◌, map}
use Rattle.std.specs.List.{flat_map}
use Rattle.cfg_read.specs.Names.{symbols_in}
use Rattle.cfg_read.specs.Asts.{productions_in}
use Rattle.cfg_read.specs.AstModels.{production_of}
use Rattle.cfg_read.specs.SyntaxModels.{rule_of}
use Rattle.cfg_read.specs.NameTables.{known_of}
use Rattle.cfg_read.specs.Settling.{uses_of, with_symbols}
use Rattle.cfg_read.proofs.yacc.ast.settle.Uses.productions.Given as goal

abbrev pub invariant-rules : goal.invariant-rules
invariant-rules l =
    (map production_of l.made.items ≡ flat_map (productions_in (known_of l.fn.self.table).declared) (map rule_of l.yielded))
    × (uses_of l.self ≡ with_symbols (uses_of l.fn.self) (flat_map symbols_in (map rule_of l.yielded)))
