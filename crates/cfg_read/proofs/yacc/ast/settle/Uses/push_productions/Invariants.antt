use Rattle.std.proofs.Common.{◌≡◌, ◌++◌, map}
use Rattle.std.specs.List.{flat_map}
use Rattle.cfg_read.specs.SyntaxTexts.{AlternativeText}
use Rattle.cfg_read.specs.Asts.{production_ast}
use Rattle.cfg_read.specs.AstModels.{production_of}
use Rattle.cfg_read.specs.SyntaxModels.{alternative_of}
use Rattle.cfg_read.specs.NameTables.{known_of}
use Rattle.cfg_read.specs.Settling.{uses_of, with_symbols}
use Rattle.cfg_read.proofs.yacc.ast.settle.Uses.push_productions.Given as goal

abbrev pub invariant-alternatives : goal.invariant-alternatives
invariant-alternatives l =
    (map production_of l.made.items ≡ map production_of l.fn.made.items ++ map (production_ast (known_of l.fn.self.table).declared) (map alternative_of l.yielded))
    × (uses_of l.self ≡ with_symbols (uses_of l.fn.self) (flat_map (λ (a : AlternativeText). a.symbols) (map alternative_of l.yielded)))
