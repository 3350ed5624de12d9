-- How the parts of a grammar grow.
use Rattle.std.specs.Prelude.{◌≡◌, ℕ, List, ◌++◌, map}
use Rattle.cfg_theory.specs.Grammar.{Production}
use Rattle.cfg_numbered.specs.Info.{production_of, production_facts}
use Rattle.cfgrammar.specs.FromAst.{added_production_facts}
use Rattle.cfg_numbered.specs.declared.yacc.info.ProductionInfo.{ProductionInfo}

-- added productions stand behind the others
pub record Adds {S : Type 0} (number : S → ℕ) (old new : List (ProductionInfo S)) (added : List Production) : Type 0 where
  pub productions : map (production_of number) new ≡ map (production_of number) old ++ added
  pub facts : map production_facts new ≡ map production_facts old ++ map added_production_facts added
