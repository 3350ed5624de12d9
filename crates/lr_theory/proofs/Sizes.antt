-- The sizes of a building.
use Rattle.std.proofs.Common.{◌≡◌, ℕ, ◌<◌, ◌≤◌, length, arith}
use Rattle.cfg_theory.specs.Grammar.{Grammar, WellFormed}
use Rattle.lr_theory.specs.Building.{Building, Underway, Built}
use Rattle.lr_theory.proofs.BuildingDeterminism.{moments_are_unique}
use Rattle.lr_theory.specs.Sizes.{GrowsPast, StaysWithin, BuildingSizes}

pub building_sizes : BuildingSizes
building_sizes = record {
  within = λ G b top good built le c underway. let m = moments_are_unique.most_underway G b c good built underway in omega (arith, le, m);
  apart = λ G top grows stays. let m = stays grows.moment grows.underway in let p = grows.past in absurd (omega (arith, m, p));
}
