use Rattle.std.proofs.Common.{◌≡◌, ◌++◌, drop}
use Rattle.std.specs.Prelude.{codes}
use Rattle.std.specs.String.{string_bytes}
use Rattle.refused_tables.specs.ExampleTexts.{spine_text}
use Rattle.refused_tables.proofs.examples.push_spine.Given as goal

-- what was added, and what is left
abbrev pub invariant-items : goal.invariant-items
invariant-items l = string_bytes l.text ++ spine_text l.grm (string_bytes l.front) (drop l.index l.spine) ≡ string_bytes l.initial.text ++ spine_text l.grm (codes "    ") l.spine
