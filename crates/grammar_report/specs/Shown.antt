-- What is shown of listed conflicts.
use Rattle.std.specs.Prelude.{ℕ, option_map}
use Rattle.conflict_examples.specs.ExampleViews.{FinderValue, example_of}
use Rattle.conflict_examples.specs.ListedExamples.{IsListedExample}
use Rattle.conflict_examples.specs.declared.examples.ConflictExample.{ConflictExample}
use Rattle.refused_tables.specs.declared.listed.Listed.{Listed}

-- an example of it
abbrev pub IsExampleOf : FinderValue → Listed → ConflictExample ℕ → Type 0
IsExampleOf v e x = IsListedExample v (option_map (λ q. q.0) e.other) e.pidx.0 e.token.0 e.state.0 (example_of (λ n. n) x)
