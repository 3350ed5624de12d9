use Rattle.std.proofs.Common.{◌≡◌, ℕ, [], List, take}
use Rattle.std.specs.Prelude.{map, filter}
use Rattle.std.specs.Option.{option_map_or}
use Rattle.std.specs.BTreeMap.{get_by_text}
use Rattle.std.specs.Str.{bytes_eq}
use Rattle.std.specs.String.{string_bytes}
use Rattle.cfg_sections.proofs.header.repeats.spans_by_key.Given as goal

abbrev pub invariant-pairs : goal.invariant-pairs
invariant-pairs l = (q : List ℕ) → option_map_or (λ g. g.items) (get_by_text l.spans q) [] ≡ map (λ p. p.span) (filter (λ p. bytes_eq q (string_bytes p.key)) (take l.pair-index l.pairs))
