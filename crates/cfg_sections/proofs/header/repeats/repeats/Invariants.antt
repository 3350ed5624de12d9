use Rattle.std.proofs.Common.{◌≡◌, ℕ, ◌++◌, [], List, take, drop}
use Rattle.std.specs.Prelude.{map, if◌then◌else◌}
use Rattle.std.specs.Option.{option_map_or}
use Rattle.std.specs.BTreeMap.{get_by_text}
use Rattle.cfg_sections.specs.SectionResults.{pair_text, error_text, repeat_text}
use Rattle.cfg_sections.specs.SectionRepeats.{spans_of, is_named, repeats_behind, repeats_of}
use Rattle.cfg_sections.proofs.header.repeats.repeats.Given as goal

abbrev pub invariant-pairs : goal.invariant-pairs
invariant-pairs l = record {
  left : (q : List ℕ) → option_map_or (λ g. g.items) (get_by_text l.spans q) [] ≡ (if is_named q (map pair_text (take l.pair-index l.pairs)) then [] else spans_of q (map pair_text l.pairs));
  told : map error_text l.repeats.items ++ map repeat_text (repeats_behind (map pair_text l.pairs) (map pair_text (take l.pair-index l.pairs)) (map pair_text (drop l.pair-index l.pairs))) ≡ map repeat_text (repeats_of (map pair_text l.pairs));
}
