use Rattle.std.proofs.Common.{◌≡◌, ◌++◌, map, filter}
use Rattle.cfg_sections.specs.MarkMaps.{is_missing, missing_of}
use Rattle.cfg_sections.proofs.markmap.MarkMap.missing.Given as goal

-- what is found, and what is still to be found
abbrev pub invariant-keys : goal.invariant-keys
invariant-keys g l = map (λ k. k.now) l.found.items ++ map (λ e. e.0) (filter is_missing l.key-iterator) ≡ missing_of l.self
