use Rattle.std.proofs.Common.{◌≡◌, ◌≤◌, take}
use Rattle.cfg_numbered.specs.Symbols.{syms_of}
use Rattle.grammar_report.specs.Places.{token_count}
use Rattle.grammar_report.proofs.production_places.tokens_before.Given as goal

abbrev pub invariant-symbols : goal.invariant-symbols
invariant-symbols l = (l.count ≡ token_count (syms_of (λ n. n) (take l.index l.body))) × (l.count ≤ l.index)
