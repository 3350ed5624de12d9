use Rattle.std.proofs.Common.{◌≡◌, map, take}
use Rattle.std.specs.List.{enumerate_from, filter_map}
use Rattle.cfg_numbered.specs.Value.{TokenFacts}
use Rattle.cfg_numbered.proofs.yacc.grammar.NumberedGrammar.tokens_map.Given as goal

abbrev pub invariant-names : goal.invariant-names
invariant-names g l = map (λ e. (g.S.IndexStorage.number e.1.0, e.0.now)) l.indices.entries ≡ enumerate_from 0 (take l.number (filter_map (λ (k : TokenFacts). k.name) l.self.tokens))
