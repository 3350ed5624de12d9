use Rattle.std.proofs.Common.{◌≡◌, map, take, reverse}
use Rattle.cfg_numbered.specs.Symbols.{syms_of}
use Rattle.conflict_examples.specs.ExampleViews.{open_item}
use Rattle.conflict_examples.specs.Spines.{behind}
use Rattle.conflict_examples.proofs.forms.behind_innermost.Given as goal

-- what stands behind the productions before the index
abbrev pub invariant-items : goal.invariant-items
invariant-items g l =
    let number = g.S.IndexStorage.number in
    reverse (syms_of number l.rest.items) ≡ behind l.grm.grammar (reverse (map (open_item number) (take l.k l.items)))
