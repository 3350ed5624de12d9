use Rattle.std.proofs.Common.{◌≡◌, ◌++◌, drop}
use Rattle.std.specs.List.{flat_map}
use Rattle.std.specs.String.{string_bytes}
use Rattle.cfg_numbered.specs.Symbols.{syms_of}
use Rattle.refused_tables.specs.Derivations.{arrow, forms_to}
use Rattle.refused_tables.proofs.derivations.push_forms.Given as goal

-- the forms that were added, and those that are left
abbrev pub invariant-items : goal.invariant-items
invariant-items l =
    string_bytes l.text ++ flat_map (arrow l.grm) (forms_to l.grm.grammar (syms_of (λ n. n) l.form.items) (drop l.index l.opened)) ≡
    string_bytes l.initial.text ++ flat_map (arrow l.grm) (forms_to l.grm.grammar (syms_of (λ n. n) l.first) l.opened)
