use Rattle.std.proofs.Common.{◌++◌, map, reverse, ap, ◌∙◌}
use Rattle.cfg_numbered.specs.Symbols.{sym_of, syms_of}
use Rattle.conflict_examples.proofs.symbols.reverse_form.Goals as goal

pub returns : goal.returns
returns g c =
    let number = g.S.IndexStorage.number in
    c.in_ok-push_reversed.ensures ∙ ap (λ l. map (sym_of number) l ++ reverse (syms_of number c.args.symbols.now)) c.new-list.ensures.items
