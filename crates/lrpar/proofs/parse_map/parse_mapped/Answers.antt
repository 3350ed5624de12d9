use Rattle.std.proofs.Common.{of_calls}
use Rattle.parse_trees.specs.Stacks.{mapped_by}
use Rattle.lrpar.proofs.FoldsOver.{results_over}
use Rattle.lrpar.proofs.parse_map.parse_mapped.Goals as goal

pub returns-clause-parsed : goal.returns-clause-parsed
returns-clause-parsed g c =
    let number = g.S.IndexStorage.number in
    let G = c.args.machine.now.grm.now.grammar in
    let v = c.args.machine.now.stable.now in
    results_over number g.L.Lexeme.lex g.L.Lexeme.faulty_of G c.args.machine.now.sgraph.now v (g.R.Recoverer.answers c.args.recoverer.now) c.args.items.now
    _ (mapped_by number (goal.F-post g c.args.fterm.now) (goal.H-post g c.args.fnonterm.now)) _ c.parse_folded.ensures.parsed
    (λ x u k. k) (λ p r s us u k. let w = k.1.8 in (k.0, (k.1.1, k.1.3, k.1.5, k.1.7, search of_calls)))
