use Rattle.std.proofs.Common.{◌≡◌, ap, sym, subst}
use Rattle.std.proofs.lemmas.Result.{err_from_is_err_and}
use Rattle.cfg_numbered.specs.Value.{GrammarValue}
use Rattle.lrpar.specs.Checked.{ParserValue}
use Rattle.cfg_sets.specs.Productive.{EachProductive}
use Rattle.cfg_theory.specs.Decides.{Decides}
use Rattle.parser_kit.proofs.grammar_kit.GrammarKit.new.Goals as goal

pub returns-in_err-graph-clause-refused : goal.returns-in_err-graph-clause-refused
returns-in_err-graph-clause-refused g c =
    let p = err_from_is_err_and c.from_residual-in_err-graph.result c.from_residual-in_err-graph.ensures.1 in
    rw (p.1, p.2) (c.in_err-graph.ensures.refused c.args.cap)

pub invariant_of-result : goal.invariant_of-result
invariant_of-result g c =
    let same : c.in_ok-data.data.grammar ≡ c.args.grm = ap (λ (d : ParserValue). d.grammar) c.in_ok-data.ensures.data in
    (c.in_ok-data.ensures.tabled, subst (λ (v : GrammarValue). Decides (EachProductive v.grammar) c.in_ok-all_productive.all_productive) (sym same) c.in_ok-all_productive.ensures)
