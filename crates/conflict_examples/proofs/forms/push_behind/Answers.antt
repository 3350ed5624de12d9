use Rattle.std.proofs.Common.{suc, drop, ap, ◌∙◌}
use Rattle.std.proofs.lemmas.Result.{IfOk-weaker}
use Rattle.cfg_theory.specs.Grammar.{body_of}
use Rattle.cfg_numbered.specs.Symbols.{sym_of}
use Rattle.conflict_examples.proofs.StepLists.{pushed_behind}
use Rattle.conflict_examples.proofs.forms.push_behind.Goals as goal

pub returns : goal.returns
returns g c =
    let number = g.S.IndexStorage.number in
    let body = c.symbols_of.result.now in
    IfOk-weaker c.push_reversed.result _ _ (λ _ e. pushed_behind (sym_of number) c.args.rest.now.items c.push_reversed.new.list.items body c.symbols_behind-behind.result.now (body_of c.args.grm.now.grammar (number c.args.pidx.0)) (suc (number c.args.dot.0))
    c.symbols_of.ensures (c.symbols_behind-behind.ensures ∙ ap (λ k. drop (suc k) body) c.to_usize.ensures.value) e) c.push_reversed.ensures
