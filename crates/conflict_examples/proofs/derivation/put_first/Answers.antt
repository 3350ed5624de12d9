use Rattle.std.proofs.Common.{arith, ◌-◌, take, ap, ◌∙◌}
use Rattle.std.proofs.lemmas.Result.{IfOk-weaker}
use Rattle.cfg_theory.specs.Grammar.{body_of}
use Rattle.cfg_numbered.specs.Symbols.{sym_of}
use Rattle.conflict_examples.proofs.StepLists.{put_before}
use Rattle.conflict_examples.proofs.derivation.put_first.Goals as goal

pub returns : goal.returns
returns g c =
    let number = g.S.IndexStorage.number in
    let old = c.args.form.now in
    IfOk-weaker c.push_reversed.result _ _ (λ _ e. put_before (sym_of number) old.items c.pop-first.new.self.items c.push_reversed.new.list.items c.symbols_of.result.now (body_of c.args.grm.now.grammar (number c.args.pidx.0))
    (c.pop-first.ensures.rest ∙ ap (λ n. take (n - 1) old.items) (grind arith)) c.symbols_of.ensures e) c.push_reversed.ensures
