use Rattle.std.proofs.lemmas.Result.{IfOk-weaker}
use Rattle.promises.proofs.Answered.{fault_known, output_known}
use Rattle.promises.proofs.runs.a_run_answers_what_its_inputs_have.Goals as goal

pub returns-clause-output : goal.returns-clause-output
returns-clause-output g c = λ grammar lines repairs is_grammar are_lines are_repairs. IfOk-weaker _ _ _ (output_known grammar lines repairs _ _ _ _ _ is_grammar are_lines are_repairs) c.run.ensures.ok

pub returns-clause-refusal : goal.returns-clause-refusal
returns-clause-refusal g c = λ grammar lines repairs is_grammar are_lines are_repairs.
    fault_known grammar lines repairs _ _ _ _ _ _ _ _ _ is_grammar are_lines are_repairs _ c.run.ensures.refused c.run.ensures.early c.run.ensures.in_grammar c.run.ensures.in_lines c.run.ensures.in_repairs
