use Rattle.lrkit.proofs.KitRefusals.{Below}
use Rattle.lrkit.proofs.OneOutput.{one_run_kit}
use Rattle.lrkit.proofs.Stages.{one_fault, output_or_fault}
use Rattle.lrkit.proofs.laws.refusals_are_one.Goals as goal

below : (c : goal.After-refusals_are_exact) → Below
below c = record {
  kinds = c.kinds_of_texts_are_one.ensures;
  kinds_apart = c.one_kind.ensures.apart;
  lacks_once = c.one_kind.ensures.faults;
  answers = c.one_answer.ensures.answers;
  well_made = c.valid_trees_are_well_formed.ensures.kept;
  sound = c.sound_trees_make_grammars.ensures;
  graphs = c.tables_are_one.ensures.graphs;
  tables = c.tables_are_one.ensures.tables;
  has_none = c.refusals_are_exact.ensures.tables;
  one = c.refusals_are_exact.ensures.refusals;
}

pub returns-clause-apart : goal.returns-clause-apart
returns-clause-apart c = output_or_fault (below c) (one_run_kit c.kinds_of_texts_are_one.ensures c.kits_of_texts_are_one.ensures)

pub returns-clause-one : goal.returns-clause-one
returns-clause-one c = one_fault (below c) (one_run_kit c.kinds_of_texts_are_one.ensures c.kits_of_texts_are_one.ensures)
