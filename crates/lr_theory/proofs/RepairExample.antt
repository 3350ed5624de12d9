-- A missing lexeme is inserted: the empty text in `^: S; S: x;`.
use Rattle.std.proofs.Common.{◌≡◌, [], ◌∷◌, refl, arith}
use Rattle.cfg_theory.specs.Grammar.{head_of, body_of}
use Rattle.lr_theory.specs.Machine.{accepted, failed, run, start_config}
use Rattle.lr_theory.specs.Repair.{insert, Takes, Parses}
use Rattle.lr_theory.specs.SmallGrammars.{single, single_machine, made, single_tree, MissingLexemeIsInserted}
use Rattle.lr_theory.specs.Building.{with_edge}
use Rattle.cfg_theory.specs.SmallGrammar.{as_is}
use Rattle.lr_theory.proofs.SingleMachine.{single_meets}

fails : run single single_machine as_is 1 (start_config single_machine []) ≡ failed (start_config single_machine [])
fails = refl

accepts : run single single_machine as_is 3 (start_config single_machine (0 ∷ [])) ≡ accepted single_tree
unfolding body_of head_of with_edge
accepts = refl

takes : Takes single single_machine as_is made (start_config single_machine []) (insert 0 ∷ [])
takes = record { put = 0 ∷ []; left = []; applied = refl; no_end = ((λ e. absurd (omega (arith, e))), tt); gets_past = (3, single_tree, accepts) }

pub missing_lexeme_is_inserted : MissingLexemeIsInserted
unfolding takes
missing_lexeme_is_inserted = record {
  meets = single_meets;
  takes = takes;
  parses = Parses.repairs 1 (start_config single_machine []) (insert 0 ∷ []) [] fails (record { earlier = []; later = []; is_offered = refl; are_refused = tt; takes = takes }) refl (Parses.accepts 3 single_tree accepts refl refl refl);
  advances = tt;
  folds = (0, [], refl, (0 ∷ [], (0, [], refl, refl, refl), refl), refl);
}
