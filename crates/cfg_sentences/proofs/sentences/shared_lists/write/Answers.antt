use Rattle.std.proofs.Common.{◌≡◌, ℕ, [], ◌∷◌, ◌++◌, List, sym, ap, ◌∙◌}
use Rattle.cfg_sentences.specs.TokenLists.{tokens_of}
use Rattle.cfg_sentences.specs.SharedLists.{stacked}
use Rattle.cfg_sentences.proofs.SharedSteps.{stacked_push}
use Rattle.cfg_sentences.proofs.sentences.shared_lists.write.Goals as goal

pub turns-preserved : goal.turns-preserved
turns-preserved g c =
    let lists = c.args.shared.now.lists in
    record {
      within = c.in_ok-open-in-Some.ensures.rest;
      list = c.in_ok-open-in-Some.ensures.list ∙ ap (λ (l : List ℕ). tokens_of g.S.IndexStorage.number c.turns.out.items ++ l) (sym (ap (stacked lists) c.in-Some.ensures.items ∙ stacked_push lists c.pop.new.self.items c.in-Some.index)) ∙ c.turns.invariant.list;
    }
