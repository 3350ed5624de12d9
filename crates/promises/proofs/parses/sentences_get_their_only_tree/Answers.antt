use Rattle.promises.proofs.parses.sentences_get_their_only_tree.Goals as goal

pub returns : goal.returns
returns g c = c.parse_flat.ensures.sentences
