use Rattle.cfg_sentences.proofs.sentences.needed.wanted_rules.Given as goal

abbrev pub ghosts-find_with_blank : goal.ghosts-find_with_blank
ghosts-find_with_blank g a = record { name = a.blank.name; parts = a.blank.parts }
