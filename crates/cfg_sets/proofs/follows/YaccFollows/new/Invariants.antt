use Rattle.cfg_sets.proofs.follows.YaccFollows.new.Given as goal

abbrev pub ghosts-fill_with_blank : goal.ghosts-fill_with_blank
ghosts-fill_with_blank g a = record { name = a.blank.name; parts = a.blank.parts }
