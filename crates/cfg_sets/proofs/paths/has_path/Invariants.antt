use Rattle.cfg_sets.proofs.paths.has_path.Given as goal

abbrev pub ghosts-find_with_blank : goal.ghosts-find_with_blank
ghosts-find_with_blank g a = record { name = a.blank.name; parts = a.blank.parts }
