use Rattle.lrpar_tests.proofs.tables.rows.rows_are_searched.Given as goal

abbrev pub ghosts-found_in : goal.ghosts-found_in
ghosts-found_in g a = record { name = a.blank.name; parts = a.blank.parts }
