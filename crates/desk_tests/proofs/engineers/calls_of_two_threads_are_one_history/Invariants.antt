use Rattle.desk_tests.proofs.engineers.calls_of_two_threads_are_one_history.Given as goal

-- the ledger that was just made
abbrev pub ghosts-two_engineers : goal.ghosts-two_engineers
ghosts-two_engineers g a = record { name = a.blank.name; parts = a.blank.parts }
