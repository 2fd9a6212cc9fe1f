use Rattle.desk_tests.proofs.gate.an_outcome_of_an_older_configuration_is_stale.Given as goal

-- the ledger that was just made
abbrev pub ghosts-meet : goal.ghosts-meet
ghosts-meet g a = record { name = a.blank.name; parts = a.blank.parts }
