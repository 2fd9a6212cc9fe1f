use Rattle.desk_tests.proofs.limits.a_desk_has_1_to_256_seats_and_1_to_64_shards.Given as goal

-- the ledger that was just made
abbrev pub ghosts-fault_of : goal.ghosts-fault_of
ghosts-fault_of g a = record { name = a.blank.name; parts = a.blank.parts }
