use Rattle.desk_tests.proofs.endings.a_worker_ends_after_its_turns.Given as goal

-- the ledger that was just made
abbrev pub ghosts-delivered : goal.ghosts-delivered
ghosts-delivered g a = record { name = a.blank.name; parts = a.blank.parts }
