use Rattle.desk_tests.proofs.engineers.workers_deliver_while_engineers_call.Given as goal

-- the ledger that was just made
abbrev pub ghosts-with_workers : goal.ghosts-with_workers
ghosts-with_workers g a = record { name = a.blank.name; parts = a.blank.parts }
