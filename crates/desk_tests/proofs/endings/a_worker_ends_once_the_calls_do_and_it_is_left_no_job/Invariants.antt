use Rattle.desk_tests.proofs.endings.a_worker_ends_once_the_calls_do_and_it_is_left_no_job.Given as goal

-- the ledger that was just made
abbrev pub ghosts-delivered : goal.ghosts-delivered
ghosts-delivered g a = record { name = a.blank.name; parts = a.blank.parts }
