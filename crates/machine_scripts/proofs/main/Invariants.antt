use Rattle.machine_scripts.proofs.main.Given as goal

-- the ledger that was just made
abbrev pub ghosts-call_streams : goal.ghosts-call_streams
ghosts-call_streams g a = record { name = a.blank.name; parts = a.blank.parts }
