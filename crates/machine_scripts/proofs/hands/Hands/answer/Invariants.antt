use Rattle.machine_scripts.proofs.hands.Hands.answer.Given as goal

-- the ledger that was just made
abbrev pub ghosts-open_another : goal.ghosts-open_another
ghosts-open_another g a = record { name = a.blank.name; parts = a.blank.parts }
