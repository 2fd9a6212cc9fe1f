use Rattle.bgpsim.proofs.running.run_choice.Given as goal

-- the ledger that was just made
abbrev pub ghosts-play_team : goal.ghosts-play_team
ghosts-play_team g a = record { name = a.blank.name; parts = a.blank.parts }
