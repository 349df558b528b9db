use Rattle.vz_test_calls.proofs.main.Given as goal

-- the ledger is the new one
abbrev pub ghosts-run : goal.ghosts-run
ghosts-run g a = record { name = a.blank.name; parts = a.blank.parts }
