use Rattle.vz_test_machines.proofs.pictures.leave_pictures.Given as goal

-- the ledger is the new one
abbrev pub ghosts-left_by_plain : goal.ghosts-left_by_plain
ghosts-left_by_plain g a = record { name = a.blank.name; parts = a.blank.parts }
