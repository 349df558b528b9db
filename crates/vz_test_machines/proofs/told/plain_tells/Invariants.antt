use Rattle.vz_test_machines.proofs.told.plain_tells.Given as goal

-- the ledger is the new one
abbrev pub ghosts-tells : goal.ghosts-tells
ghosts-tells g a = record { name = a.blank.name; parts = a.blank.parts }
