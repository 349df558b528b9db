use Rattle.vz_test_parts.proofs.painted.play.Given as goal

-- the ledger is the new one
abbrev pub ghosts-well_painted : goal.ghosts-well_painted
ghosts-well_painted g a = record { name = a.blank.name; parts = a.blank.parts }
