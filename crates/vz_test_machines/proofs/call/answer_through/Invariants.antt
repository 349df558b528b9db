use Rattle.vz_test_machines.proofs.call.answer_through.Given as goal

-- the ledger is the new one
abbrev pub ghosts-counted : goal.ghosts-counted
ghosts-counted g a = record { name = a.blank.name; parts = a.blank.parts }
