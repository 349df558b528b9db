use Rattle.viz_c.proofs.viz_step.Given as goal

-- the ledger is the new one
abbrev pub ghosts-step : goal.ghosts-step
ghosts-step a = record { name = a.blank.name; parts = a.blank.parts }
