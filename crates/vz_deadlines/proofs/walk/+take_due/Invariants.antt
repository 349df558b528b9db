use Rattle.vz_deadlines.proofs.walk.+take_due.Given as goal

-- fewer levels are left
abbrev pub decreases-take_due : goal.decreases-take_due
decreases-take_due l = l.levels
