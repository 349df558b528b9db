use Rattle.vz_deadlines.proofs.walk.+put_in.Given as goal

-- fewer levels are left
abbrev pub decreases-put_in : goal.decreases-put_in
decreases-put_in l = l.levels
