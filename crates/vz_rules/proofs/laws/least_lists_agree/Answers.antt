use Rattle.vz_rules.proofs.laws.least_lists_agree.Goals as goal

pub returns : goal.returns
returns g c same next roots xs ys x one other h = one.least ys other.has_roots other.closed x h
