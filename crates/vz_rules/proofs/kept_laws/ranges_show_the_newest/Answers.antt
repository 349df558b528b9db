use Rattle.vz_rules.proofs.Kept_shows.{shows_first, shows_second, shows_none}
use Rattle.vz_rules.proofs.kept_laws.ranges_show_the_newest.Goals as goal

pub returns : goal.returns
returns c = record { end = shows_first; start = shows_second; neither = shows_none }
