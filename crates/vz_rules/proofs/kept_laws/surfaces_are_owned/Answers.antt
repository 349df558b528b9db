use Rattle.vz_rules.proofs.Kept_small.{one_submitter}
use Rattle.vz_rules.proofs.Kept_facts.{owners_same, last_is_greatest, active_seen}
use Rattle.vz_rules.proofs.kept_laws.surfaces_are_owned.Goals as goal

pub returns : goal.returns
returns c = record { sinks = owners_same; submissions = λ w s t h. one_submitter w h s t; last = last_is_greatest; seen = active_seen }
