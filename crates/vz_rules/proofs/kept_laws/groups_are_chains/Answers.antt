use Rattle.vz_rules.proofs.Kept_shows.{groups_are_chains, subs_are_chains}
use Rattle.vz_rules.proofs.kept_laws.groups_are_chains.Goals as goal

pub returns : goal.returns
returns c = record { surfaces = groups_are_chains; submissions = subs_are_chains }
