use Rattle.vz_rules.proofs.Kept_last.{one_client}
use Rattle.vz_rules.proofs.Kept_submits.{one_of_number}
use Rattle.vz_rules.proofs.Kept_facts.{surfaces_apart, subs_apart}
use Rattle.vz_rules.proofs.kept_laws.names_differ.Goals as goal

pub returns : goal.returns
returns c =
    record {
      clients = λ w c d h. one_of_number w.clients c d h.clients;
      sinks = λ w c d h. one_client w.clients c d h.clients;
      surfaces = surfaces_apart;
      submissions = subs_apart;
    }
