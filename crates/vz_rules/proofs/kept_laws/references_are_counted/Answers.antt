use Rattle.vz_rules.proofs.Kept_facts.{totals_lent, totals_queued, held_is_out, unheld_is_in}
use Rattle.vz_rules.proofs.kept_laws.references_are_counted.Goals as goal

pub returns : goal.returns
returns c = record { lent = totals_lent; queued = totals_queued; held = held_is_out; unheld = unheld_is_in }
