use Rattle.vz_rules.proofs.Kept_facts.{waits_uncome, waits_on, marked_reached, unfed_open}
use Rattle.vz_rules.proofs.kept_laws.nothing_is_late.Goals as goal

pub returns : goal.returns
returns c = record { waits = waits_uncome; due = waits_on; marked = marked_reached; unfed = unfed_open }
