use Rattle.vz_turn.proofs.Owned.{own_count, own_made, own_event, own_same, own_closed}
use Rattle.vz_turn.proofs.own_laws.entries_are_ones_own.Goals as goal

pub returns : goal.returns
returns c = record { counted = own_count; made = own_made; event = own_event; same = own_same; closed = own_closed }
