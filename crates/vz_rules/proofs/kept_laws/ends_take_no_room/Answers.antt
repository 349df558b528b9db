use Rattle.vz_rules.proofs.Kept_done.{done_presents, done_idles, over_idles}
use Rattle.vz_rules.proofs.kept_laws.ends_take_no_room.Goals as goal

pub returns : goal.returns
returns c = record { shown = done_presents; nothing = done_idles; over = over_idles }
