use Rattle.vz_surfaces.proofs.Telling.{tells_exists, tells_marks, tells_count, tells_marked, tells_last, tells_met, seen_all, tells_active, tells_acting, tells_waiting, tells_shown}
use Rattle.vz_surfaces.proofs.laws.stores_tell.Goals as goal

pub returns : goal.returns
returns c =
    record {
      exists = tells_exists;
      marks = tells_marks;
      count = tells_count;
      marked = tells_marked;
      last = tells_last;
      met = tells_met;
      seen = seen_all;
      active = tells_active;
      acting = tells_acting;
      waiting = tells_waiting;
      shown = tells_shown;
    }
