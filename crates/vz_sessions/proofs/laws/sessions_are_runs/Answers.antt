use Rattle.vz_sessions.proofs.Deeds_lead.{deeds_keep, deeds_lead, session_opens}
use Rattle.vz_sessions.proofs.Told_none_left.{waiting_is_allowed, display_is_allowed}
use Rattle.vz_sessions.proofs.laws.sessions_are_runs.Goals as goal

pub returns : goal.returns
returns c =
    record {
      kept = deeds_keep;
      machine = deeds_lead;
      opening = session_opens;
      clients = waiting_is_allowed;
      display = display_is_allowed;
    }
