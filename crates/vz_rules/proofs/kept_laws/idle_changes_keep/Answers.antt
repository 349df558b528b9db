use Rattle.vz_rules.proofs.Kept_answers.{keeps_refused, keeps_upload, keeps_noted, keeps_reclaimed, keeps_related, keeps_await, keeps_draw, keeps_over}
use Rattle.vz_rules.proofs.kept_laws.idle_changes_keep.Goals as goal

pub returns : goal.returns
returns c =
    record {
      refused = keeps_refused;
      upload = keeps_upload;
      noted = keeps_noted;
      reclaimed = keeps_reclaimed;
      hierarchy = keeps_related;
      begun = keeps_await;
      draw = keeps_draw;
      over = keeps_over;
    }
