use Rattle.std.proofs.Common.{ap, refl}
use Rattle.std.specs.Map.{lookup}
use Rattle.vz_ids.specs.Ids.{same_sub}
use Rattle.vz_returns.proofs.{Events.first_owed, Open_places.none_kept}
use Rattle.vz_returns.proofs.pending_feedback.PendingFeedback.new.Goals as goal

pub invariant_of-result : goal.invariant_of-result
invariant_of-result c = none_kept c.new.result.list c.new.result.places _ c.new.ensures.list c.new.ensures.places

pub returns : goal.returns
returns c =
    record {
      owed = λ p. first_owed p (record { unfed = c.new.result.list; places = c.new.result.places; due = c.new-2.result.items; accepted = 0 })
          (λ t. ap (lookup (same_sub t)) c.new.ensures.places) c.new-2.ensures.items refl;
    }
