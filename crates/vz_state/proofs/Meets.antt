-- One submission more, among those that tell which surfaces were met.
use Rattle.std.proofs.Common.{◌≡◌, ℕ, ◌+◌, ◌<◌, Bool, ◌||◌, List, length, take, get_or, sym, ap, ◌∙◌}
use Rattle.std.specs.List.{list_any}
use Rattle.std.proofs.lemmas.List.Folds.{list_any_more}
use Rattle.vz_ids.specs.declared.SurfaceId.{SurfaceId}
use Rattle.vz_rules.specs.World.{Submission}
use Rattle.vz_scene.specs.Reached.{is_reached}
use Rattle.vz_state.specs.Rising.{meets, IsMetBy}

pub met_more : (old new : List SurfaceId) (xs : List Submission) (k : ℕ) (x : Submission) → k < length xs → x ≡ get_or xs k x → ((d : SurfaceId) → is_reached new d ≡ (is_reached old d || meets d x)) → IsMetBy old (take k xs)
    → IsMetBy new (take (k + 1) xs)
met_more old new xs k x h is adds has d =
    adds d ∙ (ap (λ t. t || meets d x) (has d) ∙ (ap (λ (y : Submission). is_reached_by y) is ∙ sym (list_any_more (meets d) xs k x h)))
  where
    is_reached_by : Submission → Bool
    is_reached_by y = list_any (meets d) (take k xs) || meets d y
