-- What a drawing reads of what is told.
use Rattle.std.proofs.Common.{◌≡◌, true, Some, filter, ap, sym, ◌∙◌, Contains, arith}
use Rattle.std.proofs.{lemmas.Bool.or_right, lemmas.Bool.Decides.nat_tests}
use Rattle.vz_rules.specs.World.{World, Submission, FrameData, Aggregation, is_waiting, is_active}
use Rattle.vz_rules.specs.Kept.{KeepsAlways}
use Rattle.vz_rules.proofs.{Kept_facts.active_seen, Members.contains_map, Members.filter_at}
use Rattle.vz_damage.specs.{Told.Damaged, Told.told_on, Accepted.TellsLast, Accepted.told_of}
use Rattle.vz_surface_manager.specs.Told_damage.{AreTold}

tells_one : (w : World) (d : Damaged) (a : Aggregation) (s : Submission) → KeepsAlways w → AreTold w d → w.last ≡ Some a
    → Contains w.subs s → is_active s ≡ true
    → told_on d.surfaces s.submitted.id ≡ Some (told_of w a s.submitted)
tells_one w d a s h k last m acts = grind (arith, nat_tests, or_right (is_waiting s) (is_active s) acts, active_seen w s h m acts)

pub tells_last : (w : World) (d : Damaged) → KeepsAlways w → AreTold w d → TellsLast w d.surfaces
tells_last w d h k a last i m =
    let f = contains_map (λ (s : Submission). s.submitted) (filter is_active w.subs) i m in
    let s = filter_at is_active w.subs f.0 f.1 in
    ap (told_on d.surfaces) (ap (λ (j : FrameData). j.id) (sym f.2))
    ∙ (tells_one w d a f.0 h k last s.0 s.1 ∙ ap (λ (j : FrameData). Some (told_of w a j)) f.2)
