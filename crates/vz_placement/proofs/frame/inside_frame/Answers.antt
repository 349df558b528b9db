use Rattle.std.proofs.Common.{sym, ap, subst, ◌∙◌}
use Rattle.vz_geom.specs.Rectangle.{Rectangle, meet}
use Rattle.vz_placement.specs.Limits.{IsInReach}
use Rattle.vz_placement.proofs.Sides.{frame_sides, meet_in_reach}
use Rattle.vz_placement.proofs.frame.inside_frame.Goals as goal

pub returns-clause-value : goal.returns-clause-value
returns-clause-value c = c.intersect.ensures.value ∙ ap (λ (x : Rectangle). meet x c.args.r.now) c.frame_rect.ensures.value

pub returns-clause-reach : goal.returns-clause-reach
returns-clause-reach c =
    subst IsInReach (sym (c.intersect.ensures.value ∙ ap (λ (x : Rectangle). meet x c.args.r.now) c.frame_rect.ensures.value))
    (meet_in_reach _ c.args.r.now (frame_sides c.args.frame.now c.requires))
