use Rattle.std.proofs.Common.{List, map, ap, ◌∙◌}
use Rattle.vz_geom.specs.Rectangle.{points_of}
use Rattle.vz_rules.specs.World.{FrameData}
use Rattle.vz_plain.specs.Shown.{colour_of}
use Rattle.vz_plain.proofs.Filling.{picture_is}
use Rattle.vz_plain.proofs.pictures.picture.Goals as goal

pub returns : goal.returns
returns c =
    c.in_ok-rows.ensures
    ∙ (ap (λ (l : List FrameData). map (colour_of l c.args.root.now) (points_of c.args.size)) c.in_ok-active.ensures ∙ picture_is c.args.size c.args.active.now c.args.root.now)
