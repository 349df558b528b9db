use Rattle.std.proofs.Common.{◌∙◌, ap}
use Rattle.vz_occlude.specs.Pictures.{Flattened}
use Rattle.viz_c.proofs.Painted.{painted_whole}
use Rattle.viz_c.proofs.shot.shoot.Goals as goal

pub returns : goal.returns
returns g c = record {
  pixels =
      painted_whole c.args.size c.in_ok-buffer.buffer.size c.of_display-area.result c.args.picture.now.flat c.ops.result.now
      c.in_ok-buffer.buffer.pixels c.paint_alone.new.buffer.pixels c.requires.sides c.in_ok-buffer.ensures.size c.requires.same
      (c.ops.ensures ∙ ap (λ (f : Flattened). f.ops) c.flat-flat.ensures) c.of_display-area.ensures c.in_ok-paint_alone.ensures.painted;
  changed = c.damage.ensures ∙ ap (λ (f : Flattened). f.damage) c.flat-flat.ensures;
}
