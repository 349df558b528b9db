use Rattle.std.proofs.Common.{ap, sym, ◌∙◌}
use Rattle.vz_flat.specs.Ops.{is_inside}
use Rattle.vz_occlude.proofs.role.occludes.Goals as goal

pub is_opaque_blit-requires : goal.is_opaque_blit-requires
unfolding is_inside
is_opaque_blit-requires c = record { inside = λ opacity mode. ap is_inside (sym c.in-Blit.is) ∙ c.requires }
