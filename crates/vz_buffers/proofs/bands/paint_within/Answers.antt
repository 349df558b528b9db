use Rattle.std.proofs.Common.{◌∙◌}
use Rattle.vz_buffers.proofs.Filling.{may_paint, filled}
use Rattle.vz_buffers.proofs.bands.paint_within.Goals as goal

pub paint_bands-requires-after_bounds : goal.paint_bands-requires-after_bounds
paint_bands-requires-after_bounds g c κs within = may_paint _ _ _ _ _ _ _ c.requires (c.split_at_mut-rows.ensures.front_len ∙ c.pixels_in-2.ensures.value)

pub returns-clause-painted : goal.returns-clause-painted
returns-clause-painted g c =
    let below = c.split_at_mut-below.ensures in
    let rows = c.split_at_mut-rows.ensures in
    filled _ _ _ _ _ _ _ _ _ _ c.paint_bands.new.pixels c.requires below.value (below.front_len ∙ c.pixels_in.ensures.value) rows.value (rows.front_len ∙ c.pixels_in-2.ensures.value) c.paint_bands.ensures
