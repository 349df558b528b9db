-- The worked lists, computed.
use Rattle.std.proofs.Common.{◌≡◌, ℕ, [], ◌∷◌, refl}
use Rattle.vz_geom.specs.Rectangle.{points_in}
use Rattle.vz_pixels.specs.{Colour.transparent, Block.texel}
use Rattle.vz_occlude.specs.{Items.ops_of, Items.levels, Items.items_of, Occlusion.kept_items, Occlusion.gone_items, Occlusion.kept, Occlusion.gone}
use Rattle.vz_occlude.specs.Occluders.{is_opaque_blit, occluders_of}
use Rattle.vz_occlude.specs.Worked.{rect, red, filled, green_behind, group_behind, behind_group, behind_texel}

-- opens all definitions
unfoldable opened : ℕ
unfolding points_in texel ops_of levels items_of is_opaque_blit occluders_of kept_items gone_items kept gone
opened = 0

pub front_is_all : (kept (green_behind (rect 0 0 4 2)) ≡ filled red (rect 0 0 4 2) ∷ []) × (gone (green_behind (rect 0 0 4 2)) ≡ 1)
unfolding opened
front_is_all = (refl, refl)

pub front_is_a_part : (kept (green_behind (rect 1 0 2 2)) ≡ green_behind (rect 1 0 2 2)) × (gone (green_behind (rect 1 0 2 2)) ≡ 0)
unfolding opened
front_is_a_part = (refl, refl)

pub back_is_a_group : (kept group_behind ≡ filled red (rect 0 0 4 2) ∷ []) × (gone group_behind ≡ 1)
unfolding opened
back_is_a_group = (refl, refl)

pub front_is_a_group : (kept behind_group ≡ behind_group) × (gone behind_group ≡ 0)
unfolding opened
front_is_a_group = (refl, refl)

pub nothing : (kept [] ≡ []) × (gone [] ≡ 0)
unfolding opened
nothing = (refl, refl)

pub front_is_opaque : gone (behind_texel red) ≡ 1
unfolding opened
front_is_opaque = refl

pub front_is_clear : gone (behind_texel transparent) ≡ 0
unfolding opened
front_is_clear = refl
