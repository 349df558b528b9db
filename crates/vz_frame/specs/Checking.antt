-- The check of all quads and passes of a frame at once.
use Rattle.std.specs.Prelude.{Bool, false, not, ◌||◌, cond, List, [], ◌∷◌, reverse, Option, Some, None, find}
use Rattle.std.specs.List.{list_any, flat_map}
use Rattle.vz_geom.specs.Rectangle.{covers_rect}
use Rattle.vz_frame.specs.Frame.{lists, exceeds, names_none, misorders, tile_unlisted, bad_quad_range}
use Rattle.vz_frame.specs.declared.rules.Found.{Found}
use Rattle.vz_frame.specs.declared.frame.DrawQuad.{DrawQuad}
use Rattle.vz_frame.specs.declared.frame.Listing.{Listing}
use Rattle.vz_frame.specs.declared.frame.RenderPass.{RenderPass}
use Rattle.vz_frame.specs.declared.rules.Rule.{Rule}
use Rattle.vz_frame.specs.declared.frame.Material.TheVariants.{Tile}

-- the test holds for the listing, if there is one
abbrev pub is_some_with : (Listing → Bool) → Option Listing → Bool
is_some_with test None = false
is_some_with test (Some listing) = test listing

-- a tile reaches outside the first listing of its resource
abbrev pub reaches_outside : List Listing → DrawQuad → Bool
reaches_outside listings quad = elim quad.material [ Tile id tx ty ↦ is_some_with (exceeds quad.area tx ty) (find (lists id) listings) | _ ↦ false ]

-- the visible rectangle has a point outside the quad's rectangle
abbrev pub shows_outside : DrawQuad → Bool
shows_outside quad = not (covers_rect quad.area quad.visible)

-- the damage has a point outside the pass's output
abbrev pub damages_outside : RenderPass → Bool
damages_outside pass = not (covers_rect pass.output pass.damage)

-- what was found in either
abbrev pub joined : Found → Found → Found
joined a b = record {
  order = a.order || b.order;
  visible = a.visible || b.visible;
  unlisted = a.unlisted || b.unlisted;
  outside = a.outside || b.outside;
  range = a.range || b.range;
  damage = a.damage || b.damage;
}

-- what is found in a quad, in a pass with these earlier passes
abbrev pub in_quad : List RenderPass → List Listing → DrawQuad → Found
in_quad earlier listings quad = record {
  order = names_none earlier quad;
  visible = shows_outside quad;
  unlisted = tile_unlisted listings quad;
  outside = reaches_outside listings quad;
  range = bad_quad_range quad;
  damage = false;
}

-- what is found in quads, in a pass with these earlier passes
unfoldable pub in_quads : List RenderPass → List Listing → List DrawQuad → Found
in_quads earlier listings quads = record {
  order = list_any (names_none earlier) quads;
  visible = list_any shows_outside quads;
  unlisted = list_any (tile_unlisted listings) quads;
  outside = list_any (reaches_outside listings) quads;
  range = list_any bad_quad_range quads;
  damage = false;
}

-- what is found in the passes of a frame
unfoldable pub in_passes : List Listing → List RenderPass → Found
in_passes listings passes = let quads = flat_map (λ pass. pass.quads) passes in record {
  order = misorders (reverse passes);
  visible = list_any shows_outside quads;
  unlisted = list_any (tile_unlisted listings) quads;
  outside = list_any (reaches_outside listings) quads;
  range = list_any bad_quad_range quads;
  damage = list_any damages_outside passes;
}

-- the first rule of a table that is marked as broken
unfoldable pub first_said : List (Bool × Rule) → Option Rule
first_said [] = None
first_said (said ∷ rest) = cond said.0 (Some said.1) (first_said rest)
