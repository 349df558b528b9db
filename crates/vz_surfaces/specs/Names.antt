-- What the ids inside a frame refer to: the pass of a pass quad, the listing of a tile.
use Rattle.std.specs.Prelude.{◌≡◌, ℕ, Bool, false, Option, Some, None, List, length, map, filter, slice_get}
use Rattle.std.specs.List.{last_or, position, range_with_len}
use Rattle.vz_pixels.specs.Block.{Block}
use Rattle.vz_frame.specs.declared.frame.CompositorFrame.{CompositorFrame}
use Rattle.vz_frame.specs.declared.frame.Listing.{Listing}
use Rattle.vz_frame.specs.declared.frame.RenderPass.{RenderPass}
use Rattle.vz_frame.specs.declared.frame.DrawQuad.{DrawQuad}
use Rattle.vz_frame.specs.declared.frame.Material.TheVariants.{Tile, Pass}
use Rattle.vz_frame.specs.Frame.{lists, names_pass}

-- there is a pass at this place, and it has this id
abbrev pub has_id_at : ℕ → List RenderPass → ℕ → Bool
has_id_at id passes k = elim (slice_get passes k) [ Some pass ↦ names_pass id pass | None ↦ false ]

-- the places below a place, in order
abbrev pub places_before : ℕ → List ℕ
places_before k = range_with_len 0 k

-- the last of the places below a place whose pass has this id, if there is one
unfoldable pub pass_place : ℕ → List RenderPass → ℕ → Option ℕ
pass_place id passes k = last_or None (filter (has_id_at id passes) (places_before k))

-- the first place at which the resource is listed, if it is listed
unfoldable pub listing_place : ℕ → List Listing → Option ℕ
listing_place id listings = position (lists id) listings

-- the place that the id in a quad of the pass at a place refers to, if it refers to one
unfoldable pub place_named : CompositorFrame → ℕ → DrawQuad → Option ℕ
place_named frame k quad =
    elim quad.material [
      | Pass id ↦ pass_place id frame.passes k
      | Tile id tx ty ↦ listing_place id frame.resources
      | _ ↦ None
    ]

-- the places that the ids in quads of the pass at a place refer to
abbrev pub places_in : CompositorFrame → ℕ → List DrawQuad → List (Option ℕ)
places_in frame k quads = map (place_named frame k) quads

-- these are the places that the ids in the quads of each pass refer to
pub record AreNamed (frame : CompositorFrame) (places : List (List (Option ℕ))) : Type 0 where
  pub there : (k : ℕ) (pass : RenderPass) → slice_get frame.passes k ≡ Some pass → slice_get places k ≡ Some (places_in frame k pass.quads)

-- these are the places, or there are none, as names are then searched for
abbrev pub AreNamedIfAny : CompositorFrame → List (List (Option ℕ)) → Type 0
AreNamedIfAny frame places = (length places ≡ 0 → ⊥) → AreNamed frame places

-- the block at a place, if there is one
abbrev pub block_at : Option ℕ → List Block → Option Block
block_at None blocks = None
block_at (Some k) blocks = slice_get blocks k
