-- Three files made by rule: a page that embeds two children, each of which answers so many
-- begin-frames.
use Rattle.std.specs.Prelude.{ℕ, zero, suc, pos, ◌+◌, ◌-◌, ◌*◌, ◌%◌, ◌==◌, None, List, [], ◌∷◌, ◌++◌, replicate, if◌then◌else◌}
use Rattle.vz_geom.specs.Rectangle.{Rectangle}
use Rattle.vz_ids.specs.declared.FrameSinkId.{FrameSinkId}
use Rattle.vz_ids.specs.declared.LocalSurfaceId.{LocalSurfaceId}
use Rattle.vz_ids.specs.declared.SurfaceRange.{SurfaceRange}
use Rattle.vz_pixels.specs.Colour.{Colour}
use Rattle.vz_pixels.specs.Block.{Block}
use Rattle.vz_frame.specs.declared.frame.CompositorFrame.{CompositorFrame}
use Rattle.vz_frame.specs.declared.frame.Listing.{Listing}
use Rattle.vz_frame.specs.declared.frame.DrawQuad.{DrawQuad}
use Rattle.vz_frame.specs.declared.blend.Blend.TheVariants.{Over}
use Rattle.vz_frame.specs.declared.frame.Material.{Material}
use Rattle.vz_frame.specs.declared.frame.Material.TheVariants.{Solid, Tile, Surface}
use Rattle.vz_frame.specs.declared.message.ClientFile.{ClientFile}
use Rattle.vz_frame.specs.declared.message.Message.{Message}
use Rattle.vz_frame.specs.declared.message.Message.TheVariants.{Upload, Submit, Reclaim, SetRoot, Hierarchy, Await}

abbrev pub rect : ℕ → ℕ → ℕ → ℕ → Rectangle
rect x y w h = record { x = pos x; y = pos y; w = pos w; h = pos h }

abbrev pub colour : ℕ → ℕ → ℕ → Colour
colour r g b = record { r = r; g = g; b = b; a = 255 }

abbrev pub sink_of : ℕ → FrameSinkId
sink_of k = record { client_id = k; sink_id = 1 }

-- the local id of client k: the first one with the token k
abbrev pub local_of : ℕ → LocalSurfaceId
local_of k = record { parent = 1; child = 1; token = record { 0 = k } }

-- the range with the surface of client k as its end, and no start
abbrev pub range_of : ℕ → SurfaceRange
range_of k = record { start = None; end = record { sink = sink_of k; local = local_of k } }

-- a quad without a clip, all of it visible
abbrev pub quad_of : ℕ → Rectangle → ℕ → Material → DrawQuad
quad_of x area opacity m =
    record { offset = record { x = pos x; y = pos 0 }; area = area; visible = area; clip = None; opacity = opacity; blend = Over; material = m }

-- a frame of one pass, without dependencies or a deadline
abbrev pub frame_of : ℕ → ℕ → List SurfaceRange → List Listing → Rectangle → Rectangle → List DrawQuad → CompositorFrame
frame_of token ack references listings output damage quads =
    record {
      metadata = record { token = token; ack = ack; deadline = None; dependencies = []; references = references };
      resources = listings;
      passes = record { id = 1; output = output; damage = damage; quads = quads } ∷ [];
    }

-- the quads of the page, from front to back
abbrev pub page_quads : List DrawQuad
page_quads =
    quad_of 0 (rect 0 0 32 32) 255 (Surface (range_of 2) (colour 0 0 0))
    ∷ quad_of 32 (rect 0 0 32 32) 128 (Surface (range_of 3) (colour 0 0 0))
    ∷ quad_of 0 (rect 0 0 64 32) 255 (Solid (colour 255 255 255)) ∷ []

-- the page: the first child beside the second, which is half transparent, on white
abbrev pub page : CompositorFrame
page =
    frame_of 1 0 (range_of 2 ∷ range_of 3 ∷ []) [] (rect 0 0 64 32) (rect 0 0 64 32) page_quads

abbrev pub page_file : ClientFile
page_file =
    record {
      format = 1;
      sink = sink_of 1;
      messages = Hierarchy (sink_of 1) (sink_of 2) ∷ Hierarchy (sink_of 1) (sink_of 3) ∷ Submit page (local_of 1) ∷ SetRoot (local_of 1) ∷ [];
    }

-- the resource of round r
abbrev pub resource_of : ℕ → ℕ
resource_of r = 1 + r % 2

-- the damage of round r: in the first round all of the child, and later a rectangle with the
-- tile's old and new places
abbrev pub damage_of : ℕ → Rectangle
damage_of r =
    if r == 1 then rect 0 0 32 32
    else (if r % 8 == 0 then rect 0 0 32 4
    else rect (4 * ((r - 1) % 8)) 0 8 4)

-- the quads of client k in round r, from front to back
abbrev pub child_quads : ℕ → ℕ → List DrawQuad
child_quads k r =
    quad_of (4 * (r % 8)) (rect 0 0 4 4) 255 (Tile (resource_of r) 0 0) ∷ quad_of 0 (rect 0 0 32 32) 255 (Solid (colour 0 0 (64 * (k - 1)))) ∷ []

-- the frame of client k in round r: a moving tile in front of one colour
abbrev pub child_frame : ℕ → ℕ → CompositorFrame
child_frame k r =
    frame_of r r [] (record { id = resource_of r; w = 4; h = 4 } ∷ []) (rect 0 0 32 32) (damage_of r) (child_quads k r)

-- the block of round r
abbrev pub block_of : ℕ → Block
block_of r = record { w = 4; h = 4; pixels = replicate 16 (colour (r % 256) 0 0) }

-- the four messages of client k in round r
abbrev pub round_of : ℕ → ℕ → List Message
round_of k r =
    Await ∷ Reclaim ∷ Upload (resource_of r) (block_of r) ∷ Submit (child_frame k r) (local_of k) ∷ []

-- the messages of n rounds, from round r on
abbrev pub rounds_from : ℕ → ℕ → ℕ → List Message
rounds_from k zero r = []
rounds_from k (suc n) r = round_of k r ++ rounds_from k n (r + 1)

abbrev pub child_file : ℕ → ℕ → ClientFile
child_file n k = record { format = 1; sink = sink_of k; messages = rounds_from k n 1 }

-- the three files for n rounds
unfoldable pub make : ℕ → List ClientFile
make n = page_file ∷ child_file n 2 ∷ child_file n 3 ∷ []
