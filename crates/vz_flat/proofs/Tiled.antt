-- That a tile's operation lays its texels.
use Rattle.std.proofs.Common.{◌≡◌, ℕ, pos, Option, Some, None, [], ◌∷◌, refl, ap, cond, arith}
use Rattle.std.proofs.{lemmas.Int.ints, lemmas.Bool.Decides.nat_tests}
use Rattle.vz_geom.specs.declared.Point.{Point}
use Rattle.vz_geom.specs.Rectangle.{Rectangle, has, plus, minus, corner}
use Rattle.vz_geom.proofs.Points.{same_point}
use Rattle.vz_pixels.specs.{Colour.transparent, Block.Block}
use Rattle.vz_frame.specs.{declared.blend.Blend.Blend, Blending.laid}
use Rattle.vz_rules.specs.{World.FrameData, Paint.block_of, Paint.texel_of, Paint.tile_colour, Walk.Placement}
use Rattle.vz_flat.specs.{declared.op.Op.TheVariants.Blit, Ops.run, Tiles.first_texel, Tiles.texels_flat, Tiles.tile_flat}
use Rattle.vz_flat.proofs.Acting.{ActsAs, acts_fill, acts_same}

blit_acts : (p : Point) (area : Rectangle) (block : Block) (first : Point) (o : ℕ) (m : Blend)
    → ActsAs p (Blit area block first.x first.y o m ∷ []) (λ d. cond (has area p) (laid m (texel_of (Some block) (plus (minus p (corner area)) first)) o d) d)
unfolding run
blit_acts p area block first o m = record { acts = λ rest groups d. refl }

-- at a point of the window the texel is the one that is as far from the tile's first one as the point is
texel_stays : (l shift : Point) (window : Rectangle) (tx ty : ℕ)
    → plus (minus (plus l shift) (corner window)) (plus (minus (corner window) shift) (record { x = pos tx; y = pos ty })) ≡ plus l (record { x = pos tx; y = pos ty })
texel_stays l shift window tx ty = same_point (omega (arith, ints)) (omega (arith, ints))

texel_at : (P l : Point) (place : Placement) (tx ty : ℕ) → plus l place.shift ≡ P
    → plus (minus P (corner place.window)) (first_texel tx ty place) ≡ plus l (record { x = pos tx; y = pos ty })
texel_at P l place tx ty stays = grind (arith, nat_tests, texel_stays l place.shift place.window tx ty)

texels_act : (P l : Point) (place : Placement) (tx ty : ℕ) (m : Blend) (o : ℕ) → plus l place.shift ≡ P → (s : Option Block)
    → ActsAs P (texels_flat s (first_texel tx ty place) m o place.window) (λ d. cond (has place.window P) (laid m (texel_of s (plus l (record { x = pos tx; y = pos ty }))) o d) d)
texels_act P l place tx ty m o stays None = acts_fill P place.window transparent o m
texels_act P l place tx ty m o stays (Some block) =
    acts_same P _ _ _ (λ d. ap (λ q. cond (has place.window P) (laid m (texel_of (Some block) q) o d) d) (texel_at P l place tx ty stays))
    (blit_acts P place.window block (first_texel tx ty place) o m)

pub tile_acts : (P : Point) (i : FrameData) (id tx ty : ℕ) (m : Blend) (o : ℕ) (l : Point) (place : Placement) → plus l place.shift ≡ P
    → ActsAs P (tile_flat i id tx ty m o place) (λ d. cond (has place.window P) (laid m (tile_colour i id tx ty l) o d) d)
unfolding tile_flat tile_colour
tile_acts P i id tx ty m o l place stays = texels_act P l place tx ty m o stays (block_of id i.frame.resources i.blocks)
