-- That the texels of a tile's operation are inside its block.
use Rattle.std.proofs.Common.{◌≡◌, ℕ, ℤ, pos, ◌+ℤ◌, ◌-ℤ◌, ◌≤ℤ◌, true, ◌&&◌, Option, Some, None, refl, sym, ◌∙◌, subst, arith}
use Rattle.std.proofs.{lemmas.Bool.and_parts, lemmas.Bool.and_from as both_true, lemmas.Int.ints, lemmas.Bool.Decides.nat_tests}
use Rattle.vz_geom.specs.declared.Point.{Point}
use Rattle.vz_geom.specs.Rectangle.{Rectangle, has, plus, minus, corner}
use Rattle.vz_geom.proofs.{Sets.IsIn, Sets.to_in, Sets.of_in, Sets.true_le, Bounds.IsFull, Bounds.of_full, Points.same_point}
use Rattle.vz_pixels.specs.Block.{Block}
use Rattle.vz_frame.specs.declared.blend.Blend.{Blend}
use Rattle.vz_frame.specs.{declared.frame.RenderPass.RenderPass, declared.frame.DrawQuad.DrawQuad, declared.frame.Material.TheVariants.Tile}
use Rattle.vz_rules.specs.{World.FrameData, Paint.covers, Paint.in_clip, Paint.block_of, Walk.Placement, Walk.seen_part, Walk.place_in}
use Rattle.vz_rules.proofs.Geometry.{has_seen_is}
use Rattle.vz_flat.specs.{declared.op.Op.TheVariants.Blit, Tiles.first_texel, Tiles.texels_flat, Tiles.tile_flat, Whole.IsInBlock, Whole.IsQuadWhole}
use Rattle.vz_flat.specs.Ops.{is_inside, is_span_inside}
use Rattle.vz_flat.proofs.Sound.{IsSound, sound_fill, sound_blit}

there_and_back : (p shift : Point) → plus (minus p shift) shift ≡ p
there_and_back p shift = same_point (omega (arith, ints)) (omega (arith, ints))

-- a point in which a quad is seen is in its rectangle, counted in the quad's space
in_area : (i : FrameData) (pass : RenderPass) (quad : DrawQuad) (place : Placement) (p : Point) → IsQuadWhole i quad
    → has (seen_part place pass quad) p ≡ true
    → IsIn quad.area (minus (minus p place.shift) quad.offset)
unfolding covers
in_area i pass quad place p whole h =
    let q : Point = minus p place.shift in
    let seen : (has place.window p && covers pass quad q) ≡ true =
    sym
    (subst (λ (r : Point). has (seen_part place pass quad) r ≡ (has place.window r && covers pass quad q)) (there_and_back p place.shift) (has_seen_is pass quad q place))
    ∙ h in
    let covered = (and_parts (has place.window p) (covers pass quad q) seen).1 in
    let visible = (and_parts (has pass.output q && in_clip quad.clip q) (has quad.visible (minus q quad.offset)) covered).1 in
    to_in quad.area (minus q quad.offset) (whole.visible (minus q quad.offset) visible)

-- the last point of a rectangle
abbrev last : Rectangle → Point
last r = record { x = (r.x +ℤ r.w) -ℤ pos 1; y = (r.y +ℤ r.h) -ℤ pos 1 }

span_inside : (start count : ℤ) (side : ℕ) → pos 0 ≤ℤ start → (start +ℤ count) ≤ℤ pos side → is_span_inside start count side ≡ true
span_inside start count side low high = rw (true_le (pos 0) start low, true_le (start +ℤ count) (pos side) high) refl

texels_inside : (i : FrameData) (pass : RenderPass) (quad : DrawQuad) (place : Placement) (tx ty : ℕ) (block : Block) → IsQuadWhole i quad
    → IsInBlock quad tx ty block → IsFull (seen_part place pass quad)
    → (is_span_inside (first_texel tx ty (place_in place pass quad)).x (seen_part place pass quad).w block.w && is_span_inside (first_texel tx ty (place_in place pass quad)).y (seen_part place pass quad).h block.h) ≡ true
texels_inside i pass quad place tx ty block whole fits full =
    let w : Rectangle = seen_part place pass quad in
    let a = in_area i pass quad place (corner w) whole
    (of_in w (corner w) (record { left = omega (arith, ints); right = omega (arith, ints); top = omega (arith, ints); bottom = omega (arith, ints) })) in
    let b = in_area i pass quad place (last w) whole
    (of_in w (last w) (record { left = omega (arith, ints); right = omega (arith, ints); top = omega (arith, ints); bottom = omega (arith, ints) })) in
    both_true _ _
    (span_inside (first_texel tx ty (place_in place pass quad)).x w.w block.w (omega (arith, ints)) (omega (arith, ints)))
    (span_inside (first_texel tx ty (place_in place pass quad)).y w.h block.h (omega (arith, ints)) (omega (arith, ints)))

blit_inside : (i : FrameData) (pass : RenderPass) (quad : DrawQuad) (place : Placement) (tx ty : ℕ) (block : Block) (o : ℕ) (m : Blend)
    → IsQuadWhole i quad → IsInBlock quad tx ty block
    → is_inside (Blit (seen_part place pass quad) block (first_texel tx ty (place_in place pass quad)).x (first_texel tx ty (place_in place pass quad)).y o m) ≡ true
unfolding is_inside
blit_inside i pass quad place tx ty block o m whole fits = grind (arith, nat_tests, texels_inside i pass quad place tx ty block whole fits, of_full (seen_part place pass quad))

texels_sound : (k : ℕ) (i : FrameData) (pass : RenderPass) (quad : DrawQuad) (place : Placement) (tx ty : ℕ) (o : ℕ) (m : Blend)
    → IsQuadWhole i quad → (s : Option Block)
    → ((block : Block) → s ≡ Some block → IsInBlock quad tx ty block)
    → IsSound k (texels_flat s (first_texel tx ty (place_in place pass quad)) m o (seen_part place pass quad))
texels_sound k i pass quad place tx ty o m whole None fits = sound_fill k (seen_part place pass quad) _ o m
texels_sound k i pass quad place tx ty o m whole (Some block) fits =
    sound_blit k (seen_part place pass quad) block _ _ o m (blit_inside i pass quad place tx ty block o m whole (fits block refl))

pub tile_sound : (k : ℕ) (i : FrameData) (pass : RenderPass) (quad : DrawQuad) (place : Placement) (id tx ty : ℕ) (o : ℕ) (m : Blend)
    → IsQuadWhole i quad → quad.material ≡ Tile id tx ty
    → IsSound k (tile_flat i id tx ty m o (place_in place pass quad))
unfolding tile_flat
tile_sound k i pass quad place id tx ty o m whole is =
    texels_sound k i pass quad place tx ty o m whole (block_of id i.frame.resources i.blocks) (λ block e. whole.tile id tx ty block is e)
