-- That the passes and quads of accepted frames are whole.
use Rattle.std.proofs.Common.{◌≡◌, ℕ, suc, Bool, true, false, not, ◌&&◌, Option, Some, None, List, [], ◌∷◌, ◌++◌, refl, sym, ◌∙◌, cond, subst, arith}
use Rattle.std.specs.{Prelude.slice_get, List.All, List.list_any, List.list_all, List.flat_map}
use Rattle.std.proofs.{lemmas.Bool.and_parts, lemmas.Bool.or_parts, lemmas.Bool.not-false as not_false, lemmas.List.Folds.list_any-append}
use Rattle.std.proofs.{lemmas.Int.ints, lemmas.List.Elements.All-nil, lemmas.List.Elements.All-cons, lemmas.Bool.Decides.nat_tests}
use Rattle.vz_base.specs.declared.limits.TheConstants.{NEWEST_FORMAT}
use Rattle.vz_geom.specs.Rectangle.{Rectangle, covers_rect}
use Rattle.vz_geom.proofs.Bounds.{covers_of_test}
use Rattle.vz_pixels.specs.Block.{Block}
use Rattle.vz_frame.specs.{declared.frame.CompositorFrame.CompositorFrame, declared.frame.RenderPass.RenderPass, declared.frame.DrawQuad.DrawQuad}
use Rattle.vz_frame.specs.{declared.frame.Listing.Listing, Fits.fits_quad, Fits.fits_pass}
use Rattle.vz_frame.specs.Frame.{lists, exceeds, tile_outside, quads_of, breaks, first_broken}
use Rattle.vz_rules.specs.{World.FrameData, Paint.block_of, Kept.StandsFor, Kept.IsWhole}
use Rattle.vz_flat.specs.Whole.{IsInBlock, IsQuadWhole, IsPassWhole, IsFrameWhole}
use Rattle.vz_placement.proofs.Fitting.{quad_in_reach, pass_fits, pass_in_reach, frame_passes}

-- Rules that are not broken

abbrev hides_none : DrawQuad → Bool
hides_none quad = not (covers_rect quad.area quad.visible)

kept_rules : (frame : CompositorFrame) → first_broken frame ≡ None
    → (list_any hides_none (quads_of frame) ≡ false) × (list_any (tile_outside frame.resources) (quads_of frame) ≡ false)
unfolding first_broken breaks
kept_rules frame e = grind (arith, nat_tests)

-- Blocks of listings

abbrev outside : ℕ → Rectangle → ℕ → ℕ → Listing → Bool
outside id area tx ty l = lists id l && exceeds area tx ty l

some_is : {x y : Block} → ◌≡◌ {A = Option Block} (Some x) (Some y) → x ≡ y
some_is e = cc

block_inside : (quad : DrawQuad) (tx ty : ℕ) (l : Listing) (b : Block) → exceeds quad.area tx ty l ≡ false → StandsFor l b
    → IsInBlock quad tx ty b
block_inside quad tx ty l b e stands = grind (arith, nat_tests, or_parts, ints)

listed_inside : (quad : DrawQuad) (id tx ty : ℕ) (ls : List Listing) (bs : List Block)
    → ((n : ℕ) (l : Listing) (b : Block) → slice_get ls n ≡ Some l → slice_get bs n ≡ Some b → StandsFor l b)
    → list_any (outside id quad.area tx ty) ls ≡ false → (block : Block) → block_of id ls bs ≡ Some block → IsInBlock quad tx ty block
listed_inside quad id tx ty [] bs stands none block e = absurd (cc)
listed_inside quad id tx ty (l ∷ ls) [] stands none block e = absurd (cc)
listed_inside quad id tx ty (l ∷ ls) (b ∷ bs) stands none block e =
    let parts = or_parts (outside id quad.area tx ty l) (list_any (outside id quad.area tx ty) ls) none in
    by_test (listed_inside quad id tx ty ls bs (λ n l' b' f g. stands (suc n) l' b' f g) parts.1 block) (lists id l) parts.0 e
  where
    by_test : (block_of id ls bs ≡ Some block → IsInBlock quad tx ty block) → (t : Bool) → (t && exceeds quad.area tx ty l) ≡ false
        → ◌≡◌ {A = Option Block} (cond t (Some b) (block_of id ls bs)) (Some block) → IsInBlock quad tx ty block
    by_test rest true h k = subst (IsInBlock quad tx ty) (some_is k) (block_inside quad tx ty l b h (stands 0 l b refl refl))
    by_test rest false h k = rest k

-- Quads and passes

module _ (i : FrameData)
    (stands : (n : ℕ) (l : Listing) (b : Block) → slice_get i.frame.resources n ≡ Some l → slice_get i.blocks n ≡ Some b → StandsFor l b) where
  quad_whole : (quad : DrawQuad) → fits_quad NEWEST_FORMAT quad ≡ true → hides_none quad ≡ false
      → tile_outside i.frame.resources quad ≡ false → IsQuadWhole i quad
  quad_whole quad fits visible inside =
      record {
        reach = quad_in_reach NEWEST_FORMAT quad fits;
        visible = covers_of_test quad.area quad.visible (not_false (covers_rect quad.area quad.visible) visible);
        tile = λ id tx ty block is e. listed_inside quad id tx ty i.frame.resources i.blocks stands (rw is at inside) block e;
      }

  quads_whole : (quads : List DrawQuad) → list_all (fits_quad NEWEST_FORMAT) quads ≡ true → list_any hides_none quads ≡ false
      → list_any (tile_outside i.frame.resources) quads ≡ false → All (IsQuadWhole i) quads
  quads_whole [] fits visible inside = All-nil (IsQuadWhole i)
  quads_whole (quad ∷ quads) fits visible inside =
      let f = and_parts (fits_quad NEWEST_FORMAT quad) (list_all (fits_quad NEWEST_FORMAT) quads) fits in
      let v = or_parts (hides_none quad) (list_any hides_none quads) visible in
      let t = or_parts (tile_outside i.frame.resources quad) (list_any (tile_outside i.frame.resources) quads) inside in
      All-cons (IsQuadWhole i) quad quads (quad_whole quad f.0 v.0 t.0) (quads_whole quads f.1 v.1 t.1)

  split_any : (p : DrawQuad → Bool) (xs ys : List DrawQuad) → list_any p (xs ++ ys) ≡ false
      → (list_any p xs ≡ false) × (list_any p ys ≡ false)
  split_any p xs ys e = or_parts (list_any p xs) (list_any p ys) (sym (list_any-append p xs ys) ∙ e)

  abbrev quads_in : List RenderPass → List DrawQuad
  quads_in passes = flat_map (λ (pass : RenderPass). pass.quads) passes

  passes_whole : (passes : List RenderPass) → list_all (fits_pass NEWEST_FORMAT) passes ≡ true
      → list_any hides_none (quads_in passes) ≡ false → list_any (tile_outside i.frame.resources) (quads_in passes) ≡ false
      → All (IsPassWhole i) passes
  passes_whole [] fits visible inside = All-nil (IsPassWhole i)
  passes_whole (pass ∷ passes) fits visible inside =
      let f = and_parts (fits_pass NEWEST_FORMAT pass) (list_all (fits_pass NEWEST_FORMAT) passes) fits in
      let v = split_any hides_none pass.quads (quads_in passes) visible in
      let t = split_any (tile_outside i.frame.resources) pass.quads (quads_in passes) inside in
      All-cons (IsPassWhole i) pass passes
      (record { reach = pass_in_reach NEWEST_FORMAT pass f.0; quads = quads_whole pass.quads (pass_fits NEWEST_FORMAT pass f.0).2 v.0 t.0 })
      (passes_whole passes f.1 v.1 t.1)

-- an accepted frame's passes are whole, and no more than 16
pub frame_whole : (i : FrameData) → IsWhole i → IsFrameWhole i
frame_whole i fine = grind (arith, nat_tests, frame_passes NEWEST_FORMAT i.frame fine.frame, kept_rules i.frame fine.breaks_none, passes_whole i fine.blocks i.frame.passes)
