-- What is drawn of passes and tiles, by where their names lead.
use Rattle.std.proofs.Common.{◌≡◌, ℕ, zero, suc, ◌+◌, ◌-◌, ◌<◌, ◌≤◌, Bool, true, false, Option, Some, List, [], ◌∷◌, length, take, reverse, get_or, slice_get, refl, ap, sym, ◌∙◌, subst, arith}
use Rattle.std.proofs.{lemmas.List.reverse-append, lemmas.Grind.take_at_read, lemmas.Option.slice_get-get_or, lemmas.Bool.Decides.nat_tests}
use Rattle.vz_pixels.specs.Block.{Block}
use Rattle.vz_frame.specs.{declared.blend.Blend.Blend, declared.frame.DrawQuad.DrawQuad, Frame.names_pass}
use Rattle.vz_frame.specs.{declared.frame.RenderPass.RenderPass, declared.frame.Material.TheVariants.Tile, declared.frame.Material.TheVariants.Pass}
use Rattle.vz_rules.specs.{World.FrameData, Kept.IsWhole, Walk.Placement}
use Rattle.vz_surfaces.specs.Names.{pass_place, place_named, block_at}
use Rattle.vz_surfaces.proofs.Leading.{place_here, place_over, place_none, place_before, pass_named, tile_named, block_is}
use Rattle.vz_flat.specs.{declared.op.Op.Op, Whole.IsPassWhole}
use Rattle.vz_flat.specs.{Flat.FlatNamed, Flat.FlatRange, Flat.material_flat, Flat.groups_flat, Tiles.first_texel, Tiles.texels_flat, Tiles.tile_flat}
use Rattle.vz_flat.specs.Flattening.{Stand, passes_in, material_here, earlier_of, group_at}
use Rattle.vz_flat.proofs.Wholes.{frame_whole}

-- What is drawn of the passes before a place by their ids

turned : (passes : List RenderPass) (k : ℕ) (d : RenderPass) → k < length passes
    → reverse (take (k + 1) passes) ≡ get_or passes k d ∷ reverse (take k passes)
turned passes k d h = ap reverse (take_at_read passes k d h).1 ∙ reverse-append (take k passes) (get_or passes k d ∷ [])

module _ (s : Stand) (id : ℕ) (m : Blend) (o : ℕ) (place : Placement) where
  -- what is drawn by the id, of the passes before a place
  abbrev drawn_to : ℕ → List Op
  drawn_to k = passes_in s (earlier_of s k) id m o place

  here : (j k : ℕ) (d : RenderPass) → k + 1 ≡ j → k < length s.seen.frame.passes
      → names_pass id (get_or s.seen.frame.passes k d) ≡ true → drawn_to j ≡ group_at s m o place (Some k)
  unfolding groups_flat
  here j k d e h named = grind (arith, nat_tests, turned s.seen.frame.passes k d h, slice_get-get_or s.seen.frame.passes k d h)

  over : (j k : ℕ) (d : RenderPass) → k + 1 ≡ j → k < length s.seen.frame.passes
      → names_pass id (get_or s.seen.frame.passes k d) ≡ false → drawn_to j ≡ drawn_to k
  unfolding groups_flat
  over j k d e h named = grind (arith, nat_tests, turned s.seen.frame.passes k d h)

  none : (k : ℕ) → k ≤ 0 → drawn_to k ≡ []
  unfolding groups_flat
  none k h = grind (arith, nat_tests)

  -- one place further on, whether or not the pass there has the id
  drawn_further : (d : RenderPass) (k : ℕ) (t : Bool) → k < length s.seen.frame.passes
      → drawn_to k ≡ group_at s m o place (pass_place id s.seen.frame.passes k)
      → names_pass id (get_or s.seen.frame.passes k d) ≡ t
      → drawn_to (suc k) ≡ group_at s m o place (pass_place id s.seen.frame.passes (suc k))
  unfolding groups_flat
  drawn_further d k t h before e = grind (arith, nat_tests, here (suc k) k d, place_here id s.seen.frame.passes (suc k) k d, turned, place_over id s.seen.frame.passes (suc k) k d)

  drawn_with : (d : RenderPass) (k : ℕ) → k ≤ length s.seen.frame.passes
      → drawn_to k ≡ group_at s m o place (pass_place id s.seen.frame.passes k)
  drawn_with d zero h = none 0 (omega arith) ∙ ap (group_at s m o place) (place_none id s.seen.frame.passes 0 (omega arith))
  drawn_with d (suc k) h = grind (arith, nat_tests, drawn_further d k (names_pass id (get_or s.seen.frame.passes k d)), drawn_with d k)

  -- what the id leads to is drawn
  pub drawn_at : (k : ℕ) → k < length s.seen.frame.passes
      → drawn_to k ≡ group_at s m o place (pass_place id s.seen.frame.passes k)
  drawn_at k h = some s.seen.frame.passes refl
    where
      some : (passes : List RenderPass) → s.seen.frame.passes ≡ passes
          → drawn_to k ≡ group_at s m o place (pass_place id s.seen.frame.passes k)
      some [] e = absurd (let none = ap length e in omega (arith, h, none))
      some (p ∷ ps) e = drawn_with p k (omega (arith, h))

-- What is drawn of a quad by where its name leads

module _ (i : FrameData) (named : FlatNamed) (ranges : FlatRange) (quad : DrawQuad) (place : Placement) where
  -- a tile
  pub tile_drawn : (k id tx ty : ℕ) (leads_to : Option ℕ) (block : Option Block) → quad.material ≡ Tile id tx ty
      → leads_to ≡ place_named i.frame k quad → block ≡ block_at leads_to i.blocks
      → texels_flat block (first_texel tx ty place) quad.blend quad.opacity place.window ≡ material_flat i named ranges quad place
  unfolding tile_flat material_flat
  tile_drawn k id tx ty leads_to block m is own = grind (arith, nat_tests, tile_named i.frame k quad id tx ty m, block_is id i.frame.resources i.blocks)

-- a pass quad
pub name_drawn : (s : Stand) (k id : ℕ) (quad : DrawQuad) (place : Placement) (leads_to : Option ℕ) → k < length s.seen.frame.passes
    → quad.material ≡ Pass id → leads_to ≡ place_named s.seen.frame k quad
    → group_at s quad.blend quad.opacity place leads_to ≡ material_here s (earlier_of s k) quad place
unfolding material_flat
name_drawn s k id quad place leads_to h m is = grind (arith, nat_tests, pass_named, drawn_at)

-- it leads to an earlier pass
pub name_before : (s : Stand) (k at id : ℕ) (quad : DrawQuad) (leads_to : Option ℕ) → quad.material ≡ Pass id
    → leads_to ≡ place_named s.seen.frame k quad → leads_to ≡ Some at → at < k
name_before s k at id quad leads_to m is e = grind (arith, nat_tests, place_before id s.seen.frame.passes k at, pass_named s.seen.frame k quad id m)

-- What is known of the pass at a place

-- it stands there, and it is whole
pub record IsPassAt (i : FrameData) (k : ℕ) (p : RenderPass) : Type 0 where
  pub there : slice_get i.frame.passes k ≡ Some p
  pub whole : IsPassWhole i p

pass_there : (i : FrameData) (passes : List RenderPass) (k : ℕ) (p : RenderPass) → passes ≡ i.frame.passes → k < length passes
    → p ≡ get_or passes k p → slice_get i.frame.passes k ≡ Some p
pass_there i passes k p own h here = ap (λ l. slice_get l k) (sym own) ∙ (slice_get-get_or passes k p h ∙ ap (λ x. Some x) (sym here))

pass_whole : (i : FrameData) (passes : List RenderPass) (k : ℕ) (p : RenderPass) → IsWhole i → passes ≡ i.frame.passes
    → k < length passes → p ≡ get_or passes k p → IsPassWhole i p
pass_whole i passes k p fine own h here = grind (arith, nat_tests, frame_whole i fine)

pub pass_at : (i : FrameData) (passes : List RenderPass) (k : ℕ) (p : RenderPass) → IsWhole i → passes ≡ i.frame.passes
    → k < length i.frame.passes → p ≡ get_or passes k p → IsPassAt i k p
pass_at i passes k p fine own h here =
    let within : k < length passes = subst (λ l. k < length l) (sym own) h in
    record { there = pass_there i passes k p own within here; whole = pass_whole i passes k p fine own within here }

-- the last of them
pub last_pass_at : (i : FrameData) (passes : List RenderPass) (p : RenderPass) → IsWhole i → passes ≡ i.frame.passes
    → (length passes ≡ 0 → ⊥) → p ≡ get_or passes (length passes - 1) p → IsPassAt i (length passes - 1) p
last_pass_at i passes p fine own some here =
    let inside : length passes - 1 < length passes = omega (arith, some) in
    pass_at i passes (length passes - 1) p fine own (subst (λ l. length passes - 1 < length l) own inside) here
