-- That a scene's operations are whole.
use Rattle.std.proofs.Common.{◌≡◌, ℕ, zero, suc, ◌+◌, ◌*◌, ◌-◌, ◌≤◌, ◌==◌, ◌||◌, Bool, true, false, Option, Some, None, List, [], ◌∷◌, length, reverse, refl, sym, subst, arith, Contains}
use Rattle.std.specs.List.{All, flat_map}
use Rattle.std.proofs.{lemmas.List.reverse-append, lemmas.List.length-reverse, lemmas.Bool.Decides.nat_tests}
use Rattle.std.proofs.lemmas.List.Elements.{All-nil, All-cons, All-head, All-tail, All-append}
use Rattle.vz_geom.specs.{declared.Size.Size, Rectangle.Rectangle}
use Rattle.vz_ids.specs.{declared.SurfaceId.SurfaceId, declared.SurfaceRange.SurfaceRange}
use Rattle.vz_pixels.specs.Colour.{Colour}
use Rattle.vz_frame.specs.{declared.blend.Blend.Blend, declared.frame.Material.Material}
use Rattle.vz_frame.specs.{declared.frame.RenderPass.RenderPass, declared.frame.DrawQuad.DrawQuad, Frame.passes_down, Frame.names_pass}
use Rattle.vz_frame.specs.declared.frame.Material.TheVariants.{Solid, Tile, Surface, Pass}
use Rattle.vz_rules.specs.{World.FrameData, World.Scene, World.frame_on, Scene.shown_frame, Paint.on_path, Walk.Placement, Walk.place_in, Walk.whole}
use Rattle.vz_rules.proofs.{Members.contains_here, Members.contains_there, Remembered.shown_in}
use Rattle.vz_flat.specs.{declared.op.Op.Op, declared.op.Op.TheVariants.Fill}
use Rattle.vz_flat.specs.{declared.op.TheConstants.MOST_OPEN, Ops.is_whole, Parts.seen_flat, Parts.surface_place, Parts.pass_part, Parts.inner_place}
use Rattle.vz_flat.specs.{Gutters.parts_round, Gutters.part_flat, Gutters.gutter_flat, Whole.IsQuadWhole, Whole.IsPassWhole, Whole.IsFrameWhole}
use Rattle.vz_flat.specs.Flat.{FlatNamed, FlatRange, FlatContent, material_flat, quad_flat, quads_flat, group_flat, groups_flat, root_flat, content_flat, present_place, laid_flat, shown_flat, range_flat, flat, scene_flat}
use Rattle.vz_flat.proofs.Sound.{IsSound, sound_none, sound_fill, sound_both, sound_less, sound_group, sound_seen, sound_choice, whole_of_sound}
use Rattle.vz_flat.proofs.Tile_sound.{tile_sound}

-- Gutters

parts_sound : (k : ℕ) (b : Colour) (parts : List Rectangle) → IsSound k (flat_map (part_flat b) parts)
parts_sound k b [] = sound_none k
parts_sound k b (part ∷ parts) =
    sound_both k (part_flat b part) (flat_map (part_flat b) parts) (sound_seen k part _ (sound_fill k part b 255 _)) (parts_sound k b parts)

gutter_sound : (k : ℕ) (range : SurfaceRange) (b : Colour) (i : FrameData) (place : Placement) → IsSound k (gutter_flat range b i place)
unfolding gutter_flat
gutter_sound k range b i place = grind (arith, nat_tests, sound_none k, parts_sound k b (parts_round place.window (surface_place i place).window))

-- Passes

module _ (i : FrameData) (ranges : FlatRange) (k : ℕ)
    (ranges_sound : (range : SurfaceRange) (b : Colour) (m : Blend) (o : ℕ) (place : Placement) → IsSound k (ranges range b m o place)) where
  abbrev NamedSound : ℕ → FlatNamed → Type 0
  NamedSound n named = (id : ℕ) (m : Blend) (o : ℕ) (place : Placement) → IsSound n (named id m o place)

  material_sound : (n : ℕ) (named : FlatNamed) → k ≤ n → NamedSound n named → (pass : RenderPass) (quad : DrawQuad) (m : Material)
      → quad.material ≡ m → (place inner : Placement) → inner ≡ place_in place pass quad
      → IsQuadWhole i quad → IsSound n (material_flat i named ranges quad inner)
  unfolding material_flat
  material_sound n named more sound pass quad (Solid c) e place inner same fine = rw e (sound_fill n inner.window c quad.opacity quad.blend)
  material_sound n named more sound pass quad (Tile id tx ty) e place inner same fine = grind (arith, nat_tests, tile_sound n i pass quad place id tx ty quad.opacity quad.blend fine e)
  material_sound n named more sound pass quad (Surface range b) e place inner same fine = grind (arith, nat_tests, sound_less k n)
  material_sound n named more sound pass quad (Pass id) e place inner same fine = rw e (sound id quad.blend quad.opacity inner)

  quads_sound : (n : ℕ) (named : FlatNamed) → k ≤ n → NamedSound n named → (pass : RenderPass) (place : Placement) (quads : List DrawQuad)
      → All (IsQuadWhole i) quads
      → IsSound n (quads_flat i named ranges pass place quads)
  unfolding quads_flat
  quads_sound n named more sound pass place [] all = sound_none n
  quads_sound n named more sound pass place (quad ∷ behind) all =
      sound_both n (quads_flat i named ranges pass place behind) (quad_flat i named ranges quad (place_in place pass quad))
      (quads_sound n named more sound pass place behind (All-tail (IsQuadWhole i) quad behind all))
      (sound_seen n (place_in place pass quad).window _ (material_sound n named more sound pass quad quad.material refl place (place_in place pass quad) refl (All-head (IsQuadWhole i) quad behind all)))

  -- each pass is a group more than those that it draws
  groups_sound : (passes : List RenderPass) → All (IsPassWhole i) passes → NamedSound (k + length passes) (groups_flat i ranges passes)
  unfolding groups_flat group_flat
  groups_sound [] all id m o place = sound_none (k + 0)
  groups_sound (pass ∷ earlier) all id m o place =
      let pass_whole = All-head (IsPassWhole i) pass earlier all in
      let before = groups_sound earlier (All-tail (IsPassWhole i) pass earlier all) in
      let quads = quads_sound (k + length earlier) (groups_flat i ranges earlier) (omega arith) before pass
      (inner_place pass place) pass.quads pass_whole.quads in
      sound_choice (k + length (pass ∷ earlier)) (names_pass id pass) _ _
      (sound_less (k + length earlier + 1) (k + length (pass ∷ earlier)) _ (omega arith)
      (sound_seen (k + length earlier + 1) (pass_part pass (inner_place pass place)) _ (sound_group (k + length earlier) (pass_part pass (inner_place pass place)) o m _ quads)))
      (sound_less (k + length earlier) (k + length (pass ∷ earlier)) _ (omega arith) (before id m o place))

  pub root_sound : (passes : List RenderPass) (place : Placement) → All (IsPassWhole i) passes → length passes ≤ 16
      → IsSound (k + 15) (root_flat i ranges passes place)
  unfolding root_flat
  root_sound [] place all few = sound_none (k + 15)
  root_sound (root ∷ earlier) place all few =
      let root_whole = All-head (IsPassWhole i) root earlier all in
      let before = groups_sound earlier (All-tail (IsPassWhole i) root earlier all) in
      sound_less (k + length earlier) (k + 15) _ (omega (arith, few))
      (quads_sound (k + length earlier) (groups_flat i ranges earlier) (omega arith) before root place root.quads root_whole.quads)

-- Surfaces

laid_sound : (k : ℕ) (body : List Op) (m : Blend) (o : ℕ) (place : Placement) → IsSound k body → IsSound (k + 1) (laid_flat body m o place)
unfolding laid_flat
laid_sound k body m o place sound = grind (arith, nat_tests, sound_choice, sound_less k, sound_group k place.window o m body sound)

all_reversed : {A : Type 0} (P : A → Type 0) (xs : List A) → All P xs → All P (reverse xs)
all_reversed P [] all = all
all_reversed P (x ∷ xs) all =
    subst (All P) (sym (reverse-append (x ∷ []) xs))
    (All-append P (reverse xs) (x ∷ []) (all_reversed P xs (All-tail P x xs all)) (All-cons P x [] (All-head P x xs all) (All-nil P)))

module _ (active : List FrameData) (all : (i : FrameData) → Contains active i → IsFrameWhole i) where
  abbrev ContentSound : ℕ → FlatContent → Type 0
  ContentSound k content = (path : List SurfaceId) (i : FrameData) (place : Placement) → IsFrameWhole i → IsSound k (content path i place)

  content_sound : (k : ℕ) (content : FlatContent) → ContentSound k content
      → (path : List SurfaceId) (range : SurfaceRange) (b : Colour) (i : FrameData) (place : Placement) → IsFrameWhole i
      → IsSound k (content_flat content path range b i place)
  unfolding content_flat
  content_sound k content sound path range b i place fine = grind (arith, nat_tests, sound_both k, gutter_sound k range b i place, sound_seen k (surface_place i place).window)

  shown_sound : (k : ℕ) (content : FlatContent) → ContentSound k content
      → (path : List SurfaceId) (range : SurfaceRange) (b : Colour) (m : Blend) (o : ℕ) (place : Placement) (i : FrameData)
      → IsFrameWhole i
      → IsSound (k + 1) (shown_flat content path range b m o place i)
  shown_sound k content sound path range b m o place i fine =
      sound_seen (k + 1) (present_place range i place).window _
      (laid_sound k (content_flat content path range b i place) m o (present_place range i place) (content_sound k content sound path range b i place fine))

  by_shown : (n : ℕ) (ends : Bool) (content : FlatContent)
      → ((i : FrameData) → ends ≡ false → (path : List SurfaceId) (range : SurfaceRange) (b : Colour) (m : Blend) (o : ℕ) (place : Placement) → IsFrameWhole i → IsSound n (shown_flat content path range b m o place i))
      → (path : List SurfaceId) (range : SurfaceRange) (b : Colour) (m : Blend) (o : ℕ) (place : Placement)
      → (s : Option FrameData) → ((i : FrameData) → s ≡ Some i → IsFrameWhole i)
      → IsSound n (elim s [ None ↦ Fill place.window b o m ∷ [] | Some i ↦ elim (ends || on_path path i) [ true ↦ [] | false ↦ shown_flat content path range b m o place i ] ])
  by_shown n ends content sound path range b m o place None fine = sound_fill n place.window b o m
  by_shown n true content sound path range b m o place (Some i) fine = sound_none n
  by_shown n false content sound path range b m o place (Some i) fine = grind (arith, nat_tests, sound_choice n (on_path path i), sound_none n)

  -- how many groups a range opens at most, where so many surfaces are left
  abbrev range_depth : ℕ → ℕ
  range_depth n = 16 * n

  range_sound : (n : ℕ) → ContentSound (range_depth n - 1) (flat n active)
      → (path : List SurfaceId) (range : SurfaceRange) (b : Colour) (m : Blend) (o : ℕ) (place : Placement)
      → IsSound (range_depth n) (range_flat (n == 0) (flat n active) active path range b m o place)
  unfolding range_flat
  range_sound n sound path range b m o place =
      by_shown (range_depth n) (n == 0) (flat n active)
      (λ i some path' range' b' m' o' place' fine.
      sound_less (range_depth n - 1 + 1) (range_depth n) _ (one_of n some)
      (shown_sound (range_depth n - 1) (flat n active) sound path' range' b' m' o' place' i fine))
      path range b m o place (shown_frame active range) (λ i e. all i (shown_in active range i e))
    where
      one_of : (n : ℕ) → (n == 0) ≡ false → 16 * n - 1 + 1 ≤ 16 * n
      one_of zero e = absurd (cc)
      one_of (suc n) e = omega arith

  flat_sound : (n : ℕ) → ContentSound (range_depth n - 1) (flat n active)
  unfolding flat
  flat_sound zero path i place fine = sound_none _
  flat_sound (suc n) path i place fine =
      sound_less (range_depth n + 15) (range_depth (suc n) - 1) _ (omega arith)
      (root_sound i (range_flat (n == 0) (flat n active) active (i.id ∷ path)) (range_depth n) (range_sound n (flat_sound n) (i.id ∷ path)) (passes_down i.frame) place (all_reversed (IsPassWhole i) i.frame.passes fine.passes)
      (subst (λ n. n ≤ 16) (sym (length-reverse i.frame.passes)) fine.few))

  by_root : (size : Size) (s : Option FrameData) → ((i : FrameData) → s ≡ Some i → IsFrameWhole i)
      → IsSound MOST_OPEN (elim s [ None ↦ [] | Some i ↦ seen_flat (surface_place i (whole size)).window (flat 64 active [] i (surface_place i (whole size))) ])
  by_root size None h = sound_none MOST_OPEN
  by_root size (Some i) h =
      sound_seen MOST_OPEN (surface_place i (whole size)).window _ (flat_sound 64 [] i (surface_place i (whole size)) (h i refl))

pub frame_there : (id : SurfaceId) (active : List FrameData) (i : FrameData) → frame_on id active ≡ Some i → Contains active i
frame_there id [] i e = absurd (cc)
frame_there id (x ∷ active) i e = grind (arith, nat_tests, frame_there id active i, contains_here x active, contains_there x i active)

-- the operations of a scene with whole frames are whole
pub flat_is_whole : (size : Size) (scene : Scene) → ((i : FrameData) → Contains scene.active i → IsFrameWhole i)
    → is_whole (scene_flat size scene) ≡ true
unfolding scene_flat
flat_is_whole size scene all =
    whole_of_sound _
    (by_root scene.active all size (frame_on scene.root scene.active) (λ i e. all i (frame_there scene.root scene.active i e)))
