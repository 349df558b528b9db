-- That a scene's list of operations does what painting does.
use Rattle.std.proofs.Common.{◌≡◌, ℕ, zero, suc, ◌&&◌, not, ◌||◌, ◌==◌, Bool, true, false, Option, Some, None, List, [], ◌∷◌, refl, ap, ◌∙◌, cond, subst, arith}
use Rattle.vz_geom.specs.declared.Point.{Point}
use Rattle.vz_geom.specs.Rectangle.{Rectangle, has, plus, corner, meet, moved, sized}
use Rattle.vz_geom.proofs.Sets.{has_moved_is, has_meet_is}
use Rattle.vz_ids.specs.{declared.SurfaceId.SurfaceId, declared.SurfaceRange.SurfaceRange, Ids.same_surface}
use Rattle.vz_pixels.specs.Colour.{Colour, transparent, over}
use Rattle.vz_frame.specs.{declared.frame.RenderPass.RenderPass, declared.blend.Blend.Blend, Frame.passes_down, Frame.names_pass, Frame.frame_size}
use Rattle.vz_frame.specs.{declared.frame.DrawQuad.DrawQuad, Blending.laid, Blending.is_straight, declared.frame.Material.Material}
use Rattle.vz_frame.specs.declared.frame.Material.TheVariants.{Solid, Tile, Surface, Pass}
use Rattle.vz_rules.specs.{World.FrameData, Scene.shown_frame, Walk.Placement, Walk.seen_part, Walk.place_in}
use Rattle.vz_rules.specs.Paint.{covers, local_point, Named, Embedding, Content, on_path, material_painted, quads_painted, pass_painted, group_laid, groups, root_painted, content_at, is_absent, content_laid}
use Rattle.vz_rules.proofs.Geometry.{local_stays, output_stays, has_seen_is}
use Rattle.vz_flat.specs.{declared.op.Op.Op, Gutters.gutter_flat}
use Rattle.vz_flat.specs.{declared.op.Op.TheVariants.Fill, Parts.seen_flat, Parts.pass_part, Parts.inner_place, Parts.surface_place}
use Rattle.vz_flat.specs.Flat.{FlatNamed, FlatRange, FlatContent, material_flat, quad_flat, quads_flat, group_flat, groups_flat, root_flat, content_flat, present_place, laid_flat, shown_flat, range_flat, flat}
use Rattle.vz_flat.proofs.Acting.{ActsAs, acts_none, acts_both, acts_fill, acts_group, acts_same, acts_seen}
use Rattle.vz_flat.proofs.{Tiled.tile_acts, Guttered.gutter_acts, Levelled.embeds_until, Levelled.pix_until}
use Rattle.std.proofs.lemmas.Bool.Decides.{nat_tests}

-- a quad in front of others: where the window has the point and the quad covers it
before_case : (w c s : Bool) → s ≡ (w && c) → (f g : Colour → Colour) (d : Colour)
    → cond s (f (cond w (g d) d)) (cond w (g d) d) ≡ cond w (elim c [ true ↦ f (g d) | false ↦ g d ]) d
before_case w c s e f g d = grind (arith, nat_tests)

group_case : (w c s : Bool) → s ≡ (w && c) → (m : Blend) (o : ℕ) (g : Colour → Colour) (d : Colour)
    → cond s (laid m (cond w (g transparent) transparent) o d) d ≡ cond w (elim c [ true ↦ laid m (g transparent) o d | false ↦ d ]) d
group_case w c s e m o g d = grind (arith, nat_tests)

choice_acts : (P : Point) (t w : Bool) (xs ys : List Op) (f g : Colour → Colour) → ActsAs P xs (λ d. cond w (f d) d)
    → ActsAs P ys (λ d. cond w (g d) d)
    → ActsAs P (elim t [ true ↦ xs | false ↦ ys ]) (λ d. cond w (elim t [ true ↦ f d | false ↦ g d ]) d)
choice_acts _ t w xs ys f g a b = grind (arith, nat_tests)

nothing_acts : (P : Point) (w : Bool) → ActsAs P [] (λ d. cond w d d)
nothing_acts P true = acts_none P
nothing_acts P false = acts_none P

module _ (P : Point) (i : FrameData) (ranges : Embedding) (flat_ranges : FlatRange)
    (ranges_act : (range : SurfaceRange) (b : Colour) (m : Blend) (o : ℕ) (l : Point) (place : Placement) → plus l place.shift ≡ P → ActsAs P (flat_ranges range b m o place) (λ d. cond (has place.window P) (ranges range b m o l d) d)) where
  abbrev pub NamedActs : Named → FlatNamed → Type 0
  NamedActs named flat =
      (id : ℕ) (m : Blend) (o : ℕ) (l : Point) (place : Placement) → plus l place.shift ≡ P → ActsAs P (flat id m o place)
      (λ d. cond (has place.window P) (named id m o l d) d)

  material_acts : (named : Named) (flat : FlatNamed) → NamedActs named flat → (quad : DrawQuad) (m : Material) → quad.material ≡ m
      → (q : Point) (place : Placement) → plus (local_point quad q) place.shift ≡ P
      → ActsAs P (material_flat i flat flat_ranges quad place) (λ d. cond (has place.window P) (material_painted i named ranges quad q d) d)
  unfolding material_flat material_painted
  material_acts named flat acts quad (Solid c) e q place stays = rw e (acts_fill P place.window c quad.opacity quad.blend)
  material_acts named flat acts quad (Tile id tx ty) e q place stays =
      rw e (tile_acts P i id tx ty quad.blend quad.opacity (local_point quad q) place stays)
  material_acts named flat acts quad (Surface range b) e q place stays =
      rw e (ranges_act range b quad.blend quad.opacity (local_point quad q) place stays)
  material_acts named flat acts quad (Pass id) e q place stays = rw e (acts id quad.blend quad.opacity (local_point quad q) place stays)

  quads_act : (named : Named) (flat : FlatNamed) → NamedActs named flat
      → (pass : RenderPass) (quads : List DrawQuad) (q : Point) (place : Placement) → plus q place.shift ≡ P
      → ActsAs P (quads_flat i flat flat_ranges pass place quads) (λ d. cond (has place.window P) (quads_painted i named ranges pass quads q d) d)
  unfolding quads_flat quads_painted
  quads_act named flat acts pass [] q place stays = nothing_acts P (has place.window P)
  quads_act named flat acts pass (quad ∷ behind) q place stays =
      let seen : has (seen_part place pass quad) P ≡ (has place.window P && covers pass quad q) =
      subst (λ (p : Point). has (seen_part place pass quad) p ≡ (has place.window p && covers pass quad q)) stays
      (has_seen_is pass quad q place) in
      acts_same P _ _ _
      (before_case (has place.window P) (covers pass quad q) (has (seen_part place pass quad) P) seen (material_painted i named ranges quad q) (quads_painted i named ranges pass behind q))
      (acts_both P (quads_flat i flat flat_ranges pass place behind) (quad_flat i flat flat_ranges quad (place_in place pass quad)) _ _
      (quads_act named flat acts pass behind q place stays)
      (acts_seen P (seen_part place pass quad) _ (material_painted i named ranges quad q) (has (seen_part place pass quad) P) refl
      (material_acts named flat acts quad quad.material refl q (place_in place pass quad) (local_stays quad q place.shift ∙ stays))))

  group_acts : (named : Named) (flat : FlatNamed) → NamedActs named flat
      → (pass : RenderPass) (m : Blend) (o : ℕ) (l : Point) (place : Placement) → plus l place.shift ≡ P
      → ActsAs P (group_flat i flat flat_ranges pass m o place) (λ d. cond (has place.window P) (group_laid i named ranges pass m o l d) d)
  unfolding group_flat group_laid pass_painted
  group_acts named flat acts pass m o l place stays =
      let out : has (moved pass.output place.shift) P ≡ has pass.output l = subst
      (λ (p : Point). has (moved pass.output place.shift) p ≡ has pass.output l) stays (has_moved_is pass.output place.shift l) in
      let area : has (pass_part pass place) P ≡ (has place.window P && has pass.output l) =
      has_meet_is place.window (moved pass.output place.shift) P ∙ ap (λ t. has place.window P && t) out in
      acts_same P _ _ _
      (group_case (has place.window P) (has pass.output l) (has (pass_part pass place) P) area m o (quads_painted i named ranges pass pass.quads l))
      (acts_seen P (pass_part pass place) _ (λ d. laid m (cond (has place.window P) (quads_painted i named ranges pass pass.quads l transparent) transparent) o d) (has (pass_part pass place) P) refl
      (acts_group P (pass_part pass place) o m _ _ (quads_act named flat acts pass pass.quads l place stays)))

  groups_act : (passes : List RenderPass) → NamedActs (groups i ranges passes) (groups_flat i flat_ranges passes)
  unfolding groups groups_flat
  groups_act [] id m o l place stays = nothing_acts P (has place.window P)
  groups_act (pass ∷ earlier) id m o l place stays =
      choice_acts P (names_pass id pass) (has place.window P) _ _ _ _
      (group_acts (groups i ranges earlier) (groups_flat i flat_ranges earlier) (groups_act earlier) pass m o (plus l (corner pass.output)) (inner_place pass place)
      (output_stays l (corner pass.output) place.shift ∙ stays))
      (groups_act earlier id m o l place stays)

  pub root_acts : (passes : List RenderPass) (q : Point) (place : Placement) → plus q place.shift ≡ P
      → ActsAs P (root_flat i flat_ranges passes place) (λ d. cond (has place.window P) (root_painted i ranges passes q d) d)
  unfolding root_flat root_painted pass_painted
  root_acts [] q place stays = nothing_acts P (has place.window P)
  root_acts (root ∷ earlier) q place stays =
      quads_act (groups i ranges earlier) (groups_flat i flat_ranges earlier) (groups_act earlier) root root.quads q place stays

-- the gutter and then the content, where it is not absent
body_case : (w s e : Bool) (b : Colour) (f : Colour → Colour) (d : Colour)
    → cond (w && s) (f (cond (w && (not s && not e)) (over b d) d)) (cond (w && (not s && not e)) (over b d) d)
    ≡ cond (w && not (not s && e)) (elim s [ true ↦ f d | false ↦ over b d ]) d
body_case w s e b f d = grind (arith, nat_tests)

-- a group in the window, of a body that acts in the window
laid_case : (w : Bool) (f : Colour → Colour) (m : Blend) (o : ℕ) (d : Colour)
    → cond w (laid m (cond w (f transparent) transparent) o d) d ≡ cond w (laid m (f transparent) o d) d
laid_case w f m o d = grind (arith, nat_tests)

present_case : (P : Point) (w s e : Bool) (place inner : Placement) → has place.window P ≡ w → has inner.window P ≡ (w && s)
    → has (Placement.window (cond e inner place)) P ≡ (w && not (not s && e))
present_case _ w s e place inner h k = grind (arith, nat_tests)

module _ (P : Point) (active : List FrameData) where
  abbrev pub ContentActs : Content → FlatContent → Type 0
  ContentActs content ops =
      (path : List SurfaceId) (i : FrameData) (l : Point) (place : Placement) → plus l place.shift ≡ P → ActsAs P (ops path i place)
      (λ d. cond (has place.window P) (content path i l d) d)

  -- inside the window, where the content is not absent
  abbrev pub present : SurfaceRange → FrameData → Point → Placement → Bool
  present range i l place = has place.window P && not (is_absent range i l)

  content_acts : (content : Content) (ops : FlatContent) → ContentActs content ops
      → (path : List SurfaceId) (range : SurfaceRange) (b : Colour) (i : FrameData) (l : Point) (place : Placement)
      → plus l place.shift ≡ P
      → ActsAs P (content_flat ops path range b i place) (λ d. cond (present range i l place) (content_at content path b i l d) d)
  unfolding content_flat content_at is_absent
  content_acts content ops acts path range b i l place stays =
      let size : Rectangle = sized (frame_size i.frame) in
      let in_size : has (moved size place.shift) P ≡ has size l = subst (λ (p : Point). has (moved size place.shift) p ≡ has size l) stays
      (has_moved_is size place.shift l) in
      let window : has (meet place.window (moved size place.shift)) P ≡ (has place.window P && has size l) =
      has_meet_is place.window (moved size place.shift) P ∙ ap (λ t. has place.window P && t) in_size in
      let inside : ActsAs P (seen_flat (surface_place i place).window (ops path i (surface_place i place)))
      (λ d. cond (has place.window P && has size l) (content path i l d) d) =
      acts_seen P (surface_place i place).window (ops path i (surface_place i place)) (content path i l)
      (has place.window P && has size l) window
      (acts_same P _ _ _ (λ d. ap (λ t. cond t (content path i l d) d) window) (acts path i l (surface_place i place) stays)) in
      acts_same P _ _ _
      (body_case (has place.window P) (has size l) (same_surface i.id range.end) b (content path i l))
      (acts_both P (gutter_flat range b i place) (seen_flat (surface_place i place).window (ops path i (surface_place i place))) _ _ (gutter_acts P range b i l place stays) inside)

  -- the part in which it is not absent has the point where the window has it and the content is not absent
  present_is : (range : SurfaceRange) (i : FrameData) (l : Point) (place : Placement) → plus l place.shift ≡ P
      → has (present_place range i place).window P ≡ present range i l place
  unfolding present_place is_absent
  present_is range i l place stays =
      let size : Rectangle = sized (frame_size i.frame) in
      let in_size : has (moved size place.shift) P ≡ has size l = subst (λ (p : Point). has (moved size place.shift) p ≡ has size l) stays
      (has_moved_is size place.shift l) in
      present_case P (has place.window P) (has size l) (same_surface i.id range.end) place (surface_place i place) refl
      (has_meet_is place.window (moved size place.shift) P ∙ ap (λ t. has place.window P && t) in_size)

  laid_acts : (body : List Op) (f : Colour → Colour) (m : Blend) (o : ℕ) (place : Placement) (w : Bool) → has place.window P ≡ w
      → ActsAs P body (λ d. cond w (f d) d)
      → ActsAs P (laid_flat body m o place) (λ d. cond w (content_laid f m o d) d)
  unfolding laid_flat content_laid
  laid_acts body f m o place w e a =
      choice_acts P (is_straight m o) w _ _ f (λ d. laid m (f transparent) o d) a
      (acts_same P _ _ _ (λ d. ap (λ t. cond t (laid m (cond w (f transparent) transparent) o d) d) e ∙ laid_case w f m o d) (acts_group P place.window o m body _ a))

  -- what is laid where the window has the point, but for what is on the path and what is absent
  skip_case : (w t s : Bool) (f : Colour → Colour) (d : Colour)
      → cond (w && not s) (elim t [ true ↦ d | false ↦ f d ]) d ≡ cond w (elim (t || s) [ true ↦ d | false ↦ f d ]) d
  skip_case w t s f d = grind (arith, nat_tests)

  range_acts : (ends : Bool) (content : Content) (ops : FlatContent) → ContentActs content ops
      → (path : List SurfaceId) (range : SurfaceRange) (b : Colour) (m : Blend) (o : ℕ) (l : Point) (place : Placement)
      → plus l place.shift ≡ P
      → ActsAs P (range_flat ends ops active path range b m o place) (λ d. cond (has place.window P) (embeds_until ends content active path range b m o l d) d)
  unfolding range_flat embeds_until
  range_acts ends content ops acts path range b m o l place stays =
      elim (shown_frame active range) as (λ (s : Option FrameData). ActsAs P
      (elim s [ None ↦ Fill place.window b o m ∷ [] | Some i ↦ elim (ends || on_path path i) [ true ↦ [] | false ↦ shown_flat ops path range b m o place i ] ])
      (λ d. cond (has place.window P) (elim s [ None ↦ laid m b o d | Some i ↦ elim ((ends || on_path path i) || is_absent range i l) [ true ↦ d | false ↦ content_laid (content_at content path b i l) m o d ] ]) d)) [
        | None ↦ acts_fill P place.window b o m
        | Some i ↦
            acts_same P _ _ _
            (skip_case (has place.window P) (ends || on_path path i) (is_absent range i l) (content_laid (content_at content path b i l) m o))
            (choice_acts P (ends || on_path path i) (present range i l place) _ _ (λ d. d) (λ d. content_laid (content_at content path b i l) m o d)
            (nothing_acts P (present range i l place))
            (acts_seen P (present_place range i place).window _ (content_laid (content_at content path b i l) m o) (present range i l place) (present_is range i l place stays)
            (laid_acts (content_flat ops path range b i place) (content_at content path b i l) m o (present_place range i place) (present range i l place)
            (present_is range i l place stays) (content_acts content ops acts path range b i l place stays))))
      ]

  -- at n levels the operations do what painting does
  pub flat_acts : (n : ℕ) → ContentActs (pix_until n active) (flat n active)
  unfolding flat pix_until
  flat_acts zero path i l place stays = nothing_acts P (has place.window P)
  flat_acts (suc n) path i l place stays =
      root_acts P i (embeds_until (n == 0) (pix_until n active) active (i.id ∷ path))
      (range_flat (n == 0) (flat n active) active (i.id ∷ path))
      (range_acts (n == 0) (pix_until n active) (flat n active) (flat_acts n) (i.id ∷ path)) (passes_down i.frame) l place stays
