-- A walk goes into surfaces with active frames alone, and what it claims of them is told.
use Rattle.std.proofs.Common.{◌≡◌, ◌&&◌, filter, ℕ, zero, suc, ◌+◌, Bool, true, false, Option, Some, None, List, [], ◌∷◌, ◌++◌, length, arith}
use Rattle.std.proofs.Common.{refl, sym, ap, ◌∙◌, flat_map, Contains}
use Rattle.std.specs.List.{AllByRecursion}
use Rattle.std.specs.Option.{option_map}
use Rattle.vz_geom.specs.declared.Size.{Size}
use Rattle.vz_ids.specs.declared.SurfaceId.{SurfaceId}
use Rattle.vz_ids.specs.declared.SurfaceRange.{SurfaceRange}
use Rattle.vz_ids.specs.Ids.{same_surface}
use Rattle.vz_frame.specs.declared.frame.RenderPass.{RenderPass}
use Rattle.vz_frame.specs.declared.frame.DrawQuad.{DrawQuad}
use Rattle.vz_frame.specs.declared.frame.Material.{Material}
use Rattle.vz_frame.specs.Frame.{passes_down, names_pass}
use Rattle.vz_rules.specs.World.{World, FrameData, Scene, Submission, Aggregation, is_active, is_on, frame_on, active_frames}
use Rattle.vz_rules.specs.Scene.{shown_frame}
use Rattle.vz_rules.specs.Paint.{on_path, levels}
use Rattle.vz_rules.specs.Step.{accepted_frames}
use Rattle.vz_rules.specs.Kept.{KeepsAlways}
use Rattle.vz_rules.specs.Walk.{Placement, Visit, Quad, Shows, Enters, WalkRange, WalkNamed, quad_walked, pass_walked}
use Rattle.vz_rules.specs.Walk.{groups_walked, root_walked, range_walked, walk, walk_of, whole}
use Rattle.vz_rules.specs.Damage.{aggregation_of, claims_of, claims, drawn_damage}
use Rattle.vz_rules.proofs.Members.{find_at, filter_at, contains_map, contains_at, at_same}
use Rattle.vz_rules.proofs.Remembered.{AreAlone, shown_in, alone_on, index_is}
use Rattle.std.proofs.lemmas.Bool.{and_from}
use Rattle.vz_rules.proofs.Counts.{one_place}
use Rattle.vz_rules.proofs.Reached.{self_same}
use Rattle.vz_damage.specs.Told.{Told, told_on, with_seen}
use Rattle.vz_damage.specs.Accepted.{TellsActive, TellsLast, scene_from}
use Rattle.vz_damage.specs.Measured.{told_claims_of, told_claims, told_damage, without_indices}
use Rattle.vz_damage.proofs.Between.{drawn_is_told}
use Rattle.std.proofs.lemmas.Bool.Decides.{nat_tests}

abbrev pub Each : (Visit → Type 0) → List Visit → Type 0
Each P xs = AllByRecursion P xs

each_append : (P : Visit → Type 0) (xs ys : List Visit) → Each P xs → Each P ys → Each P (xs ++ ys)
each_append P [] ys h k = k
each_append P (x ∷ xs) ys h k = (h.0, each_append P xs ys h.1 k)

each_flat : {A : Type 0} (P : Visit → Type 0) (f : A → List Visit) (xs : List A) → ((x : A) → Each P (f x)) → Each P (flat_map f xs)
each_flat P f [] h = tt
each_flat P f (x ∷ xs) h = each_append P (f x) (flat_map f xs) (h x) (each_flat P f xs h)

each_choice : (P : Visit → Type 0) (t : Bool) (xs ys : List Visit) → Each P xs → Each P ys → Each P (elim t [ true ↦ xs | false ↦ ys ])
each_choice _ t xs ys h k = grind (arith, nat_tests)

-- the surface that is gone into has one of these frames
abbrev pub GoesTo : List FrameData → Visit → Type 0
GoesTo active Quad = Unit {0}
GoesTo active (Shows range now seen) = Unit {0}
GoesTo active (Enters depth i place) = Contains active i

module _ (active : List FrameData) (walks : WalkRange) (ranges : (range : SurfaceRange) (place : Placement)
    → Each (GoesTo active) (walks range place)) where
  quad_goes : (named : WalkNamed) → ((id : ℕ) (place : Placement) → Each (GoesTo active) (named id place))
      → (pass : RenderPass) (place : Placement) (quad : DrawQuad) (m : Material) → quad.material ≡ m
      → Each (GoesTo active) (quad_walked named walks pass place quad)
  unfolding quad_walked
  quad_goes named h pass place quad m e = grind (arith, nat_tests)

  pass_goes : (named : WalkNamed) → ((id : ℕ) (place : Placement) → Each (GoesTo active) (named id place))
      → (pass : RenderPass) (place : Placement)
      → Each (GoesTo active) (pass_walked named walks pass place)
  unfolding pass_walked
  pass_goes named h pass place = each_flat (GoesTo active) (quad_walked named walks pass place) pass.quads
      (λ quad. quad_goes named h pass place quad quad.material refl)

  groups_go : (passes : List RenderPass) (id : ℕ) (place : Placement) → Each (GoesTo active) (groups_walked walks passes id place)
  unfolding groups_walked
  groups_go [] id place = tt
  groups_go (pass ∷ earlier) id place =
      each_choice (GoesTo active) (names_pass id pass) _ _ (pass_goes (groups_walked walks earlier) (groups_go earlier) pass _)
      (groups_go earlier id place)

  root_goes : (passes : List RenderPass) (place : Placement) → Each (GoesTo active) (root_walked walks passes place)
  unfolding root_walked
  root_goes [] place = tt
  root_goes (root ∷ earlier) place = pass_goes (groups_walked walks earlier) (groups_go earlier) root place

into_goes : (active : List FrameData) (path : List SurfaceId) (place : Placement) (surface : FrameData → List Visit) → ((i : FrameData)
    → Each (GoesTo active) (surface i)) → (o : Option FrameData)
    → ((i : FrameData) → o ≡ Some i → Contains active i)
    → Each (GoesTo active) (elim o [
      | None ↦ []
      | Some i ↦ elim (on_path path i) [
        | true ↦ []
        | false ↦ Enters
            (length path + 1) i place ∷ surface i
      ]
    ])
into_goes active path place surface h o there = grind (arith, nat_tests)

walk_goes : (n : ℕ) (active : List FrameData) (path : List SurfaceId) (i : FrameData) (place : Placement)
    → Each (GoesTo active) (walk n active path i place)
unfolding walk range_walked
walk_goes zero active path i place = tt
walk_goes (suc n) active path i place =
    root_goes active (range_walked (walk n active) active (i.id ∷ path))
    (λ range at. (
      tt,
      into_goes active (i.id ∷ path) at (λ j. walk n active (i.id ∷ path) j at) (λ j. walk_goes n active
          (i.id ∷ path) j at) (shown_frame active range) (shown_in active range),
    ))
    (passes_down i.frame) place

whole_goes : (n : ℕ) (size : Size) (active : List FrameData) (o : Option FrameData) → ((i : FrameData) → o ≡ Some i → Contains active i)
    → Each (GoesTo active) (elim o [ None ↦ [] | Some i ↦ Enters 1 i (whole size) ∷ walk n active [] i (whole size) ])
whole_goes n size active None there = tt
whole_goes n size active (Some i) there = (there i refl, walk_goes n active [] i (whole size))

-- a walk goes into surfaces with active frames alone
pub goes_to_active : (size : Size) (scene : Scene) → Each (GoesTo scene.active) (walk_of size scene)
unfolding walk_of
goes_to_active size scene = grind (arith, nat_tests, whole_goes levels size scene.active (frame_on scene.root scene.active), find_at)

-- Claims

module _ (w : World) (a : Aggregation) (told : List (SurfaceId × Told)) (keeps : KeepsAlways w) (tells : TellsActive w a told) where
  walk_claims : (xs : List Visit) → Each (GoesTo (active_frames w.subs)) xs
      → flat_map (told_claims_of told (without_indices a)) xs ≡ flat_map (claims_of a (accepted_frames w)) xs
  unfolding told_claims_of claims_of
  walk_claims [] h = refl
  walk_claims (x ∷ xs) h = grind (arith, nat_tests, drawn_is_told, walk_claims xs h.1)

by_last : (w : World) (told : List (SurfaceId × Told)) (size : Size) (root : SurfaceId) (xs : List Visit) (o : Option Aggregation)
    → KeepsAlways w → ((a : Aggregation) → o ≡ Some a → TellsActive w a told)
    → Each (GoesTo (active_frames w.subs)) xs → told_damage size (option_map without_indices o) told root xs ≡ drawn_damage size o
    (accepted_frames w) root xs
unfolding told_damage told_claims drawn_damage claims
by_last w told size root xs None keeps tells h = refl
by_last w told size root xs (Some a) keeps tells h = grind (arith, nat_tests, walk_claims w a told keeps (tells a refl) xs h)

-- what is measured is the damage of a drawing
pub measured_is_drawn : (w : World) (told : List (SurfaceId × Told)) (size : Size) (root : SurfaceId) → KeepsAlways w → TellsLast w told
    → told_damage size (option_map without_indices w.last) told root (walk_of size (record { root = root; active = active_frames w.subs }))
    ≡ drawn_damage size w.last (accepted_frames w) root (walk_of size (record { root = root; active = active_frames w.subs }))
measured_is_drawn w told size root keeps tells =
    by_last w told size root (walk_of size (record { root = root; active = active_frames w.subs })) w.last keeps tells
    (goes_to_active size (record { root = root; active = active_frames w.subs }))

-- What is told behind a drawing

-- an active frame is that of an active submission
active_sub : (w : World) (i : FrameData) → Contains (active_frames w.subs) i
    → (s : Submission) × Contains w.subs s × (is_active s ≡ true) × (s.submitted ≡ i)
active_sub w i c =
    let m = contains_map (λ (s : Submission). s.submitted) (filter is_active w.subs) i c in
    let a = filter_at is_active w.subs m.0 m.1 in
    (m.0, a.0, a.1, m.2)

-- of one surface there is one
active_alone : (w : World) → KeepsAlways w → AreAlone (active_frames w.subs)
active_alone w keeps i j p q same =
    let s = active_sub w i p in
    let t = active_sub w j q in
    let on : Submission → Bool = λ x. is_on t.0.submitted.id x && is_active x in
    let n = contains_at w.subs s.0 s.1 in
    let m = contains_at w.subs t.0 t.1 in
    let here : same_surface s.0.submitted.id t.0.submitted.id ≡ true = ap (λ (x : FrameData). same_surface x.id t.0.submitted.id) s.3
    ∙ (ap (λ (x : FrameData). same_surface i.id x.id) t.3 ∙ same) in
    let one : s.0 ≡ t.0 =
    at_same w.subs n.0 m.0 s.0 t.0 n.1 m.1
    (one_place on w.subs n.0 m.0 s.0 t.0 (keeps.states.one_is_active t.0.submitted.id) n.1 m.1
    (and_from (is_on t.0.submitted.id s.0) (is_active s.0) here s.2) (and_from (is_on t.0.submitted.id t.0) (is_active t.0)
    (self_same t.0.submitted.id) t.2)) in
    sym s.3 ∙ (ap (λ (x : Submission). x.submitted) one ∙ t.3)

-- the active ones were seen
pub tells_drawn : (w : World) (a : Aggregation) (old new : List (SurfaceId × Told)) (root : SurfaceId) (walked : List Visit)
    → KeepsAlways w → TellsActive w a old
    → ((id : SurfaceId) → told_on new id ≡ option_map with_seen (told_on old id))
    → TellsActive w (aggregation_of (scene_from root w) walked) new
tells_drawn w a old new root walked keeps tells follows i c = grind (arith, nat_tests, index_is, alone_on, active_alone)
