-- A drawing: the drawn frame is what the walk over the store goes into.
use Rattle.std.proofs.Common.{◌≡◌, Bool, true, false, ◌&&◌, Option, Some, is_some, List, filter, refl, ap, sym, ◌∙◌, cond, Contains, arith}
use Rattle.std.proofs.Common.{subst}
use Rattle.std.specs.List.{list_any}
use Rattle.vz_geom.specs.{declared.Size.Size, Rectangle.Rectangle, Rectangle.is_empty_rect}
use Rattle.vz_ids.specs.{declared.SurfaceId.SurfaceId, declared.Sub.Sub}
use Rattle.vz_rules.specs.declared.entry.Reply.TheVariants as reply
use Rattle.vz_rules.specs.{Plan.Plan, Messages.Answer, Messages.says}
use Rattle.vz_rules.specs.World.{World, Scene, FrameData, Submission, active_frames, is_active, sub_of}
use Rattle.vz_rules.specs.{Damage.aggregation_of, Damage.drawn_damage, Step.scene_answer, Step.draw_answer, Step.accepted_frames}
use Rattle.vz_rules.specs.Walk.{Visit, walk_of, walked_subs, goes_into}
use Rattle.vz_rules.proofs.Members.{contains_map, filter_at}
use Rattle.vz_surfaces.specs.{Stored.stored_of, Reading.seen_frames}
use Rattle.vz_damage.specs.Accepted.{scene_from}
use Rattle.vz_surface_manager.specs.Allowed.{Draws}
use Rattle.vz_surface_manager.specs.{Flown.Flown, Flown.AreFlown, Flown.subs_of, Rosters.flown_as, Rosters.flown_in, Rosters.flown_from}
use Rattle.vz_surface_manager.proofs.Rostered.{drawn_names}
use Rattle.std.proofs.lemmas.Bool.Decides.{nat_tests}

-- an active submission lists this
abbrev pub IsActive : World → Flown → Type 0
IsActive w f = (s : Submission) × Contains w.subs s × (is_active s ≡ true) × (sub_of s ≡ f.0) × (s.submitted.frame.resources ≡ f.1)

-- each that is drawn is an active one
active_in : (w : World) (visits : List Visit) (f : Flown) → Contains (flown_in (active_frames w.subs) visits) f → IsActive w f
unfolding flown_in
active_in w visits f c =
    let m = contains_map flown_as (filter (λ (i : FrameData). list_any (goes_into i) visits) (active_frames w.subs)) f c in
    let a = filter_at (λ (i : FrameData). list_any (goes_into i) visits) (active_frames w.subs) m.0 m.1 in
    let s = contains_map (λ (s : Submission). s.submitted) (filter is_active w.subs) m.0 a.0 in
    let k = filter_at is_active w.subs s.0 s.1 in (
      s.0,
      k.0,
      k.1,
      ap (λ (i : FrameData). i.sub) s.2 ∙ ap (λ (g : Flown). g.0) m.2,
      ap (λ (i : FrameData). i.frame.resources) s.2 ∙ ap (λ (g : Flown). g.1) m.2,
    )

module _ (w : World) (seen : seen_frames (stored_of w) ≡ active_frames w.subs) where
  -- what is drawn of a store is drawn of the state
  from_is : (size : Size) (root : SurfaceId)
      → flown_from size root (stored_of w) ≡ flown_in (active_frames w.subs) (walk_of size (scene_from root w))
  from_is size root = ap (λ (l : List FrameData). flown_in l (walk_of size (record { root = root; active = l }))) seen

  pub flown_active : (size : Size) (root : SurfaceId) (f : Flown) → Contains (flown_from size root (stored_of w)) f → IsActive w f
  flown_active size root f c = grind (arith, nat_tests, active_in w (walk_of size (scene_from root w)) f, from_is size root)

  some_same : (a b : List Flown) → ◌≡◌ {A = Option (List Flown)} (Some a) (Some b) → a ≡ b
  some_same a b e = cc

  flown_now : (size : Size) (root : SurfaceId) (v : World) → v.subs ≡ w.subs
      → v.in_flight ≡ Some (walked_subs (scene_from root w) (walk_of size (scene_from root w)))
      → AreFlown v (Some (flown_from size root (stored_of w)))
  flown_now size root v same e =
      record {
        drawn = e ∙ ap (λ (l : List Sub). Some l) (sym (drawn_names (scene_from root w) (walk_of size (scene_from root w))))
            ∙ ap (λ (l : List Flown). Some (subs_of l)) (sym (from_is size root));
        listed = λ flown f is there.
            let s = flown_active size root f (subst (λ (l : List Flown). Contains l f) (sym (some_same _ _ is)) there) in
            (s.0, subst (λ (l : List Submission). Contains l s.0) (sym same) s.1, s.3, s.4);
      }

module _ (p : Plan) (w : World) (root : SurfaceId) (k : Draws p w root) where
  abbrev scene : Scene
  scene = scene_from root w

  abbrev walked : List Visit
  walked = walk_of p.size scene

  abbrev damage : Rectangle
  damage = drawn_damage p.size w.last (accepted_frames w) root walked

  -- what is answered where nothing changed, and where this did
  abbrev answered : Bool → Answer
  answered t =
      cond t (says reply.Unchanged (record w { last = Some (aggregation_of scene walked) }))
      (says (reply.Drawn damage) (record w { last = Some (aggregation_of scene walked); in_flight = Some (walked_subs scene walked) }))

  answer_is : draw_answer p w ≡ answered (is_some w.last && is_empty_rect damage)
  unfolding draw_answer scene_answer
  answer_is = grind (arith, nat_tests)

  -- where this changed
  drawn_by : seen_frames (stored_of w) ≡ active_frames w.subs → (t : Bool) (d : Rectangle) → (answered t).reply ≡ reply.Drawn d
      → AreFlown (answered t).world (Some (flown_from p.size root (stored_of w)))
  drawn_by seen true d e = absurd (cc)
  drawn_by seen false d e = flown_now w seen p.size root _ refl refl

  pub flown_drawn : seen_frames (stored_of w) ≡ active_frames w.subs → (d : Rectangle) → (draw_answer p w).reply ≡ reply.Drawn d
      → AreFlown (draw_answer p w).world (Some (flown_from p.size root (stored_of w)))
  flown_drawn seen d e =
      subst (λ (a : Answer). AreFlown a.world (Some (flown_from p.size root (stored_of w)))) (sym answer_is)
      (drawn_by seen (is_some w.last && is_empty_rect damage) d (sym (ap (λ (a : Answer). a.reply) answer_is) ∙ e))

  -- where nothing did
  still_by : (f : Option (List Flown)) → AreFlown w f → (t : Bool) → (answered t).reply ≡ reply.Unchanged → AreFlown (answered t).world f
  still_by f h t e = grind (arith, nat_tests)

  pub flown_still : (f : Option (List Flown)) → (draw_answer p w).reply ≡ reply.Unchanged → AreFlown w f
      → AreFlown (draw_answer p w).world f
  flown_still f e h = grind (arith, nat_tests, answer_is, still_by f h)

-- Where nothing is drawn

either : (t : Bool) (a : Answer) (w : World) (f : Option (List Flown)) → AreFlown w f → AreFlown a.world f
    → AreFlown (cond t (says reply.Busy w) a).world f
either t a w f h then = grind (arith, nat_tests)
