-- What a drawing answers, by what was found for it.
use Rattle.std.proofs.Common.{◌≡◌, Bool, true, false, is_some, MatchOption, Option, Some, None, List, sym, ap, ◌∙◌, if◌then◌else◌}
use Rattle.vz_geom.specs.declared.Size.{Size}
use Rattle.vz_ids.specs.declared.SurfaceId.{SurfaceId}
use Rattle.vz_rules.specs.Plan.{Plan}
use Rattle.vz_rules.specs.World.{World, Scene, FrameData, Submission, frame_on, active_frames}
use Rattle.vz_rules.specs.Scene.{scene_of, scene_at}
use Rattle.vz_rules.specs.Messages.{Answer, says}
use Rattle.vz_rules.specs.Walk.{Visit, walk_of, too_much}
use Rattle.vz_rules.specs.Step.{scene_answer, draw_answer}
use Rattle.vz_rules.specs.declared.entry.Reply.TheVariants as reply
use Rattle.vz_slow.specs.Drawn.{walked_answer}

-- the answer to a drawing of a scene, by whether it is too much
abbrev scene_by : Size → World → Scene → List Visit → Bool → Answer
scene_by size w scene walked too = if too then says reply.TooMuch w else walked_answer size w scene walked

-- it is too much
pub scene_too_much : (p : Plan) (w : World) (scene : Scene) → too_much (walk_of p.size scene) ≡ true → says reply.TooMuch w ≡ scene_answer p w scene
unfolding scene_answer
scene_too_much p w scene h = ap (scene_by p.size w scene (walk_of p.size scene)) (sym h)

-- it is not
pub scene_walked : (p : Plan) (w : World) (scene : Scene) (visits : List Visit) → visits ≡ walk_of p.size scene → too_much (walk_of p.size scene) ≡ false
    → walked_answer p.size w scene visits ≡ scene_answer p w scene
unfolding scene_answer
scene_walked p w scene visits is little = ap (walked_answer p.size w scene) is ∙ ap (scene_by p.size w scene (walk_of p.size scene)) (sym little)

-- the answer to a drawing, by whether a frame is in flight and what can be seen
abbrev draw_by : Plan → World → Bool → Option Scene → Answer
draw_by p w t o = if t then says reply.Busy w else (elim o [ Some scene ↦ scene_answer p w scene | None ↦ says reply.NoRoot w ])

-- a frame is in flight
pub draw_busy : (p : Plan) (w : World) → is_some w.in_flight ≡ true → says reply.Busy w ≡ draw_answer p w
unfolding draw_answer
draw_busy p w h = ap (λ t. draw_by p w t (scene_of w)) (sym h)

draw_seen : (p : Plan) (w : World) (o : Option Scene) → is_some w.in_flight ≡ false → scene_of w ≡ o → draw_by p w false o ≡ draw_answer p w
unfolding draw_answer
draw_seen p w o h e = ap (draw_by p w false) (sym e) ∙ ap (λ t. draw_by p w t (scene_of w)) (sym h)

-- what can be seen from a root, and without one
pub scene_root : (w : World) (root : SurfaceId) → w.root ≡ Some root → scene_of w ≡ scene_at root (active_frames w.subs)
unfolding scene_of
scene_root w root e = ap (λ (o : Option SurfaceId). elim o [ Some r ↦ scene_at r (active_frames w.subs) | None ↦ None ]) e

pub scene_nowhere : (w : World) → w.root ≡ None → scene_of w ≡ None
unfolding scene_of
scene_nowhere w e = ap (λ (o : Option SurfaceId). elim o [ Some r ↦ scene_at r (active_frames w.subs) | None ↦ None ]) e

-- no root is named
pub draw_unnamed : (p : Plan) (w : World) → is_some w.in_flight ≡ false → w.root ≡ None → says reply.NoRoot w ≡ draw_answer p w
draw_unnamed p w h e = draw_seen p w None h (scene_nowhere w e)

-- nothing is active on the root
pub draw_nothing : (p : Plan) (w : World) (root : SurfaceId) (active : List FrameData) (submissions : List Submission) (o : Option FrameData) → is_some w.in_flight ≡ false → w.root ≡ Some root → active ≡ active_frames submissions → submissions ≡ w.subs
    → o ≡ frame_on root active → o ≡ None → says reply.NoRoot w ≡ draw_answer p w
draw_nothing p w root active submissions o h e f g found none =
    let seen : frame_on root (active_frames w.subs) ≡ None = sym (ap (frame_on root) (f ∙ ap active_frames g)) ∙ (sym found ∙ none) in
    draw_seen p w None h (scene_root w root e ∙ ap (λ (k : Option FrameData). elim k [ Some i ↦ Some (record { root = root; active = active_frames w.subs }) | None ↦ None ]) seen)

-- the scene is drawn
pub draw_scene_is : (p : Plan) (w : World) (root : SurfaceId) (active : List FrameData) (submissions : List Submission) (o : Option FrameData) (i : FrameData) → is_some w.in_flight ≡ false → w.root ≡ Some root → active ≡ active_frames submissions
    → submissions ≡ w.subs → o ≡ frame_on root active → o ≡ Some i → scene_answer p w (record { root = root; active = active }) ≡ draw_answer p w
draw_scene_is p w root active submissions o i h e f g found some =
    let same : active ≡ active_frames w.subs = f ∙ ap active_frames g in
    let seen : frame_on root (active_frames w.subs) ≡ Some i = sym (ap (frame_on root) same) ∙ (sym found ∙ some) in
    ap (λ l. scene_answer p w (record { root = root; active = l })) same
    ∙ draw_seen p w (Some (record { root = root; active = active_frames w.subs })) h
    (scene_root w root e ∙ ap (λ (k : Option FrameData). elim k [ Some j ↦ Some (record { root = root; active = active_frames w.subs }) | None ↦ None ]) seen)

-- the walk was too much
pub walked_none : (size : Size) (p : Plan) (scene : Scene) (o : Option (List Visit)) → size ≡ p.size
    → MatchOption o (too_much (walk_of size scene) ≡ true) (λ t. (t ≡ walk_of size scene) × (too_much (walk_of size scene) ≡ false)) → o ≡ None → too_much (walk_of p.size scene) ≡ true
walked_none size p scene None e m is = ap (λ s. too_much (walk_of s scene)) (sym e) ∙ m
walked_none size p scene (Some t) e m is = absurd (cc)

-- it was not
pub walked_some : (size : Size) (p : Plan) (scene : Scene) (o : Option (List Visit)) (t : List Visit) → size ≡ p.size
    → MatchOption o (too_much (walk_of size scene) ≡ true) (λ t. (t ≡ walk_of size scene) × (too_much (walk_of size scene) ≡ false)) → o ≡ Some t
    → (t ≡ walk_of p.size scene) × (too_much (walk_of p.size scene) ≡ false)
walked_some size p scene None t e m is = absurd (cc)
walked_some size p scene (Some u) t e m is =
    let same : t ≡ u = cc in
    (same ∙ (m.0 ∙ ap (λ s. walk_of s scene) e), ap (λ s. too_much (walk_of s scene)) (sym e) ∙ m.1)
