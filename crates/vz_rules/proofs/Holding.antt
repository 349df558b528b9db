-- What holds of the accepted submissions of a world, and what it has of the scene of an earlier aggregation.
use Rattle.std.proofs.Common.{◌≡◌, ◌+◌, ◌≤◌, Bool, true, ◌&&◌, inl, inr, Option, Some, None, List, filter, take, refl, ap, sym, ◌∙◌, arith, subst, Contains, count_by}
use Rattle.std.specs.Option.{option_and_then}
use Rattle.std.proofs.lemmas.Bool.{and_from, or_cases, or_right}
use Rattle.std.proofs.lemmas.List.Elements.{Contains-append_left}
use Rattle.vz_ids.specs.declared.SurfaceId.{SurfaceId}
use Rattle.vz_ids.specs.Ids.{same_surface}
use Rattle.vz_frame.specs.Frame.{frame_size}
use Rattle.vz_rules.specs.Plan.{Plan, IsPlan}
use Rattle.vz_rules.specs.declared.entry.Event.{Event}
use Rattle.vz_rules.specs.World.{World, FrameData, Surface, Submission, Scene, is_on, is_waiting, is_active, active_frames, frame_on, opening}
use Rattle.vz_rules.specs.Scene.{scene_of, scene_at}
use Rattle.vz_rules.specs.Step.{step_in, accepted_frames}
use Rattle.vz_rules.specs.Kept.{HasSize, KeepsAlways, KeepsStates, is_open}
use Rattle.vz_rules.proofs.Members.{contains_none, contains_map, map_contains, contains_at, at_map, at_same, filter_at, append_contains}
use Rattle.vz_rules.proofs.Counts.{count_same, take_map, one_place}
use Rattle.vz_rules.proofs.Reached.{from_same, self_same}
use Rattle.vz_rules.proofs.Kept_first.{keeps_first}
use Rattle.vz_rules.proofs.Kept_last.{surfaces_differ}
use Rattle.vz_rules.proofs.Kept_steps.{always_step}
use Rattle.vz_rules.proofs.Between.{IsAccepted, on_surface}
use Rattle.vz_rules.proofs.Remembered.{AreAlone}
use Rattle.vz_rules.proofs.Redrawn.{AreLater}
use Rattle.vz_rules.proofs.Stays.{frame_of}
use Rattle.vz_rules.proofs.Goes.{Goes, goes_step}

-- What always holds

-- the surface of each submission was created with the size of its frame
pub record Holds (w : World) : Type 0 where
  pub always : KeepsAlways w
  pub sizes : (i : FrameData) → Contains (accepted_frames w) i → HasSize w.surfaces i.id (frame_size i.frame)

pub holds_first : (p : Plan) → IsPlan p → Holds (opening p)
unfolding opening
holds_first p is = record { always = (keeps_first p is).always; sizes = λ i c. absurd (contains_none i c) }

sizes_after : (w v : World) → Goes w v → ((i : FrameData) → Contains (accepted_frames w) i → HasSize w.surfaces i.id (frame_size i.frame))
    → (i : FrameData) → Contains (accepted_frames v) i → HasSize v.surfaces i.id (frame_size i.frame)
sizes_after w v goes sizes i c =
    elim (append_contains (accepted_frames w) goes.more i (subst (λ (l : List FrameData). Contains l i) goes.active c)) [
      | inl m ↦ goes.surfaces i.id (frame_size i.frame) (sizes i m)
      | inr m ↦ goes.sizes i m
    ]

pub holds_step : (p : Plan) (w : World) (e : Event) → Holds w → Holds (step_in p w e).world
holds_step p w e h =
    record {
      always = always_step p w e h.always;
      sizes = sizes_after w (step_in p w e).world (goes_step p w e h.always) h.sizes;
    }

-- a surface has one size
one_size : (w : World) (i j : FrameData) → Holds w → Contains (accepted_frames w) i → Contains (accepted_frames w) j → same_surface i.id j.id ≡ true
    → frame_size i.frame ≡ frame_size j.frame
one_size w i j h p q same =
    let a = h.sizes i p in
    let b = h.sizes j q in
    let n = contains_at w.surfaces a.0 a.1 in
    let m = contains_at w.surfaces b.0 b.1 in
    let one : a.0 ≡ b.0 = at_same w.surfaces n.0 m.0 a.0 b.0 n.1 m.1
    (surfaces_differ w.clients w.surfaces h.always.clients h.always.surfaces n.0 m.0 a.0 b.0 n.1 m.1
    (ap (λ x. same_surface x b.0.id) a.2 ∙ (ap (same_surface i.id) b.2 ∙ same))) in
    sym a.3 ∙ (ap (λ (c : Surface). c.size) one ∙ b.3)

pub accepted_is : (w : World) → Holds w → IsAccepted (accepted_frames w)
accepted_is w h =
    record {
      numbered = λ n i at.
          let m = at_map frame_of w.subs n i at in
          let id : m.0.submitted.id ≡ i.id = ap (λ (j : FrameData). j.id) m.2 in
          ap (λ (j : FrameData). j.index) (sym m.2)
          ∙ (h.always.numbers.numbered n m.0 m.1
          ∙ ap (λ k. k + 1) (ap (λ x. count_by (is_on x) (take n w.subs)) id
          ∙ sym (ap (count_by (on_surface i.id)) (take_map frame_of n w.subs) ∙ count_same frame_of (on_surface i.id) (is_on i.id) (take n w.subs) (λ s. refl))));
      sizes = λ i j p q same. one_size w i j h p q same;
    }

-- What is seen

scene_by : (root : SurfaceId) (active : List FrameData) (o : Option FrameData) (scene : Scene) → frame_on root active ≡ o
    → ◌≡◌ {A = Option Scene} (elim o [ Some i ↦ Some (record { root = root; active = active }) | None ↦ None ]) (Some scene)
    → (active ≡ scene.active) × ((i : FrameData) × (frame_on scene.root scene.active ≡ Some i))
scene_by root active None scene e h = absurd (cc)
scene_by root active (Some i) scene e h =
    let same : ◌≡◌ {A = Scene} (record { root = root; active = active }) scene = cc in
    (ap (λ (s : Scene). s.active) same, (i, ap (λ (s : Scene). frame_on s.root s.active) (sym same) ∙ e))

rooted_by : (active : List FrameData) (root : Option SurfaceId) (scene : Scene) → option_and_then (λ (r : SurfaceId). scene_at r active) root ≡ Some scene
    → (active ≡ scene.active) × ((i : FrameData) × (frame_on scene.root scene.active ≡ Some i))
rooted_by active None scene h = absurd (cc)
rooted_by active (Some root) scene h = scene_by root active (frame_on root active) scene refl h

scene_is : (w : World) (scene : Scene) → scene_of w ≡ Some scene → (active_frames w.subs ≡ scene.active) × ((i : FrameData) × (frame_on scene.root scene.active ≡ Some i))
unfolding scene_of
scene_is w scene h = rooted_by (active_frames w.subs) w.root scene h

-- a frame that is seen is that of an active submission
seen_active : (w : World) (scene : Scene) (i : FrameData) → scene_of w ≡ Some scene → Contains scene.active i
    → (s : Submission) × Contains w.subs s × (is_active s ≡ true) × (s.submitted ≡ i)
seen_active w scene i e c =
    let m = contains_map frame_of (filter is_active w.subs) i (subst (λ (l : List FrameData). Contains l i) (sym (scene_is w scene e).0) c) in
    let a = filter_at is_active w.subs m.0 m.1 in
    (m.0, a.0, a.1, m.2)

-- of one surface there is one active submission
one_active : (w : World) (s t : Submission) → KeepsStates w.surfaces w.subs → Contains w.subs s → Contains w.subs t → is_active s ≡ true → is_active t ≡ true
    → same_surface s.submitted.id t.submitted.id ≡ true → s ≡ t
one_active w s t h p q a b same =
    let n = contains_at w.subs s p in
    let m = contains_at w.subs t q in
    let on : Submission → Bool = λ x. is_on t.submitted.id x && is_active x in
    at_same w.subs n.0 m.0 s t n.1 m.1
    (one_place on w.subs n.0 m.0 s t (h.one_is_active t.submitted.id) n.1 m.1
    (and_from (is_on t.submitted.id s) (is_active s) same a) (and_from (is_on t.submitted.id t) (is_active t) (self_same t.submitted.id) b))

-- What is remembered

-- the frames of a scene are accepted, alone on their surfaces, and no later than what is open there
pub record Remembers (scene : Scene) (w : World) : Type 0 where
  pub accepted : (i : FrameData) → Contains scene.active i → Contains (accepted_frames w) i
  pub alone : AreAlone scene.active
  pub rooted : (i : FrameData) × (frame_on scene.root scene.active ≡ Some i)
  pub earlier : (i : FrameData) (t : Submission) → Contains scene.active i → Contains w.subs t → is_open t ≡ true → same_surface i.id t.submitted.id ≡ true → i.index ≤ t.submitted.index

alone_now : (w : World) (scene : Scene) → Holds w → scene_of w ≡ Some scene → AreAlone scene.active
alone_now w scene h e i j p q same =
    let s = seen_active w scene i e p in
    let t = seen_active w scene j e q in
    let one = one_active w s.0 t.0 h.always.states s.1 t.1 s.2 t.2
    (ap (λ (x : FrameData). same_surface x.id t.0.submitted.id) s.3 ∙ (ap (λ (x : FrameData). same_surface i.id x.id) t.3 ∙ same)) in
    sym s.3 ∙ (ap frame_of one ∙ t.3)

earlier_by : (w : World) (s t : Submission) → Holds w → Contains w.subs s → Contains w.subs t → is_active s ≡ true → is_open t ≡ true
    → same_surface s.submitted.id t.submitted.id ≡ true
    → s.submitted.index ≤ t.submitted.index
earlier_by w s t h p q a o same =
    elim (or_cases (is_waiting t) (is_active t) o) [
      | inl waits ↦
          let later = h.always.states.waits_later t s q p waits a (ap (λ x. same_surface x s.submitted.id) (sym (from_same s.submitted.id t.submitted.id same)) ∙ self_same s.submitted.id) in
          omega (arith, later)
      | inr b ↦ omega (arith, ap (λ (x : Submission). x.submitted.index) (one_active w s t h.always.states p q a b same))
    ]

pub remembers_now : (w : World) (scene : Scene) → Holds w → scene_of w ≡ Some scene → Remembers scene w
remembers_now w scene h e =
    record {
      accepted = λ i c.
          let s = seen_active w scene i e c in
          subst (Contains (accepted_frames w)) s.3 (map_contains frame_of w.subs s.0 s.1);
      alone = alone_now w scene h e;
      rooted = (scene_is w scene e).1;
      earlier = λ i t p q o same.
          let s = seen_active w scene i e p in
          subst (λ (x : FrameData). x.index ≤ t.submitted.index) s.3
          (earlier_by w s.0 t h s.1 q s.2 o (ap (λ (x : FrameData). same_surface x.id t.submitted.id) s.3 ∙ same));
    }

pub remembers_step : (p : Plan) (w : World) (e : Event) (scene : Scene) → Holds w → Remembers scene w → Remembers scene (step_in p w e).world
remembers_step p w e scene h r =
    let goes = goes_step p w e h.always in
    let opens = goes.opens in
    record {
      accepted = λ i c. subst (λ (l : List FrameData). Contains l i) (sym goes.active) (Contains-append_left (accepted_frames w) goes.more i (r.accepted i c));
      alone = r.alone;
      rooted = r.rooted;
      earlier = λ i t c q o same. elim (opens t q o) [
        | inl s ↦ subst (λ (x : FrameData). i.index ≤ x.index) s.3 (r.earlier i s.0 c s.1 s.2 (ap (λ (x : FrameData). same_surface i.id x.id) s.3 ∙ same))
        | inr latest ↦
            let s = contains_map frame_of w.subs i (r.accepted i c) in
            subst (λ (x : FrameData). x.index ≤ t.submitted.index) s.2 (latest s.0 s.1 (ap (λ (x : FrameData). same_surface x.id t.submitted.id) s.2 ∙ same))
      ];
    }

-- what is seen now is no earlier than what is remembered
pub are_later : (w : World) (before now : Scene) → Holds w → Remembers before w → scene_of w ≡ Some now → AreLater (accepted_frames w) before.active now.active
are_later w before now h r e =
    let n = remembers_now w now h e in
    record {
      before = r.accepted;
      after = n.accepted;
      alone_before = r.alone;
      alone_after = n.alone;
      later = λ i j p q same.
          let t = seen_active w now j e q in
          subst (λ (x : FrameData). i.index ≤ x.index) t.3
          (r.earlier i t.0 p t.1 (or_right (is_waiting t.0) (is_active t.0) t.2) (ap (λ (x : FrameData). same_surface i.id x.id) t.3 ∙ same));
    }
