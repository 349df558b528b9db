-- A submission is accepted: what is told of its surface.
use Rattle.std.proofs.Common.{arith, ◌≡◌, ℕ, ◌+◌, ◌==◌, Bool, true, false, Option, Some, None, List, [], ◌∷◌, ◌++◌, map, count_by, refl, ap, sym, ◌∙◌, subst, cond, Contains, inl, inr}
use Rattle.std.proofs.{lemmas.Bool.both_ways, lemmas.Bool.or_left, lemmas.List.append-nil, lemmas.Bool.Decides.nat_tests}
use Rattle.vz_ids.specs.{declared.LocalSurfaceId.LocalSurfaceId, declared.SurfaceId.SurfaceId, Ids.same_surface}
use Rattle.vz_frame.specs.{declared.frame.CompositorFrame.CompositorFrame, Frame.frame_size, Frame.root_damage}
use Rattle.vz_rules.specs.World.{World, Client, Surface, Submission, is_on, is_waiting, is_active, active_frames, frame_on, exists, last_created}
use Rattle.vz_rules.specs.Messages.{accepted, id_of, is_last, new_submission, replace_on, with_surface, violates}
use Rattle.vz_rules.specs.Kept.{KeepsAlways, stands_in}
use Rattle.vz_rules.proofs.{Reached.from_same, Reached.self_same, Members.contains_map, Members.contains_push, Members.push_contains_last}
use Rattle.vz_rules.proofs.{Counts.count_none, Kept_submits.always_accepted}
use Rattle.vz_surface_manager.proofs.{Accepted_kept.frames_accepted, Raised.damages, Raised.as_many, Absent.no_damages, Absent.no_frame}
use Rattle.vz_surfaces.specs.Stored.{stored_of}
use Rattle.vz_damage.specs.Told.{Told, Damaged, told_on, next_index, with_damage}
use Rattle.vz_surface_manager.specs.Told_damage.{AreTold, AreLatest, AreUnseen, told_in, index_of, index_on}
use Rattle.vz_surface_manager.specs.Allowed.{IsAllowed}
use Rattle.vz_surface_manager.proofs.Stored.{count_bare}
use Rattle.vz_surface_manager.proofs.Found_accepted.{off_back, unknown, allowed_parts, waits_on, damages_more, count_more, stands_more}

abbrev Where : Bool → Told → Option Told
Where t y = cond t (Some y) None

module _ (w : World) (c : Client) (local : LocalSurfaceId) (frame : CompositorFrame) (h : KeepsAlways w)
    (k : IsAllowed w c local frame) where
  abbrev after : World
  after = (accepted w c local frame).world

  abbrev id : SurfaceId
  id = id_of c local

  abbrev new : Submission
  new = new_submission w c local frame

  fine : violates (last_created w c.number) local ≡ false
  fine = (allowed_parts (last_created w c.number) c.resources local frame k.allowed).1

  always_after : KeepsAlways after
  always_after =
      always_accepted w c local frame h k.known k.stays fine
      (allowed_parts (last_created w c.number) c.resources local frame k.allowed).0

  subs_after : after.subs ≡ map (replace_on id) w.subs ++ new ∷ []
  unfolding accepted
  subs_after = refl

  last_after : after.last ≡ w.last
  unfolding accepted
  last_after = refl

  new_id : new.submitted.id ≡ id
  unfolding new_submission
  new_id = refl

  new_data : new.submitted ≡ record new.submitted { id = id; frame = frame }
  unfolding new_submission
  new_data = refl

  new_index : new.submitted.index ≡ count_by (is_on id) w.subs + 1
  unfolding new_submission
  new_index = refl

  new_waits : is_waiting new ≡ true
  unfolding new_submission
  new_waits = refl

  new_inactive : is_active new ≡ false
  unfolding new_submission
  new_inactive = refl

  -- Surfaces

  stands_here : stands_in after.surfaces id ≡ true
  stands_here =
      ap (stands_in after.surfaces) (sym new_id)
      ∙ always_after.states.stand new
      (subst (λ (l : List Submission). Contains l new) (sym subs_after) (push_contains_last (map (replace_on id) w.subs) new))
      (or_left (is_waiting new) (is_active new) new_waits)

  -- the surface that may be created
  abbrev made : Surface
  made =
      record {
        client = c.number;
        number = count_by (λ (s : Surface). s.client == c.number) w.surfaces + 1;
        id = id;
        size = frame_size frame;
        born = w.tick;
        named = false;
        marked = false;
        destroyed = false;
      }

  surfaces_after : after.surfaces ≡ cond (is_last (last_created w c.number) local) w.surfaces (w.surfaces ++ made ∷ [])
  unfolding accepted with_surface
  surfaces_after = refl

  exists_here : exists after id ≡ true
  exists_here = stands_here

  exists_there : (x : SurfaceId) → same_surface id x ≡ false → exists after x ≡ exists w x
  exists_there x off = grind (arith, nat_tests, surfaces_after, stands_more w.surfaces)

  -- nothing was accepted on a surface that does not exist yet
  none_on : exists w id ≡ false → count_by (is_on id) w.subs ≡ 0
  none_on missing = by (is_last (last_created w c.number) local) refl
    where
      by : (t : Bool) → is_last (last_created w c.number) local ≡ t → count_by (is_on id) w.subs ≡ 0
      by true e =
          absurd (both_ways (exists w id) missing
          (ap (λ (l : List Surface). stands_in l id)
          (sym (surfaces_after ∙ ap (λ (t : Bool). cond t w.surfaces (w.surfaces ++ made ∷ [])) e)) ∙ stands_here))
      by false e =
          count_none (is_on id) w.subs (λ s m.
          let of = h.numbers.created s m in
          ap (λ (i : SurfaceId). same_surface i id) (sym of.2) ∙ unknown w c local of.0 h k.known fine e of.1)

  -- Submissions

  count_after : (x : SurfaceId) → count_by (is_on x) after.subs ≡ count_by (is_on x) w.subs + cond (same_surface id x) 1 0
  count_after x = grind (arith, nat_tests, subs_after, count_more x, new_id)

  told_after : (x : SurfaceId) → told_in after.subs w.last x ≡ record {
    damages = damages x w.subs ++ cond (same_surface id x) (root_damage frame ∷ []) [];
    active = index_of (frame_on x (active_frames w.subs));
    seen = index_on w.last x;
  }
  told_after x = grind (arith, nat_tests, subs_after, damages, damages_more x, damages x w.subs, new_data, frames_accepted, new_inactive)

  unseen_after : AreUnseen w.subs w.last → AreUnseen after.subs w.last
  unseen_after u x none = grind (arith, nat_tests, count_after x)

  latest_after : AreLatest w.subs → AreLatest after.subs
  latest_after l r m waits =
      elim (contains_push (map (replace_on id) w.subs) new r (subst (λ (ss : List Submission). Contains ss r) subs_after m)) [
        | inl o ↦ old r o waits
        | inr e ↦ subst (λ (s : Submission). s.submitted.index ≡ count_by (is_on s.submitted.id) after.subs) e arrives
      ]
    where
      old : (r : Submission) → Contains (map (replace_on id) w.subs) r → is_waiting r ≡ true
          → r.submitted.index ≡ count_by (is_on r.submitted.id) after.subs
      old r o waits =
          let t = contains_map (replace_on id) w.subs r o in
          let on = waits_on id t.0 r t.2 waits in
          let off : same_surface id r.submitted.id ≡ false =
          off_back r.submitted.id id (ap (λ (s : Submission). same_surface s.submitted.id id) on.0 ∙ on.1) in
          let was : r.submitted.index ≡ count_by (is_on r.submitted.id) w.subs =
          subst (λ (s : Submission). s.submitted.index ≡ count_by (is_on s.submitted.id) w.subs) (sym on.0)
          (l t.0 t.1 (ap is_waiting (sym on.0) ∙ waits)) in
          omega (arith, was, count_after r.submitted.id, ap {B = ℕ} (λ (q : Bool). cond q 1 0) off)

      arrives : new.submitted.index ≡ count_by (is_on new.submitted.id) after.subs
      arrives =
          new_index
          ∙ (ap (λ (q : Bool). count_by (is_on id) w.subs + cond {A = ℕ} q 1 0) (sym (self_same id))
          ∙ (sym (count_after id) ∙ ap (λ (i : SurfaceId). count_by (is_on i) after.subs) (sym new_id)))

  -- What is told

  with_here : AreUnseen w.subs w.last → (t : Bool) → exists w id ≡ t
      → with_damage (Where t (told_in w.subs w.last id)) (root_damage frame) ≡ told_in after.subs w.last id
  with_here u t e = grind (arith, nat_tests, self_same, told_after, none_on, damages, no_damages, no_frame)

  told_here : AreUnseen w.subs w.last → (d : Damaged) → AreTold w d → (y : Told)
      → y ≡ with_damage (told_on d.surfaces id) (root_damage frame)
      → Some y ≡ Where (exists after id) (told_in after.subs w.last id)
  told_here u d told y e = grind (arith, nat_tests, with_here u, exists_here)

  told_there : (x : SurfaceId) → same_surface id x ≡ false
      → Where (exists w x) (told_in w.subs w.last x) ≡ Where (exists after x) (told_in after.subs w.last x)
  told_there x off = grind (arith, nat_tests, exists_there x off, damages, append-nil (damages x w.subs), damages x w.subs, told_after x)

  told_by : (d d' : Damaged) → AreTold w d → told_on d'.surfaces id ≡ Some (with_damage (told_on d.surfaces id) (root_damage frame))
      → ((x : SurfaceId) → same_surface id x ≡ false → told_on d'.surfaces x ≡ told_on d.surfaces x)
      → (x : SurfaceId) (t : Bool) → same_surface id x ≡ t → told_on d'.surfaces x ≡ Where (exists after x) (told_in after.subs w.last x)
  told_by d d' told here others x true e =
      let at : id ≡ x = from_same id x e in
      ap (told_on d'.surfaces) (sym at)
      ∙ (here ∙ (told_here told.unseen d told (with_damage (told_on d.surfaces id) (root_damage frame)) refl
      ∙ ap (λ (i : SurfaceId). Where (exists after i) (told_in after.subs w.last i)) at))
  told_by d d' told here others x false e = others x e ∙ (told.told x ∙ told_there x e)

  pub told_accepted : (d d' : Damaged) → AreTold w d
      → told_on d'.surfaces id ≡ Some (with_damage (told_on d.surfaces id) (root_damage frame))
      → ((x : SurfaceId) → same_surface id x ≡ false → told_on d'.surfaces x ≡ told_on d.surfaces x) → d'.last ≡ d.last → AreTold after d'
  told_accepted d d' told here others last = grind (arith, nat_tests, told_by d d' told here others, last_after, latest_after told.latest, unseen_after told.unseen)

  -- The index

  next_by : (t : Bool) → exists w id ≡ t → count_by (is_on id) w.subs + 1 ≡ next_index (Where t (told_in w.subs w.last id))
  next_by true e = ap {B = ℕ} (λ (n : ℕ). n + 1) (sym (as_many id w.subs))
  next_by false e = ap {B = ℕ} (λ (n : ℕ). n + 1) (none_on e)

  pub next_told : (d : Damaged) → AreTold w d → count_by (is_on id) w.subs + 1 ≡ next_index (told_on d.surfaces id)
  next_told d told = next_by (exists w id) refl ∙ ap next_index (sym (told.told id))

  pub next_accepted : (d : Damaged) → AreTold w d → new.submitted.index ≡ next_index (told_on d.surfaces id)
  next_accepted d told = new_index ∙ next_told d told

  pub next_stored : (d : Damaged) → AreTold w d → count_by (is_on id) (stored_of w).subs + 1 ≡ next_index (told_on d.surfaces id)
  unfolding stored_of
  next_stored d told = ap {B = ℕ} (λ (n : ℕ). n + 1) (count_bare id w.subs) ∙ next_told d told
