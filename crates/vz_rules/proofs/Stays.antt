-- What follows a change leaves what submissions were accepted with, opens none, and leaves the sizes of surfaces.
use Rattle.std.proofs.Common.{◌≡◌, ℕ, zero, suc, Bool, true, false, not, ◌&&◌, List, map, filter, length, refl, ap, sym, ◌∙◌, cond, Contains}
use Rattle.std.specs.List.{list_any}
use Rattle.std.proofs.lemmas.Bool.{or_left}
use Rattle.vz_geom.specs.declared.Size.{Size}
use Rattle.vz_ids.specs.declared.SurfaceId.{SurfaceId}
use Rattle.vz_ids.specs.declared.Sub.{Sub}
use Rattle.vz_rules.specs.declared.entry.State.TheVariants.{Active, Past}
use Rattle.vz_rules.specs.World.{World, FrameData, Surface, Submission, is_waiting, is_active, is_on}
use Rattle.vz_rules.specs.Settle.{is_ready, ready, after_round, marked_by, is_before, round, rounds, settle}
use Rattle.vz_rules.specs.Reach.{name_one, naming, is_named_now, reach, is_lost, destroy, drop_on, lost_in, clearing, collect}
use Rattle.vz_rules.specs.Returns.{mark_fed, give_back, feed}
use Rattle.vz_rules.specs.Messages.{Answer}
use Rattle.vz_rules.specs.Step.{outcome_of, accepted_frames}
use Rattle.vz_rules.specs.Kept.{HasSize, is_open}
use Rattle.vz_rules.proofs.Members.{contains_map, map_contains}
use Rattle.vz_rules.proofs.Kept_states.{open_before}
use Rattle.vz_rules.proofs.Kept_clears.{drops}
use Rattle.vz_rules.proofs.Facts.{same_when, same_either}
use Rattle.vz_rules.proofs.Settled.{ready_waits}
use Rattle.vz_rules.proofs.Follow_ups.{frames_kept}

-- the frame of a submission
abbrev pub frame_of : Submission → FrameData
frame_of s = s.submitted

-- one of these submissions is open and was accepted as this one
abbrev pub WasOpen : List Submission → Submission → Type 0
WasOpen xs t = (s : Submission) × Contains xs s × (is_open s ≡ true) × (s.submitted ≡ t.submitted)

-- the second world has the submissions of the first, none of them open that was not, and its surfaces
pub record Stays (w v : World) : Type 0 where
  pub active : accepted_frames v ≡ accepted_frames w
  pub opens : (t : Submission) → Contains v.subs t → is_open t ≡ true → WasOpen w.subs t
  pub surfaces : (id : SurfaceId) (size : Size) → HasSize w.surfaces id size → HasSize v.surfaces id size

pub stays_then : (w v u : World) → Stays w v → Stays v u → Stays w u
stays_then w v u first second =
    record {
      active = second.active ∙ first.active;
      opens = λ t c o.
          let s = second.opens t c o in
          let r = first.opens s.0 s.1 s.2 in
          (r.0, r.1, r.2, r.3 ∙ s.3);
      surfaces = λ id size h. second.surfaces id size (first.surfaces id size h);
    }

pub opens_same : (xs : List Submission) (t : Submission) → Contains xs t → is_open t ≡ true → WasOpen xs t
opens_same xs t c o = (t, c, o, refl)

pub opens_mapped : (f : Submission → Submission) → ((s : Submission) → (f s).submitted ≡ s.submitted) → ((s : Submission) → is_open (f s) ≡ true → is_open s ≡ true)
    → (xs : List Submission) (t : Submission)
    → Contains (map f xs) t → is_open t ≡ true → WasOpen xs t
opens_mapped f same opens xs t c o =
    let m = contains_map f xs t c in
    (m.0, m.1, opens m.0 (ap is_open m.2 ∙ o), sym (same m.0) ∙ ap frame_of m.2)

-- a surface changes and keeps its id and size
pub record KeepsSize (g : Surface → Surface) : Type 0 where
  pub id : (s : Surface) → (g s).id ≡ s.id
  pub size : (s : Surface) → (g s).size ≡ s.size

pub sizes_mapped : (g : Surface → Surface) → KeepsSize g → (ss : List Surface) (id : SurfaceId) (size : Size) → HasSize ss id size → HasSize (map g ss) id size
sizes_mapped g same ss id size h = (g h.0, map_contains g ss h.0 h.1, same.id h.0 ∙ h.2, same.size h.0 ∙ h.3)

-- where each submission and each surface changes so
pub stays_mapped : (w : World) (f : Submission → Submission) (g : Surface → Surface) → ((s : Submission) → (f s).submitted ≡ s.submitted)
    → ((s : Submission) → is_open (f s) ≡ true → is_open s ≡ true)
    → KeepsSize g → Stays w (record w { subs = map f w.subs; surfaces = map g w.surfaces })
stays_mapped w f g same opens size =
    record { active = frames_kept f w.subs same; opens = opens_mapped f same opens w.subs; surfaces = sizes_mapped g size w.surfaces }

-- Activation

round_open : (b u : Bool) (s : Submission) → (b ≡ true → is_waiting s ≡ true)
    → is_open (cond b (record s { state = Active; was_active = true }) (cond u (record s { state = Past }) s)) ≡ true → is_open s ≡ true
round_open true u s waits o = or_left (is_waiting s) (is_active s) (waits refl)
round_open false true s waits o = absurd (cc)
round_open false false s waits o = o

marked_size : (ss : List Surface) (risen : List Submission) → KeepsSize (marked_by ss risen)
marked_size ss risen = record { id = λ s. same_when (λ (x : Surface). x.id) (list_any (is_before ss s) risen) _ s refl; size = λ s. same_when (λ (x : Surface). x.size) (list_any (is_before ss s) risen) _ s refl }

stays_round : (w : World) → Stays w (round w)
unfolding round ready
stays_round w =
    let risen = filter (is_ready w) w.subs in
    stays_mapped w (after_round (is_ready w) risen) (marked_by w.surfaces risen)
    (λ s. same_either (λ (x : Submission). x.submitted) (is_ready w s) (is_active s && list_any (is_on s.submitted.id) risen) _ _ s refl refl)
    (λ s. round_open (is_ready w s) (is_active s && list_any (is_on s.submitted.id) risen) s (ready_waits w s))
    (marked_size w.surfaces risen)

stays_rounds : (n : ℕ) (w : World) → Stays w (rounds n w)
unfolding rounds
stays_rounds zero w = record { active = refl; opens = opens_same w.subs; surfaces = λ id size h. h }
stays_rounds (suc n) w = stays_then w (round w) (rounds n (round w)) (stays_round w) (stays_rounds n (round w))

stays_settle : (w : World) → Stays w (settle w)
unfolding settle
stays_settle w = stays_rounds (length w.subs) w

-- Collection

named_size : (w : World) → KeepsSize (name_one w)
named_size w = record { id = λ s. same_when (λ (x : Surface). x.id) (not s.destroyed && is_named_now w s.id) _ s refl; size = λ s. same_when (λ (x : Surface). x.size) (not s.destroyed && is_named_now w s.id) _ s refl }

destroyed_size : (kept : List SurfaceId) → KeepsSize (destroy kept)
destroyed_size kept = record { id = λ s. same_when (λ (x : Surface). x.id) (is_lost kept s) _ s refl; size = λ s. same_when (λ (x : Surface). x.size) (is_lost kept s) _ s refl }

stays_naming : (w : World) → Stays w (naming w)
unfolding naming
stays_naming w = record { active = refl; opens = opens_same w.subs; surfaces = sizes_mapped (name_one w) (named_size w) w.surfaces }

stays_clearing : (w : World) → Stays w (clearing w)
unfolding clearing
stays_clearing w =
    stays_mapped w (drop_on (lost_in w)) (destroy (reach w)) (drops (lost_in w)).submitted (open_before (drop_on (lost_in w)) (drops (lost_in w))) (destroyed_size (reach w))

stays_collect : (w : World) → Stays w (collect w)
unfolding collect
stays_collect w = stays_then w (naming w) (clearing (naming w)) (stays_naming w) (stays_clearing (naming w))

-- Returns and feedback

stays_given : (w : World) → Stays w (give_back w)
unfolding give_back
stays_given w = record { active = refl; opens = opens_same w.subs; surfaces = λ id size h. h }

stays_fed : (presented : List Sub) (w : World) → Stays w (feed presented w)
unfolding feed
stays_fed presented w =
    record {
      active = frames_kept (mark_fed w presented) w.subs (λ s. refl);
      opens = opens_mapped (mark_fed w presented) (λ s. refl) (λ s o. o) w.subs;
      surfaces = λ id size h. h;
    }

-- all that follows a change
pub stays_after : (presented : List Sub) (a : Answer) → Stays a.world (outcome_of presented a).world
unfolding outcome_of
stays_after presented a =
    let settled = settle a.world in
    let collected = collect settled in
    stays_then a.world settled (feed presented (give_back collected)) (stays_settle a.world)
    (stays_then settled collected (feed presented (give_back collected)) (stays_collect settled)
    (stays_then collected (give_back collected) (feed presented (give_back collected)) (stays_given collected) (stays_fed presented (give_back collected))))
