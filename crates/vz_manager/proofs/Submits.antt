-- A client that submits a frame: what is known of it, and that its submission may be accepted.
use Rattle.std.proofs.Common.{◌≡◌, ℕ, ◌≤◌, Some, List, length, sym, ◌∙◌, subst, arith, Contains}
use Rattle.vz_base.specs.declared.limits.TheConstants.{GREATEST_DEADLINE, LAST_TICK}
use Rattle.vz_ids.specs.{declared.FrameSinkId.FrameSinkId, declared.LocalSurfaceId.LocalSurfaceId}
use Rattle.vz_pixels.specs.Block.{Block}
use Rattle.vz_frame.specs.{declared.frame.CompositorFrame.CompositorFrame, declared.message.Message.TheVariants.Submit}
use Rattle.vz_frame.specs.declared.message.Message.{Message}
use Rattle.vz_rules.specs.declared.entry.Event.TheVariants as event
use Rattle.vz_rules.specs.{Plan.Plan, Messages.Answer, Messages.accepted, Messages.new_submission, Messages.blocks_of, Kept.KeepsAlways, Kept.IsWhole}
use Rattle.vz_rules.specs.{World.World, World.Client, World.client_at, Step.answer_to}
use Rattle.vz_rules.proofs.{Cases.number_at, Kept_small.small_client, Kept_sent.new_whole, Kept_steps.always_answer}
use Rattle.vz_surfaces.specs.Memory.{HasNumber}
use Rattle.vz_surface_manager.specs.{Acceptance.IsAccepting, declared.surface_manager.SurfaceManager.SurfaceManager}
use Rattle.vz_support.specs.Supporting.{Supported, IsSupport, IsNext, Sends}
use Rattle.vz_support.proofs.Asking.{numbered_there, next_same}
use Rattle.vz_manager.specs.{Serving.Served, Serving.Serves, Judging.deadline_of, Judging.AreAsked, Submitted.IsAllowed, Submitted.IsSubmitting}
use Rattle.vz_manager.proofs.{Following.client_here, Judged.submitted_fits, Judged.submitted_soon, Judged.submission_accepted}

-- where the parts stand for a state, a submission that is not refused may be accepted
pub is_submitting : (p : Plan) (w : World) (c : ℕ) (x : Client) (local : LocalSurfaceId) (frame : CompositorFrame) (v : Served)
    → Serves p w v → IsAllowed p w c x local frame → IsSubmitting p w c x local frame v.support v.settling
is_submitting p w c x local frame v h allowed =
    record {
      plan = h.plan;
      keeps = h.keeps;
      of_plan = h.of_plan;
      messages = h.messages;
      kept = h.support;
      stands = h.settling;
      released = h.released;
      allowed = allowed;
    }

module _ (p : Plan) (w : World) (c : ℕ) (x : Client) (local : LocalSurfaceId) (frame : CompositorFrame) (support : Supported)
    (settling : SurfaceManager) (h : IsSubmitting p w c x local frame support settling) where
  pub here : client_at w c ≡ Some x
  here = h.allowed.sends.here

  pub there : Contains w.clients x
  there = client_here w c x here

  pub number : x.number ≡ c
  number = number_at w c x here

  pub sends : Sends p w c x (Submit frame local)
  sends = record { keeps = h.keeps.always; here = here; next = h.allowed.sends.next }

  pub asks : AreAsked p w support settling.live
  asks = record { always = h.keeps.always; support = h.kept; live = h.stands.live }

  -- its number is one of those that a plan may have
  pub has_number : HasNumber c
  has_number = subst HasNumber number (small_client p w h.plan h.keeps.always h.of_plan x there).0

  -- the deadline is near, and no tick is behind the last one
  pub is_soon : deadline_of frame ≤ GREATEST_DEADLINE
  is_soon = submitted_soon p x local frame h.plan h.allowed.sends.next

  pub is_early : (tick : ℕ) → tick ≡ w.tick → tick ≤ LAST_TICK
  is_early tick e = subst (λ n. n ≤ LAST_TICK) (sym e) h.keeps.always.time.tick

  pub is_whole : IsWhole (new_submission w x local frame).submitted
  is_whole =
      let fits = submitted_fits p x local frame h.plan h.allowed.sends.next in
      new_whole w x local frame (h.keeps.always.shelves x there).rising (h.messages.blocks x there) fits.0 fits.1 h.allowed.allowed

  pub accepting : (sink : FrameSinkId) (blocks : List Block) → sink ≡ x.sink → blocks ≡ blocks_of x.resources frame
      → IsAccepting p w x c sink local frame blocks settling.live
  accepting sink blocks own listed =
      record {
        plan = h.plan;
        keeps = h.keeps;
        of_plan = h.of_plan;
        messages = h.messages;
        live = h.stands.live;
        none_released = h.released;
        known = there;
        number = number;
        own = sym own;
        goes_on = h.allowed.sends.stays;
        allowed = h.allowed.allowed;
        whole = is_whole;
        listed = listed;
      }

  pub answer : answer_to p w (event.Client c) ≡ accepted w x local frame
  answer = submission_accepted p w c x local frame h.allowed.sends h.allowed.allowed

  pub always_after : KeepsAlways (accepted w x local frame).world
  always_after = subst (λ (a : Answer). KeepsAlways a.world) answer (always_answer p w (event.Client c) h.keeps.always)

-- a client that is kept is one of the state, and takes the message next that it is kept to take
pub sender_of : (p : Plan) (w : World) (v : Supported) (c : ℕ) (m : Message) → KeepsAlways w → IsSupport p w v → 1 ≤ c
    → c ≤ length v.clients → IsNext v c m → (x : Client) × Sends p w c x m
sender_of p w v c m always h some known next =
    let x = numbered_there w c always.clients some (omega (arith, known, h.clients.count)) in
    (x.0, record { keeps = always; here = x.1; next = sym (next_same p w v c x.0 h x.1) ∙ next })
