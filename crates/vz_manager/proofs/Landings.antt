-- The drawn frame is done: there is room, what is told follows, and the parts stand for the state that is left.
use Rattle.std.proofs.Common.{◌≡◌, ℕ, ◌≤◌, ◌+◌, Bool, true, false, Some, None, Option, List, [], ◌∷◌, length, is_some, slice_get}
use Rattle.std.proofs.Common.{refl, ap, sym, ◌∙◌, subst, arith, Contains}
use Rattle.std.specs.Option.{option_and_then}
use Rattle.vz_ids.specs.declared.Sub.{Sub}
use Rattle.vz_frame.specs.Roomy.{Roomy}
use Rattle.vz_rules.specs.{declared.entry.Effects.Effects, World.World, World.Submission, Ends.landed, Ends.presenting, Kept.Keeps, Kept.no_effects}
use Rattle.vz_rules.specs.declared.entry.Event.TheVariants as event
use Rattle.vz_rules.specs.{declared.entry.Fed.Fed, Step.Outcome, Step.step_in}
use Rattle.vz_rules.specs.declared.entry.Reply.TheVariants as reply
use Rattle.vz_rules.specs.{declared.entry.Returned.Returned, Plan.Plan, Returns.give_back, Returns.returned_in, Returns.feedback_of, Returns.fed_in}
use Rattle.vz_rules.proofs.{Members.at_contains, Members.contains_here, Kept_done.done_presents, Kept_done.done_idles, Kept_sending.messages_step}
use Rattle.vz_rules.proofs.{Kept_between.keeps_step, Kept_planned.plan_step}
use Rattle.vz_machine.specs.declared.machine.Step.{Step}
use Rattle.vz_returns.specs.{Lent.NoneReleased, declared.due.Due.Due, Owed.Owed, Owed.AreOwed, Owed.gets_at}
use Rattle.vz_returns.proofs.Owed_kept.{none_gets}
use Rattle.vz_surface_manager.specs.{Flown.Flown, Waits.AreWaiting, Live.Live, Live.AreLive, Frame_end.IsFlying, Frame_end.flying_count}
use Rattle.vz_surface_manager.proofs.Flights_kept.{flown_some}
use Rattle.vz_surface_manager.proofs.{Waits_kept.waits_like, Waits_kept.stay_landed, Waits_kept.stay_fed, Quiet_changes.quiet_given}
use Rattle.vz_support.specs.Supporting.{IsSupport}
use Rattle.vz_support.proofs.Support_kept.{stays_like, stays_given, stays_fed}
use Rattle.vz_manager.specs.Serving.{Served, Serves, IsStepOf}

-- What a frame that is in flight comes with

none_at : (w : World) (n : ℕ) → Keeps w → gets_at (feedback_of w []) w.subs n ≡ None
none_at w n h = by (slice_get w.subs n) refl
  where
    by : (o : Option Submission) → slice_get w.subs n ≡ o → option_and_then (feedback_of w []) o ≡ None
    by None e = refl
    by (Some s) e = none_gets w s h (at_contains w.subs n s e)

none_among : (w : World) (dues : List Due) → Keeps w
    → ((d : Due) → Contains dues d → gets_at (feedback_of w []) w.subs d.place ≡ Some d.fed) → length dues ≡ 0
none_among w [] h is = refl
none_among w (d ∷ dues) h is =
    let some = is d (contains_here d dues) in
    let none = none_at w d.place h in
    absurd (cc)

-- between steps no feedback is due
none_due : (w : World) (f : Owed) → Keeps w → AreOwed w f → length f.due ≡ 0
none_due w f h o = none_among w f.due h o.due

some_there : {A : Type 0} (o : Option A) → is_some o ≡ true → (x : A) × (o ≡ Some x)
some_there None e = absurd (cc)
some_there (Some x) e = (x, refl)

none_there : {A : Type 0} (o : Option A) → is_some o ≡ false → o ≡ None
none_there None e = refl
none_there (Some x) e = absurd (cc)

module _ (p : Plan) (w : World) (v : Served) (h : Serves p w v) where
  flies_alike : is_some v.settling.live.flight ≡ is_some w.in_flight
  flies_alike = flown_some w v.settling.live.flight h.settling.live.flown

  pub flying : is_some v.settling.live.flight ≡ true → (drawn : List Sub) × IsFlying w drawn v.settling.live
  flying e =
      let d = some_there w.in_flight (sym flies_alike ∙ e) in (
        d.0,
        record { keeps = h.keeps; live = h.settling.live; flies = d.1 },
      )

  pub places_there : is_some v.settling.live.flight ≡ true
      → length v.settling.live.owed.owed.due + flying_count v.settling.live.flight ≤ v.fed.spare
  places_there e = omega (arith, none_due w v.settling.live.owed.owed h.keeps h.settling.live.owed, h.lands.fed e)

  -- Where there is none

  idle : is_some v.settling.live.flight ≡ false → step_in p w event.Done ≡ record { reply = reply.Nothing; effects = no_effects; world = w }
  idle e = done_idles p w h.keeps (none_there w.in_flight (sym flies_alike ∙ e))

  pub step_idle : (s : Step) → is_some v.settling.live.flight ≡ false → s.reply ≡ reply.Nothing → s.effects ≡ no_effects
      → IsStepOf p w event.Done s
  step_idle s e told follows =
      record {
        reply = told ∙ ap (λ (o : Outcome). o.reply) (sym (idle e));
        effects = follows ∙ ap (λ (o : Outcome). o.effects) (sym (idle e));
      }

  pub serves_idle : is_some v.settling.live.flight ≡ false → Serves p (step_in p w event.Done).world v
  serves_idle e = subst (λ (u : World). Serves p u v) (ap (λ (o : Outcome). o.world) (sym (idle e))) h

-- What is told

pub step_landed : (p : Plan) (w : World) (s : Step) (drawn : List Sub) (returned : List Returned) (fed : List Fed) → Keeps w
    → w.in_flight ≡ Some drawn → s.reply ≡ reply.Shown
    → s.effects ≡ record { activated = []; destroyed = []; returned = returned; fed = fed }
    → returned ≡ returned_in (landed w) → fed ≡ fed_in drawn (landed w) → IsStepOf p w event.Done s
step_landed p w s drawn returned fed h flies told follows goes feeds =
    let presents = done_presents p w drawn h flies in
    let same : ◌≡◌ {A = Effects} (record { activated = []; destroyed = []; returned = returned; fed = fed })
    (record { activated = []; destroyed = []; returned = returned_in (landed w); fed = fed_in drawn (landed w) }) =
    λ i. record { activated = []; destroyed = []; returned = goes i; fed = feeds i } in
    record {
      reply = told ∙ ap (λ (o : Outcome). o.reply) (sym presents);
      effects = follows ∙ (same ∙ ap (λ (o : Outcome). o.effects) (sym presents));
    }

-- What is left

pub serves_landed : (p : Plan) (w : World) (v : Served) (drawn : List Sub) (live : Live) (returned : Roomy Returned) (fed : Roomy Fed) (room : Bool)
    → Serves p w v → w.in_flight ≡ Some drawn
    → AreLive (presenting drawn (landed w)).world None live → NoneReleased live.lent → live.flight ≡ None
    → returned.list ≡ [] → fed.list ≡ []
    → Serves p (step_in p w event.Done).world
    (record v { settling = record v.settling { live = live }; returned = returned; fed = fed; landed = room })
serves_landed p w v drawn live returned fed room h flies stands released lands none_returned none_fed =
    let given : World = give_back (landed w) in
    record {
      plan = h.plan;
      keeps = keeps_step p w event.Done h.keeps.always;
      of_plan = plan_step p w event.Done h.plan h.keeps.always h.of_plan;
      messages = messages_step p w event.Done h.plan h.keeps.always h.messages;
      size = h.size;
      support = subst (λ (u : World). IsSupport p u v.support) (sym left)
          (stays_fed p given drawn v.support (stays_given p (landed w) v.support (stays_like p w (landed w) v.support
          (record { clients = refl; relations = refl; tick = refl; root = refl; over = refl }) h.support)));
      settling =
          record {
            always = (keeps_step p w event.Done h.keeps.always).always;
            live = subst (λ (u : World). AreLive u None live) (sym left) stands;
            waiting = subst (λ (u : World). AreWaiting u v.settling.waiting) (sym left)
                (stay_fed drawn given v.settling.waiting (waits_like (landed w) given v.settling.waiting (quiet_given (landed w))
                (stay_landed w v.settling.waiting h.settling.waiting)));
          };
      released = released;
      lands =
          record {
            none_returned = none_returned;
            none_fed = none_fed;
            returned = λ some. no_flight live.flight lands some;
            fed = λ some. no_flight live.flight lands some;
            effects = λ some. no_flight live.flight lands some;
          };
    }
  where
    left : (step_in p w event.Done).world ≡ (presenting drawn (landed w)).world
    left = ap (λ (o : Outcome). o.world) (done_presents p w drawn h.keeps flies)

    no_flight : {A : Type 0} (o : Option (List Flown)) → o ≡ None → is_some o ≡ true → A
    no_flight None e f = absurd (cc)
    no_flight (Some x) e f = absurd (cc)
