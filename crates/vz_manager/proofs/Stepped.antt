-- Steps from which something follows: what they answer, and what stands for the state that they leave.
use Rattle.std.proofs.Common.{◌≡◌, ℕ, zero, suc, ◌≤◌, Option, Some, None, is_some, List, [], length, refl, ap, sym, ◌∙◌, subst, arith}
use Rattle.std.proofs.lemmas.List.{length-map}
use Rattle.std.specs.Option.{option_map}
use Rattle.vz_ids.specs.declared.Sub.{Sub}
use Rattle.vz_frame.specs.Roomy.{Roomy}
use Rattle.vz_rules.specs.{declared.entry.Event.Event, declared.entry.Fed.Fed, World.World, Returns.give_back, Returns.feed, Messages.Answer}
use Rattle.vz_rules.specs.{declared.entry.Returned.Returned, Settle.round, Settle.rounds, Settle.settle, Reach.naming, Reach.clearing, Reach.collect}
use Rattle.vz_rules.specs.Plan.{Plan}
use Rattle.vz_rules.specs.Step.{Outcome, answer_to, presented_by, outcome_of, step_in}
use Rattle.vz_rules.proofs.{Kept_between.keeps_step, Kept_planned.plan_step, Kept_sending.messages_step}
use Rattle.vz_machine.specs.declared.machine.Step.{Step}
use Rattle.vz_returns.specs.Lent.{NoneReleased, resources_out}
use Rattle.vz_surface_manager.specs.{Flown.Flown, Flown.subs_of, Flown.AreFlown, declared.surface_manager.SurfaceManager.SurfaceManager}
use Rattle.vz_surface_manager.specs.{Frame_end.flying_count, Settles.AreSettling}
use Rattle.vz_support.specs.Supporting.{Supported, IsSupport}
use Rattle.vz_support.proofs.Support_kept.{stays_settled, stays_collected, stays_given, stays_fed}
use Rattle.vz_manager.specs.Serving.{Served, Serves, CanLand, IsStepOf}

-- What is answered

-- where nothing is presented, a step is its answer with what follows from it
pub followed : (p : Plan) (w : World) (e : Event) (a : Answer) → answer_to p w e ≡ a → presented_by w e ≡ []
    → step_in p w e ≡ outcome_of [] a
unfolding step_in
followed p w e a is none = λ i. outcome_of (none i) (is i)

pub followed_world : (p : Plan) (w : World) (e : Event) (a : Answer) → answer_to p w e ≡ a → presented_by w e ≡ []
    → (step_in p w e).world ≡ (outcome_of [] a).world
followed_world p w e a is none = ap (λ (o : Outcome). o.world) (followed p w e a is none)

followed_reply : (a : Answer) → (outcome_of [] a).reply ≡ a.reply
unfolding outcome_of
followed_reply a = refl

-- what is answered and told is the step
pub followed_answer : (p : Plan) (w : World) (e : Event) (a : Answer) (s : Step) → answer_to p w e ≡ a → presented_by w e ≡ []
    → s.reply ≡ a.reply → s.effects ≡ (outcome_of [] a).effects → IsStepOf p w e s
followed_answer p w e a s is none told follows =
    let all = followed p w e a is none in
    record {
      reply = told ∙ sym (ap (λ (o : Outcome). o.reply) all ∙ followed_reply a);
      effects = follows ∙ sym (ap (λ (o : Outcome). o.effects) all);
    }

-- The drawn frame

rounds_flight : (n : ℕ) (w : World) → (rounds n w).in_flight ≡ w.in_flight
unfolding rounds round
rounds_flight zero w = refl
rounds_flight (suc n) w = rounds_flight n (round w)

-- what follows leaves the drawn frame
pub followed_flight : (a : Answer) → (outcome_of [] a).world.in_flight ≡ a.world.in_flight
unfolding outcome_of settle naming clearing collect give_back feed
followed_flight a = rounds_flight (length a.world.subs) a.world

-- one frame is drawn where the other is, of as many submissions
record FliesAlike (a b : Option (List Flown)) : Type 0 where
  some : is_some a ≡ is_some b
  count : flying_count a ≡ flying_count b

same_subs : (a b : List Sub) → ◌≡◌ {A = Option (List Sub)} (Some a) (Some b) → a ≡ b
same_subs a b e = cc

flies_alike : (a b : Option (List Flown)) → option_map subs_of a ≡ option_map subs_of b → FliesAlike a b
flies_alike None None e = record { some = refl; count = refl }
flies_alike None (Some b) e = absurd (cc)
flies_alike (Some a) None e = absurd (cc)
flies_alike (Some a) (Some b) e =
    record {
      some = refl;
      count = sym (length-map a (λ (f : Flown). f.0))
          ∙ (ap length (same_subs (subs_of a) (subs_of b) e) ∙ length-map b (λ (f : Flown). f.0));
    }

-- there is room still for the end of the drawn frame, where no more is out
pub lands_on : (w u : World) (v new : Served) → CanLand v → AreFlown w v.settling.live.flight → AreFlown u new.settling.live.flight
    → u.in_flight ≡ w.in_flight → resources_out new.settling.live.lent ≤ resources_out v.settling.live.lent
    → new.returned ≡ v.returned → new.fed ≡ v.fed → new.landed ≡ v.landed → CanLand new
lands_on w u v new h before after same out returned fed landed =
    let alike = flies_alike v.settling.live.flight new.settling.live.flight (sym before.drawn ∙ (sym same ∙ after.drawn)) in
    record {
      none_returned = ap (λ (r : Roomy Returned). r.list) returned ∙ h.none_returned;
      none_fed = ap (λ (r : Roomy Fed). r.list) fed ∙ h.none_fed;
      returned = λ flies.
          omega (arith, out, h.returned (alike.some ∙ flies), ap (λ (r : Roomy Returned). r.spare) returned);
      fed = λ flies. omega (arith, h.fed (alike.some ∙ flies), alike.count, ap (λ (r : Roomy Fed). r.spare) fed);
      effects = λ flies. landed ∙ h.effects (alike.some ∙ flies);
    }

-- What is left

-- what follows leaves what is kept for the clients
followed_support : (p : Plan) (a : Answer) (v : Supported) → IsSupport p a.world v → IsSupport p (outcome_of [] a).world v
unfolding outcome_of
followed_support p a v h =
    let settled = settle a.world in
    let collected = collect settled in
    stays_fed p (give_back collected) [] v
    (stays_given p collected v (stays_collected p settled v (stays_settled p a.world v h)))

-- the parts stand for what a step leaves
pub serves_after : (p : Plan) (w : World) (e : Event) (a : Answer) (v new : Served) → Serves p w v
    → answer_to p w e ≡ a → presented_by w e ≡ [] → new.size ≡ v.size → IsSupport p a.world new.support
    → AreSettling (outcome_of [] a).world None new.settling → NoneReleased new.settling.live.lent → CanLand new
    → Serves p (step_in p w e).world new
serves_after p w e a v new h is none size support stands released lands =
    let left = followed_world p w e a is none in
    record {
      plan = h.plan;
      keeps = keeps_step p w e h.keeps.always;
      of_plan = plan_step p w e h.plan h.keeps.always h.of_plan;
      messages = messages_step p w e h.plan h.keeps.always h.messages;
      size = size ∙ h.size;
      support = subst (λ u. IsSupport p u new.support) (sym left) (followed_support p a new.support support);
      settling = subst (λ u. AreSettling u None new.settling) (sym left) stands;
      released = released;
      lands = lands;
    }

-- with what is kept for the clients, the surfaces and what waits changed, where the step itself leaves the drawn frame
pub serves_followed : (p : Plan) (w : World) (e : Event) (a : Answer) (v : Served) (support : Supported) (settling : SurfaceManager)
    → Serves p w v → answer_to p w e ≡ a → presented_by w e ≡ [] → a.world.in_flight ≡ w.in_flight
    → IsSupport p a.world support → AreSettling (outcome_of [] a).world None settling → NoneReleased settling.live.lent
    → resources_out settling.live.lent ≤ resources_out v.settling.live.lent
    → Serves p (step_in p w e).world (record v { support = support; settling = settling })
serves_followed p w e a v support settling h is none flight kept stands released out =
    let new : Served = record v { support = support; settling = settling } in
    serves_after p w e a v new h is none refl kept stands released
    (lands_on w (outcome_of [] a).world v new h.lands h.settling.live.flown stands.live.flown (followed_flight a ∙ flight) out refl refl refl)
