-- A begin-frame while no submission waits and no surface is temporary: nothing follows.
use Rattle.std.proofs.Common.{◌≡◌, ℕ, ◌≤◌, ◌==◌, ◌&&◌, not, Bool, true, false, Some, None, List, [], ◌∷◌, map, length, refl, ap, sym, ◌∙◌, subst, arith, Contains}
use Rattle.std.specs.Prelude.{if◌then◌else◌}
use Rattle.std.proofs.lemmas.Bool.{eqb-true, and_parts}
use Rattle.vz_rules.specs.declared.entry.Event.TheVariants as event
use Rattle.vz_rules.specs.Plan.{Plan}
use Rattle.vz_rules.specs.{World.World, World.Client, World.Submission, World.sub_of, Settle.ready, Reach.lost_in, Returns.is_held, Kept.Keeps}
use Rattle.vz_rules.specs.Step.{Outcome, begin_answer, deliver, is_attached, next_tick, outcome_of, step_in}
use Rattle.vz_rules.proofs.Members.{contains_map}
use Rattle.vz_returns.specs.Lent.{NoneReleased, resources_out}
use Rattle.vz_surface_manager.specs.{declared.surface_manager.SurfaceManager.SurfaceManager, Settles.AreSettling}
use Rattle.vz_surface_manager.proofs.{Rounded.none_long, Waits_on.as_many}
use Rattle.vz_support.specs.Supporting.{Supported, IsSupport}
use Rattle.vz_manager.specs.Serving.{Served, Serves}
use Rattle.vz_manager.proofs.{Following.quiet_step, Rooming.as_many_rise, Unlost.begun_alike, Unlost.named_alike, Unlost.none_lost}
use Rattle.vz_manager.proofs.{Stepped.followed_world, Stepped.serves_followed, Own_changes.between, Own_changes.begin_sent, Own_changes.begin_leaves}

none_there : {A : Type 0} (l : List A) → (length l == 0) ≡ true → l ≡ []
none_there l e = none_long l (omega (arith, eqb-true (length l) 0 e))

-- what is told of both
pub both_none : {A B : Type 0} (l : List A) (m : List B) (t : Bool) → t ≡ ((length l == 0) && (length m == 0)) → t ≡ true
    → (l ≡ []) × (m ≡ [])
both_none l m t is e =
    let parts = and_parts (length l == 0) (length m == 0) (sym is ∙ e) in
    (none_there l parts.0, none_there m parts.1)

-- a tick began, and before it nothing waited and nothing was temporary
pub record IsBegun (p : Plan) (w : World) (v : Served) (support : Supported) (settling : SurfaceManager) : Type 0 where
  pub serves : Serves p w v
  pub none_waits : v.settling.waiting.due ≡ []
  pub none_lasts : v.settling.live.kept.temporary ≡ []
  pub kept : IsSupport p (begin_answer p w).world support
  pub stands : AreSettling (begin_answer p w).world None settling
  pub few : length settling.live.kept.temporary ≤ length v.settling.live.kept.temporary

none_named : (l : List Submission) → map sub_of l ≡ [] → l ≡ []
none_named [] e = refl
none_named (s ∷ l) e = absurd (cc)

still_there : {A : Type 0} (of : Client → A) (t : Bool) (n : ℕ) (x : Client) → of (record x { delivered = Some n }) ≡ of x
    → of (if t then record x { delivered = Some n } else x) ≡ of x
still_there of true n x e = e
still_there of false n x e = refl

module _ (p : Plan) (w : World) (v : Served) (support : Supported) (settling : SurfaceManager) (h : IsBegun p w v support settling) where
  -- none becomes active
  none_rises_now : ready (begin_answer p w).world ≡ []
  none_rises_now =
      let u = (begin_answer p w).world in
      let rise = as_many_rise w u v.settling settling (map sub_of (ready u)) (between p w v h.serves) (begin_leaves p w).subs
      (record { stands = h.stands; ready = refl }) in
      none_named (ready u)
      (none_long (map sub_of (ready u)) (omega (arith, rise, as_many w v.settling.waiting h.serves.settling.waiting, ap length h.none_waits)))

  pub begun_keeps : Keeps (begin_answer p w).world
  unfolding begin_answer is_held
  begun_keeps =
      let u = (begin_answer p w).world in
      let alike = begun_alike p w v.settling.live.kept settling.live.kept 0 h.serves.settling.live.kept h.stands.live.kept h.few
      (sym (ap length h.none_lasts)) refl in
      let named = named_alike w u v.settling.live.kept settling.live.kept alike h.serves.keeps.all_named in
      let change = deliver p w (next_tick w.tick) in
      record {
        always = h.stands.always;
        none_ready = none_rises_now;
        all_named = named;
        none_lost = ap lost_in (sym named) ∙ none_lost w u v.settling.live.kept settling.live.kept alike h.serves.keeps;
        none_out = λ c s here of e.
            let m = contains_map change w.clients c here in
            let there = subst (λ (x : Client). Contains x.resources s) (sym m.2) of in
            h.serves.keeps.none_out m.0 s m.1 (subst (λ l. Contains l s) (still_there (λ x. x.resources) (is_attached p w m.0 && not m.0.closed) (next_tick w.tick) m.0 refl) there)
            (ap (λ n. is_held w n s.id) (sym (still_there (λ x. x.number) (is_attached p w m.0 && not m.0.closed) (next_tick w.tick) m.0 refl) ∙ ap (λ (x : Client). x.number) m.2) ∙ e);
        open_ones = h.serves.keeps.open_ones;
      }

  -- the parts stand for the state that the step leaves
  pub rest_serves : NoneReleased settling.live.lent → resources_out settling.live.lent ≤ resources_out v.settling.live.lent
      → Serves p (step_in p w event.Begin).world (record v { support = support; settling = settling })
  rest_serves released out =
      let a = begin_answer p w in
      let same : (outcome_of [] a).world ≡ a.world =
      sym (followed_world p w event.Begin a (begin_sent p w) refl)
      ∙ ap (λ (o : Outcome). o.world) (quiet_step p w event.Begin a (begin_sent p w) refl begun_keeps) in
      serves_followed p w event.Begin a v support settling h.serves (begin_sent p w) refl (begin_leaves p w).in_flight h.kept
      (subst (λ x. AreSettling x None settling) (sym same) h.stands) released out
