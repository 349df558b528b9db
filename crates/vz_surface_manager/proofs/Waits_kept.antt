-- Changes of the machine's state that leave what is met, and who waits.
use Rattle.std.proofs.Common.{◌≡◌, Bool, ◌&&◌, ◌||◌, List, map, refl, ap, sym, ◌∙◌, arith}
use Rattle.std.specs.List.{list_any}
use Rattle.vz_ids.specs.{declared.SurfaceId.SurfaceId, declared.Sub.Sub}
use Rattle.vz_ids.specs.Ids.{same_sink, at_least}
use Rattle.vz_rules.specs.{Settle.is_met, Step.draw_answer, Ends.landed}
use Rattle.vz_rules.specs.{Plan.Plan, World.World, World.Client, World.Submission, Reach.naming}
use Rattle.vz_rules.specs.{Returns.feed, Returns.mark_fed}
use Rattle.vz_rules.proofs.Members.{any_map}
use Rattle.vz_deps.specs.Blocking.{blocked_of}
use Rattle.vz_deadlines.specs.Timing.{due_of}
use Rattle.vz_surface_manager.specs.Waits.{Waits, AreWaiting}
use Rattle.vz_surface_manager.proofs.Filtered.{filter_changed}
use Rattle.vz_surface_manager.proofs.Waits_on.{Stand, stays, stand_of, waiting_from, stand_alike}
use Rattle.vz_surface_manager.proofs.Quiet_changes.{ClosesNone, closes_plain, IsQuiet, drawn_as}
use Rattle.std.proofs.{lemmas.Bool.Decides.nat_tests, lemmas.List.map-id}

-- a change of submissions after which the same of them were active on the same surfaces
pub record LeavesActive (f : Submission → Submission) : Type 0 where
  pub was : (s : Submission) → (f s).was_active ≡ s.was_active
  pub submitted : (s : Submission) → (f s).submitted ≡ s.submitted

-- what is met by these submissions and clients
abbrev pub met_by : List Submission → List Client → SurfaceId → Bool
met_by subs clients d = list_any (λ s. s.was_active && at_least s.submitted.id d) subs || list_any (λ c. c.closed && same_sink c.sink d.sink) clients

pub met_is : (w : World) → is_met w ≡ met_by w.subs w.clients
unfolding is_met
met_is w = refl

pub met_alike : (f : Submission → Submission) (k : Client → Client) (subs : List Submission) (clients : List Client) → LeavesActive f → ClosesNone k
    → met_by (map f subs) (map k clients) ≡ met_by subs clients
met_alike f k subs clients h g = grind (arith, nat_tests, any_map f, any_map k)

same_active : LeavesActive (λ s. s)
same_active = record { was = λ s. refl; submitted = λ s. refl }

pub met_of_clients : (k : Client → Client) (subs : List Submission) (clients : List Client) → ClosesNone k → met_by subs (map k clients) ≡ met_by subs clients
met_of_clients k subs clients g = ap (λ l. met_by l (map k clients)) (sym (map-id subs)) ∙ met_alike (λ s. s) k subs clients same_active g

-- a world with the same submissions and tick, in which each client was changed
of_clients : (w v : World) (k : Client → Client) (a : Waits) → v.subs ≡ w.subs → v.tick ≡ w.tick → v.clients ≡ map k w.clients → ClosesNone k → AreWaiting w a → AreWaiting v a
of_clients w v k a e f g h r =
    let met : is_met v ≡ is_met w = met_is v ∙ ((λ i. met_by (e i) (g i)) ∙ (met_of_clients k w.subs w.clients h ∙ sym (met_is w))) in
    waiting_from v a (stand_alike (is_met w) (is_met v) w.tick v.tick w.subs v.subs a.blocked a.due met f e (stand_of w a r))

-- one with the same clients
of_same : (w v : World) (a : Waits) → v.subs ≡ w.subs → v.tick ≡ w.tick → v.clients ≡ w.clients → AreWaiting w a → AreWaiting v a
of_same w v a e f g r = of_clients w v (λ x. x) a e f (g ∙ sym (map-id w.clients)) closes_plain r

pub waits_like : (w v : World) (a : Waits) → IsQuiet w v → AreWaiting w a → AreWaiting v a
waits_like w v a q r = of_clients w v q.change a q.subs q.tick q.clients q.closes r

pub stay_named : (w : World) (a : Waits) → AreWaiting w a → AreWaiting (naming w) a
unfolding naming
stay_named w a r = of_same w _ a refl refl refl r

-- each submission was changed, and as before it waits and lacks what it lacked
of_subs : (w v : World) (f : Submission → Submission) (a : Waits) → v.subs ≡ map f w.subs → v.tick ≡ w.tick → v.clients ≡ w.clients → LeavesActive f
    → ((met : SurfaceId → Bool) (s : Submission) → stays met w.tick (f s) ≡ stays met w.tick s) → ((met : SurfaceId → Bool) (s : Submission) → blocked_of met (f s) ≡ blocked_of met s)
    → ((s : Submission) → due_of (f s) ≡ due_of s) → AreWaiting w a → AreWaiting v a
of_subs w v f a e t g h waits lacks due r =
    let met : is_met v ≡ is_met w =
    met_is v ∙ ((λ i. met_by (e i) ((g ∙ sym (map-id w.clients)) i)) ∙ (met_alike f (λ x. x) w.subs w.clients h closes_plain ∙ sym (met_is w))) in
    let stand = stand_of w a r in
    let same : Stand (is_met w) w.tick (map f w.subs) a.blocked a.due =
    record {
      blocked = stand.blocked ∙ sym (filter_changed f (blocked_of (is_met w)) (stays (is_met w) w.tick) (stays (is_met w) w.tick) w.subs (λ s c. waits (is_met w) s) (λ s c. lacks (is_met w) s));
      due = stand.due ∙ sym (filter_changed f due_of (stays (is_met w) w.tick) (stays (is_met w) w.tick) w.subs (λ s c. waits (is_met w) s) (λ s c. due s));
    } in
    waiting_from v a (stand_alike (is_met w) (is_met v) w.tick v.tick (map f w.subs) v.subs a.blocked a.due met t e same)

pub stay_fed : (presented : List Sub) (w : World) (a : Waits) → AreWaiting w a → AreWaiting (feed presented w) a
unfolding feed
stay_fed presented w a r =
    of_subs w _ (mark_fed w presented) a refl refl refl (record { was = λ s. refl; submitted = λ s. refl }) (λ met s. refl) (λ met s. refl) (λ s. refl) r

pub stay_drawn : (p : Plan) (w : World) (a : Waits) → AreWaiting w a → AreWaiting (draw_answer p w).world a
stay_drawn p w a r = drawn_as (λ v. AreWaiting v a) p w (λ last flight. of_same w _ a refl refl refl r)

pub stay_landed : (w : World) (a : Waits) → AreWaiting w a → AreWaiting (landed w) a
stay_landed w a r = of_same w (landed w) a refl refl refl r
