-- Those that wait where a client is closed, and over a round.
use Rattle.std.proofs.Common.{◌≡◌, Bool, true, false, not, ◌&&◌, ◌||◌, ◌==◌, List, [], map, filter, refl, ap, sym, ◌∙◌, subst, Contains, arith}
use Rattle.std.specs.List.{list_any}
use Rattle.std.proofs.{lemmas.Bool.and_parts, lemmas.Bool.and_from, lemmas.Bool.eqb-true, lemmas.Bool.eq-eqb, lemmas.Bool.Decides.nat_tests}
use Rattle.vz_ids.specs.{declared.FrameSinkId.FrameSinkId, declared.SurfaceId.SurfaceId, declared.Sub.Sub, Ids.same_sink}
use Rattle.vz_frame.specs.declared.message.Message.TheVariants.{Close}
use Rattle.vz_rules.specs.{declared.entry.State.State, Messages.message_answer, Kept.KeepsAlways}
use Rattle.vz_rules.specs.World.{World, Client, Submission, is_waiting, is_active, sub_of}
use Rattle.vz_rules.specs.Settle.{is_met, has_come, is_ready, ready, round, after_round}
use Rattle.vz_rules.proofs.Members.{any_at, any_from, any_map, none_filtered, same_tests}
use Rattle.vz_rules.proofs.Kept_submits.{one_of_number}
use Rattle.vz_rules.proofs.{Reached.from_same_sink, Reached.self_same_sink, Kept_singly.active_waits_not, Kept_singly.apart}
use Rattle.vz_deps.specs.Tracking.{freed, still, meets_any, is_of_sink}
use Rattle.vz_deps.proofs.Rounds.{close_meets, round_meets}
use Rattle.vz_surface_manager.specs.{Waits.Waits, Waits.AreWaiting, Left_out.due_without}
use Rattle.vz_surface_manager.proofs.Filtered.{filter_alike, filter_changed}
use Rattle.vz_surface_manager.proofs.Waits_on.{Stand, comes, stays, stand_of, waiting_from, stand_alike, ready_comes}
use Rattle.vz_surface_manager.proofs.More_met.{met_then, rises, all_then, frees, leaves, clears}

-- what is freed of those that wait, and what they are then
pub freed_of : (w : World) (a : Waits) (more : SurfaceId → Bool) → AreWaiting w a → freed more a.blocked ≡ map sub_of (filter (rises (is_met w) more w.tick w.subs) w.subs)
unfolding is_ready has_come
freed_of w a more r = ap (freed more) r.blocked ∙ frees (is_met w) more w.tick w.subs

pub stand_then : (w : World) (old new : Waits) (more : SurfaceId → Bool) (gone : List Sub) → KeepsAlways w → AreWaiting w old → gone ≡ freed more old.blocked
    → new.blocked ≡ still more old.blocked → new.due ≡ due_without gone old.due
    → Stand (met_then (is_met w) more w.tick w.subs) w.tick w.subs new.blocked new.due
unfolding is_ready has_come
stand_then w old new more gone h r is e f =
    record {
      blocked = e ∙ (ap (still more) r.blocked ∙ leaves (is_met w) more w.tick w.subs);
      due = f ∙ ((λ i. due_without ((is ∙ freed_of w old more r) i) ((stand_of w old r).due i)) ∙ clears (is_met w) more w.tick w.subs (apart w h));
    }

-- where none is ready, all that become active then become so by what is met more
pub none_comes : (w : World) (s : Submission) → ready w ≡ [] → Contains w.subs s → comes (is_met w) w.tick s ≡ false
none_comes w s none c = none_filtered (comes (is_met w) w.tick) w.subs s (sym (ready_comes w) ∙ none) c

-- A client is closed

same_sinks : (a b : FrameSinkId) → same_sink a b ≡ true → same_sink b a ≡ true
same_sinks a b e = subst (λ x. same_sink b x ≡ true) (sym (from_same_sink a b e)) (self_same_sink b)

closed_meets : (w : World) (c : Client) (sink : FrameSinkId) (d : SurfaceId) → KeepsAlways w → Contains w.clients c → sink ≡ c.sink
    → list_any (λ (x : Client). (x.number == c.number) && same_sink x.sink d.sink) w.clients ≡ is_of_sink sink d
closed_meets w c sink d h at is =
    same_tests (list_any here w.clients) (is_of_sink sink d)
    (λ e.
    let m = any_at here w.clients e in
    let parts = and_parts (m.0.number == c.number) (same_sink m.0.sink d.sink) m.2 in
    let one : m.0 ≡ c = one_of_number w.clients m.0 c h.clients m.1 at (eqb-true m.0.number c.number parts.0) in
    ap (same_sink d.sink) (is ∙ ap (λ (x : Client). x.sink) (sym one)) ∙ same_sinks m.0.sink d.sink parts.1)
    (λ e. any_from here w.clients c at (and_from (c.number == c.number) (same_sink c.sink d.sink) (eq-eqb c.number c.number refl) (same_sinks d.sink c.sink (ap (same_sink d.sink) (sym is) ∙ e))))
  where
    here : Client → Bool
    here x = (x.number == c.number) && same_sink x.sink d.sink

met_closed : (w : World) (c : Client) (sink : FrameSinkId) → KeepsAlways w → Contains w.clients c → sink ≡ c.sink
    → is_met (message_answer w c Close).world ≡ met_then (is_met w) (is_of_sink sink) w.tick w.subs
unfolding message_answer is_met
met_closed w c sink h at is = λ i d. (close_meets w c d ∙ ap (λ (t : Bool). is_met w d || t) (closed_meets w c sink d h at is)) i

pub waits_closed : (w : World) (c : Client) (sink : FrameSinkId) (old new : Waits) (gone : List Sub) → KeepsAlways w → Contains w.clients c → AreWaiting w old → sink ≡ c.sink
    → gone ≡ freed (is_of_sink sink) old.blocked → new.blocked ≡ still (is_of_sink sink) old.blocked → new.due ≡ due_without gone old.due
    → AreWaiting (message_answer w c Close).world new
unfolding message_answer
waits_closed w c sink old new gone h at r is e f g =
    let v = (message_answer w c Close).world in
    let then = met_then (is_met w) (is_of_sink sink) w.tick w.subs in
    waiting_from v new (stand_alike then (is_met v) w.tick v.tick w.subs v.subs new.blocked new.due (met_closed w c sink h at is) refl refl (stand_then w old new (is_of_sink sink) gone h r e f g))

not_yet : (a b : Bool) → a ≡ false → (not a && b) ≡ b
not_yet a b e = grind (arith, nat_tests)

pub ready_closed : (w : World) (c : Client) (sink : FrameSinkId) (old : Waits) → KeepsAlways w → Contains w.clients c → ready w ≡ [] → AreWaiting w old → sink ≡ c.sink
    → freed (is_of_sink sink) old.blocked ≡ map sub_of (ready (message_answer w c Close).world)
unfolding message_answer
ready_closed w c sink old h at none r is =
    let v = (message_answer w c Close).world in
    let then = met_then (is_met w) (is_of_sink sink) w.tick w.subs in
    freed_of w old (is_of_sink sink) r
    ∙ (ap (map sub_of) (filter_alike (rises (is_met w) (is_of_sink sink) w.tick w.subs) (comes then w.tick) w.subs
    (λ s c. not_yet (comes (is_met w) w.tick s) (comes then w.tick s) (none_comes w s none c)))
    ∙ ap (map sub_of) ((λ i. filter (comes (sym (met_closed w c sink h at is) i) w.tick) w.subs) ∙ sym (ready_comes v)))

-- A round

came : (a m n d : Bool) → (m ≡ true → n ≡ true) → (a && (m || d)) ≡ true → false ≡ (a && not (n || d))
came a m n d h e = grind (arith, nat_tests)

module _ (w : World) (more : SurfaceId → Bool) where
  abbrev then : SurfaceId → Bool
  then = met_then (is_met w) more w.tick w.subs

  abbrev risen : Submission → Submission
  risen = after_round (comes (is_met w) w.tick) (filter (comes (is_met w) w.tick) w.subs)

  -- one that is active does not wait, and so is not among them before and behind a round
  past_waits_not : (s : Submission) (b : Bool) → (is_active s && b) ≡ true → is_waiting s ≡ false
  past_waits_not s b e = active_waits_not s (and_parts (is_active s) b e).0

  risen_stays : (s : Submission) → stays then w.tick (risen s) ≡ stays then w.tick s
  risen_stays s = grind (arith, nat_tests, comes, stays, came, all_then, past_waits_not)

  risen_comes : (s : Submission) → comes then w.tick (risen s) ≡ rises (is_met w) more w.tick w.subs s
  risen_comes s = grind (arith, nat_tests, comes (is_met w) w.tick s, comes, comes (is_met w) w.tick, past_waits_not s)

  same_risen : {B : Type 0} (g : Submission → B) → ((s : Submission) (t : State) (b : Bool) → g (record s { state = t; was_active = b }) ≡ g s) → (s : Submission) → g (risen s) ≡ g s
  same_risen g h s = grind (arith, nat_tests, comes (is_met w) w.tick s, comes (is_met w) w.tick)

  stand_risen : (new : Waits) → Stand then w.tick w.subs new.blocked new.due → Stand then w.tick (map risen w.subs) new.blocked new.due
  stand_risen new h = grind (arith, nat_tests, filter_changed, stays, risen_stays, same_risen)

  risen_ready : map sub_of (filter (comes then w.tick) (map risen w.subs)) ≡ map sub_of (filter (rises (is_met w) more w.tick w.subs) w.subs)
  risen_ready = grind (arith, nat_tests, filter_changed, comes, rises (is_met w) more w.tick w.subs, risen_comes, same_risen)

met_round : (w : World) (ids : List SurfaceId) → ids ≡ map (λ (s : Submission). s.submitted.id) (ready w) → is_met (round w) ≡ met_then (is_met w) (meets_any ids) w.tick w.subs
met_round w ids is = grind (arith, nat_tests, round_meets w, any_map)

subs_round : (w : World) → (round w).subs ≡ map (after_round (comes (is_met w) w.tick) (filter (comes (is_met w) w.tick) w.subs)) w.subs
unfolding round ready is_ready has_come
subs_round w = refl

tick_round : (w : World) → (round w).tick ≡ w.tick
unfolding round
tick_round w = refl

pub waits_round : (w : World) (ids : List SurfaceId) (old new : Waits) (gone : List Sub) → KeepsAlways w → AreWaiting w old → ids ≡ map (λ (s : Submission). s.submitted.id) (ready w)
    → gone ≡ freed (meets_any ids) old.blocked → new.blocked ≡ still (meets_any ids) old.blocked → new.due ≡ due_without gone old.due → AreWaiting (round w) new
waits_round w ids old new gone h r is e f g =
    let then = met_then (is_met w) (meets_any ids) w.tick w.subs in
    let stand = stand_risen w (meets_any ids) new (stand_then w old new (meets_any ids) gone h r e f g) in
    waiting_from (round w) new (stand_alike then (is_met (round w)) w.tick (round w).tick _ (round w).subs new.blocked new.due (met_round w ids is) (tick_round w) (subs_round w) stand)

pub ready_round : (w : World) (ids : List SurfaceId) (old : Waits) → AreWaiting w old → ids ≡ map (λ (s : Submission). s.submitted.id) (ready w)
    → freed (meets_any ids) old.blocked ≡ map sub_of (ready (round w))
ready_round w ids old r is = grind (arith, nat_tests, freed_of w old (meets_any ids) r, risen_ready w (meets_any ids), comes, met_round w ids is, tick_round w, subs_round w, ready_comes (round w))
