-- What a world keeps all the time, from the first one on and through each step.
use Rattle.std.proofs.Common.{◌≡◌, ℕ, ◌+◌, ◌≤◌, Bool, true, false, not, ◌&&◌, ◌==◌, inl, inr, Option, Some, None, List, map, map-id, filter, refl, ap, sym, ◌∙◌, arith, cond, subst, Contains, le_refl}
use Rattle.std.specs.Prelude.{is_some}
use Rattle.std.specs.List.{list_any}
use Rattle.std.specs.Option.{option_and_then}
use Rattle.std.proofs.lemmas.Bool.{eqb-false, cases_order, or_right, cond_both}
use Rattle.vz_ids.specs.declared.SurfaceId.{SurfaceId}
use Rattle.vz_ids.specs.declared.Sub.{Sub}
use Rattle.vz_ids.specs.Ids.{same_sub}
use Rattle.vz_rules.specs.Plan.{Plan}
use Rattle.vz_rules.specs.declared.entry.Event.{Event}
use Rattle.vz_rules.specs.declared.entry.Event.TheVariants as event
use Rattle.vz_rules.specs.declared.entry.Refusal.TheVariants as refusal
use Rattle.vz_rules.specs.World.{World, Client, Scene, FrameData, Submission, active_frames, frame_on, is_active, is_waiting, is_in_flight, has_sub, sub_of, last_created}
use Rattle.vz_rules.specs.Scene.{scene_of, scene_at}
use Rattle.vz_rules.specs.Returns.{holds, give_back}
use Rattle.vz_rules.specs.Settle.{settle}
use Rattle.vz_rules.specs.Reach.{collect}
use Rattle.vz_rules.specs.Walk.{Visit, walk_of, walked_subs, goes_into}
use Rattle.vz_rules.specs.Damage.{aggregation_of}
use Rattle.vz_rules.specs.Messages.{client_answer, taking, relate}
use Rattle.vz_rules.specs.Step.{next_tick, is_attached, deliver, begin_answer, done_answer, answer_to, outcome_of, step_in, presented_by}
use Rattle.vz_rules.specs.Kept.{KeepsAlways, stands_in}
use Rattle.vz_rules.proofs.Members.{contains_map, contains_at, at_same, any_at, find_at, filter_at}
use Rattle.vz_rules.proofs.Kept_shelves.{KeepsStock, shelf_of_client}
use Rattle.vz_rules.proofs.Kept_states.{states_keep}
use Rattle.vz_rules.proofs.Kept_accepted.{subs_differ, flight_keeps}
use Rattle.vz_rules.proofs.Kept_worlds.{always_besides, always_clients, always_parts, StaysClient, holds_from}
use Rattle.vz_rules.proofs.Kept_follows.{always_settle, nothing_opens}
use Rattle.vz_rules.proofs.Kept_clears.{always_collect, always_given, always_fed}
use Rattle.vz_rules.proofs.Kept_messages.{Always, always_refused, always_noted, always_reclaimed, always_closed, always_stored, always_begun, always_took}
use Rattle.vz_rules.proofs.Kept_submits.{always_accepted}
use Rattle.vz_rules.proofs.Cases.{SceneCases, open_cases, drawing_cases, not_refused}

-- A client's message

always_client : (p : Plan) (w : World) (n : ℕ) → KeepsAlways w → Always (client_answer p w n)
always_client p w n h =
    open_cases p w n Always h (λ c e number m at. always_refused w c refusal.AlreadyClosed h) (λ c e number stays.
    let took : World = taking (λ x. x) c w in
    record {
      turned = λ m r timely at. always_refused w c r h;
      not_yet = λ at. h;
      stored = λ id block free at. always_stored w c id block h;
      submitted = λ local frame good at.
          let fine = not_refused (last_created w c.number) c.resources local frame good in
          always_accepted w c local frame h (find_at (λ (x : Client). x.number == n) w.clients c e).0 stays fine.2 fine.1;
      noted = λ k at. always_noted w c k h;
      reclaimed = λ at. always_reclaimed w c h;
      rooted = λ local root at. always_besides took took.last took.over root took.relations (always_took w c h);
      joined = λ parent child good at. always_besides took took.last took.over took.root (relate parent child w.relations) (always_took w c h);
      began = λ k d at. always_begun w c h;
      over = λ at. always_took w c h;
      left = λ at. always_closed w c h;
    })

-- A begin-frame

pub tick_by : (t : Bool) (n : ℕ) → (n == 4294967231) ≡ t → n ≤ 4294967231 → (n ≤ cond t n (n + 1)) × (cond t n (n + 1) ≤ 4294967231)
tick_by true n e l = (le_refl n, l)
tick_by false n e l = (
  omega arith,
  elim (cases_order n 4294967231) [
    | inl k ↦ absurd (eqb-false n 4294967231 e k)
    | inr r ↦ elim r [ inl k ↦ omega (arith, k) | inr k ↦ absurd (omega (arith, k, l)) ]
  ],
)

delivered_stays : (t : Bool) (now next : ℕ) (c : Client) → now ≤ next → StaysClient now next c (cond t (record c { delivered = Some next }) c)
delivered_stays true now next c l =
    record {
      number = refl;
      sink = refl;
      closed = λ e. e;
      timely = λ t. record { delivered = λ n e. let same : next ≡ n = cc in omega (arith, same); answered = omega (arith, t.answered, l) };
    }
delivered_stays false now next c l =
    record { number = refl; sink = refl; closed = λ e. e; timely = λ t. record { delivered = λ n e. omega (arith, t.delivered n e, l); answered = omega (arith, t.answered, l) } }

delivered_stock : (t : Bool) (next : ℕ) (c : Client) → KeepsStock c (cond t (record c { delivered = Some next }) c)
delivered_stock true next c = record { number = refl; resources = refl; queue = refl; taken = le_refl c.taken }
delivered_stock false next c = record { number = refl; resources = refl; queue = refl; taken = le_refl c.taken }

always_begin : (p : Plan) (w : World) → KeepsAlways w → Always (begin_answer p w)
unfolding begin_answer
always_begin p w h =
    let next = next_tick w.tick in
    let bounds = tick_by (w.tick == 4294967231) w.tick refl h.time.tick in
    always_clients w (deliver p w next) next bounds.0 bounds.1 (λ c. delivered_stays (is_attached p w c && not c.closed) w.tick next c bounds.0)
    (λ c q k. shelf_of_client (holds w) w.subs c (deliver p w next c) (delivered_stock (is_attached p w c && not c.closed) next c) k) h

-- A drawing

-- where the drawn frame alone changes
always_drawn : (w : World) (drawn : Option (List Sub))
    → ((subs : List Sub) (sub : Sub) → drawn ≡ Some subs → Contains subs sub → (s : Submission) × Contains w.subs s × (sub_of s ≡ sub))
    → ((s : Submission) → Contains w.subs s → is_in_flight drawn (sub_of s) ≡ true → holds w s ≡ true) → KeepsAlways w → KeepsAlways (record w { in_flight = drawn })
always_drawn w drawn flight draws h =
    subst (λ l. KeepsAlways (record w { surfaces = l; in_flight = drawn })) (map-id w.surfaces)
    (subst (λ l. KeepsAlways (record w { subs = l; surfaces = map (λ s. s) w.surfaces; in_flight = drawn })) (map-id w.subs)
    (always_parts w (λ s. s) (λ s. s) drawn (record {
      submitted = λ s. refl;
      surface = record { client = λ s. refl; number = λ s. refl; id = λ s. refl; born = λ s. refl };
      marks = λ s p e. e;
      safe = λ c s p o e i. i;
      states = states_keep (λ s. s) w.surfaces (map (λ s. s) w.surfaces) w.subs nothing_opens (λ s p o i. subst (λ l. stands_in l s.submitted.id ≡ true) (sym (map-id w.surfaces)) i) h.states;
      flight = flight_keeps (λ s. s) drawn w.subs (λ s. refl) flight;
      opens = λ s p e. e;
      draws = draws;
    }) h))

scene_frames : (root : SurfaceId) (active : List FrameData) (o : Option FrameData) (scene : Scene)
    → ◌≡◌ {A = Option Scene} (elim o [ Some i ↦ Some (record { root = root; active = active }) | None ↦ None ]) (Some scene) → active ≡ scene.active
scene_frames root active None scene h = absurd (cc)
scene_frames root active (Some i) scene h = cc

rooted_frames : (active : List FrameData) (root : Option SurfaceId) (scene : Scene) → option_and_then (λ (r : SurfaceId). scene_at r active) root ≡ Some scene
    → active ≡ scene.active
rooted_frames active None scene h = absurd (cc)
rooted_frames active (Some root) scene h = scene_frames root active (frame_on root active) scene h

-- what is walked is active
walked_active : (w : World) (scene : Scene) (visits : List Visit) (sub : Sub) → scene_of w ≡ Some scene → Contains (walked_subs scene visits) sub
    → (s : Submission) × Contains w.subs s × (is_active s ≡ true) × (sub_of s ≡ sub)
unfolding walked_subs scene_of
walked_active w scene visits sub e c =
    let m = contains_map (λ (i : FrameData). i.sub) (filter (λ (i : FrameData). list_any (goes_into i) visits) scene.active) sub c in
    let i = filter_at (λ (i : FrameData). list_any (goes_into i) visits) scene.active m.0 m.1 in
    let here = subst (λ l. Contains l m.0) (sym (rooted_frames (active_frames w.subs) w.root scene e)) i.0 in
    let s = contains_map (λ (s : Submission). s.submitted) (filter is_active w.subs) m.0 here in
    let a = filter_at is_active w.subs s.0 s.1 in
    (s.0, a.0, a.1, ap (λ (j : FrameData). j.sub) s.2 ∙ m.2)

walked_held : (w : World) (scene : Scene) (visits : List Visit) (s : Submission) → KeepsAlways w → scene_of w ≡ Some scene → Contains w.subs s
    → has_sub (walked_subs scene visits) (sub_of s) ≡ true → holds w s ≡ true
walked_held w scene visits s h e c k =
    let m = any_at (same_sub (sub_of s)) (walked_subs scene visits) k in
    let a = walked_active w scene visits m.0 e m.1 in
    let n = contains_at w.subs s c in
    let l = contains_at w.subs a.0 a.1 in
    let one = at_same w.subs n.0 l.0 s a.0 n.1 l.1 (subs_differ w.surfaces w.subs h.numbers n.0 l.0 s a.0 n.1 l.1 (ap (same_sub (sub_of s)) a.3 ∙ m.2)) in
    holds_from w s h.states c (inl (or_right (is_waiting s) (is_active s) (ap is_active one ∙ a.2)))

always_shown : (w : World) (scene : Scene) (visits : List Visit) → scene_of w ≡ Some scene → KeepsAlways w
    → KeepsAlways (record w { in_flight = Some (walked_subs scene visits) })
always_shown w scene visits e h =
    always_drawn w (Some (walked_subs scene visits))
    (λ subs sub same c.
    let list : walked_subs scene visits ≡ subs = cc in
    let a = walked_active w scene visits sub e (subst (λ l. Contains l sub) (sym list) c) in (a.0, a.1, a.3))
    (λ s c k. walked_held w scene visits s h e c k) h

pub always_seen : (p : Plan) (w : World) (scene : Scene) → scene_of w ≡ Some scene → KeepsAlways w → SceneCases p w scene Always
always_seen p w scene e h =
    let walked = walk_of p.size scene in
    let v : World = record w { in_flight = Some (walked_subs scene walked) } in
    record {
      much = h;
      unchanged = λ some none. always_besides w (Some (aggregation_of scene walked)) w.over w.root w.relations h;
      drawn = λ full. always_besides v (Some (aggregation_of scene walked)) v.over v.root v.relations (always_shown w scene walked e h);
    }

-- A step

-- what an event changes by itself
pub always_answer : (p : Plan) (w : World) (e : Event) → KeepsAlways w → KeepsAlways (answer_to p w e).world
unfolding answer_to done_answer
always_answer p w (event.Client c) h = always_client p w c h
always_answer p w event.Begin h = always_begin p w h
always_answer p w event.Draw h = drawing_cases p w Always h h (λ scene idle e. always_seen p w scene e h)
always_answer p w event.Done h = cond_both (is_some w.in_flight) _ _ Always (λ e. always_drawn w None (λ subs sub e c. absurd (cc)) (λ s c e. absurd (cc)) h) (λ e. h)
always_answer p w event.Over h = always_besides w w.last true w.root w.relations h

-- the worlds within a step: after its own change, after activation, collection and returns, and the one that is left
pub always_step : (p : Plan) (w : World) (e : Event) → KeepsAlways w → KeepsAlways (step_in p w e).world
unfolding step_in outcome_of
always_step p w e h =
    let settled = settle (answer_to p w e).world in
    let given = give_back (collect settled) in
    always_fed (presented_by w e) given (always_given (collect settled) (always_collect settled (always_settle (answer_to p w e).world (always_answer p w e h))))
