-- What is answered to an event, case by case.
use Rattle.std.proofs.Common.{◌≡◌, ℕ, Bool, true, false, ◌==◌, Option, Some, None, List, [], ◌∷◌, map, refl, ap, sym, ◌∙◌, cond}
use Rattle.std.specs.Option.{option_map}
use Rattle.std.proofs.lemmas.Bool.{and_parts, eqb-true}
use Rattle.std.specs.Prelude.{is_some, not, ◌&&◌}
use Rattle.std.specs.List.{list_any}
use Rattle.vz_geom.specs.Rectangle.{Rectangle, is_empty_rect}
use Rattle.vz_ids.specs.Ids.{same_sink}
use Rattle.vz_ids.specs.declared.FrameSinkId.{FrameSinkId}
use Rattle.vz_ids.specs.declared.LocalSurfaceId.{LocalSurfaceId}
use Rattle.vz_ids.specs.declared.SurfaceId.{SurfaceId}
use Rattle.vz_ids.specs.declared.Sub.{Sub}
use Rattle.vz_pixels.specs.Block.{Block}
use Rattle.vz_frame.specs.declared.frame.CompositorFrame.{CompositorFrame}
use Rattle.vz_frame.specs.declared.rules.Rule.{Rule}
use Rattle.vz_frame.specs.declared.message.Message.{Message}
use Rattle.vz_frame.specs.declared.message.Message.TheVariants.{Upload, Submit, DidNotProduce, Reclaim, SetRoot, Hierarchy, Await, Close}
use Rattle.vz_frame.specs.Frame.{first_broken}
use Rattle.vz_rules.specs.Plan.{Plan}
use Rattle.vz_rules.specs.declared.entry.Event.{Event}
use Rattle.vz_rules.specs.declared.entry.Event.TheVariants as event
use Rattle.vz_rules.specs.declared.entry.Reply.{Reply}
use Rattle.vz_rules.specs.declared.entry.Reply.TheVariants as reply
use Rattle.vz_rules.specs.declared.entry.Refusal.{Refusal}
use Rattle.vz_rules.specs.declared.entry.Refusal.TheVariants as refusal
use Rattle.vz_rules.specs.World.{World, Client, Surface, Resource, Scene, Aggregation, client_at, next_message, last_created}
use Rattle.vz_rules.specs.Scene.{scene_of}
use Rattle.vz_rules.specs.Messages.{Answer, says, taking, refused, unless_refused, first_some, when, in_use, put_resource, submit_refusal, accepted, hierarchy_refusal, relate, reclaim, answer_tick, mark_of, is_unknown, violates, has_other_size, reaches, is_known}
use Rattle.vz_rules.specs.Messages.{upload_answer, submit_answer, root_answer, hierarchy_answer, await_answer, message_answer, known_client_answer, client_answer}
use Rattle.vz_rules.specs.Step.{begin_answer, scene_answer, draw_answer, done_answer, answer_to, accepted_frames}
use Rattle.vz_rules.proofs.Rising.{find_test}
use Rattle.vz_rules.specs.Walk.{walk_of, too_much, walked_subs}
use Rattle.vz_rules.specs.Damage.{aggregation_of, drawn_damage}
use Rattle.vz_rules.specs.Whole.{is_in_time, is_aggregation}

-- the damage of a scene that is drawn in a world
abbrev pub damage_in : Plan → World → Scene → Rectangle
damage_in p w scene = drawn_damage p.size w.last (accepted_frames w) scene.root (walk_of p.size scene)

-- Refusals

-- it is not that a message comes too early or that none is left
abbrev pub IsTurned : Refusal → Type 0
IsTurned r = is_in_time (reply.Refused r) ≡ true

abbrev Turns : Option Refusal → Type 0
Turns o = (r : Refusal) → o ≡ Some r → IsTurned r

same_refusal : (r s : Refusal) → ◌≡◌ {A = Option Refusal} (Some r) (Some s) → r ≡ s
same_refusal r s e = cc

turns_first : (o : Option Refusal) (os : List (Option Refusal)) → Turns o → Turns (first_some os) → Turns (first_some (o ∷ os))
turns_first None os h k = k
turns_first (Some r) os h k = h

turns_none : Turns (first_some [])
turns_none r e = absurd (cc)

turns_when : (t : Bool) (r : Refusal) → IsTurned r → Turns (when t r)
turns_when true r h s e = ap (λ x. is_in_time (reply.Refused x)) (sym (same_refusal r s e)) ∙ h
turns_when false r h s e = absurd (cc)

turns_broken : (o : Option Rule) → Turns (option_map (λ rule. refusal.Malformed rule) o)
turns_broken None r e = absurd (cc)
turns_broken (Some rule) r e = ap (λ x. is_in_time (reply.Refused x)) (sym (same_refusal (refusal.Malformed rule) r e))

turns_submit : (o : Option Rule) (a b c : Bool)
    → Turns (first_some (option_map (λ rule. refusal.Malformed rule) o ∷ when a refusal.UnknownResource ∷ when b refusal.InvariantsViolation ∷ when c refusal.SizeMismatch ∷ []))
turns_submit o a b c =
    let last : List (Option Refusal) = when c refusal.SizeMismatch ∷ [] in
    let two : List (Option Refusal) = when b refusal.InvariantsViolation ∷ last in
    let three : List (Option Refusal) = when a refusal.UnknownResource ∷ two in
    turns_first (option_map (λ rule. refusal.Malformed rule) o) three (turns_broken o)
    (turns_first (when a refusal.UnknownResource) two (turns_when a refusal.UnknownResource refl)
    (turns_first (when b refusal.InvariantsViolation) last (turns_when b refusal.InvariantsViolation refl)
    (turns_first (when c refusal.SizeMismatch) [] (turns_when c refusal.SizeMismatch refl) turns_none)))

turns_hierarchy : (a b c : Bool) → Turns (first_some (when a refusal.Loop ∷ when b refusal.UnknownSink ∷ when c refusal.ParentOfOther ∷ []))
turns_hierarchy a b c =
    let last : List (Option Refusal) = when c refusal.ParentOfOther ∷ [] in
    let two : List (Option Refusal) = when b refusal.UnknownSink ∷ last in
    turns_first (when a refusal.Loop) two (turns_when a refusal.Loop refl)
    (turns_first (when b refusal.UnknownSink) last (turns_when b refusal.UnknownSink refl)
    (turns_first (when c refusal.ParentOfOther) [] (turns_when c refusal.ParentOfOther refl) turns_none))

-- The answers to messages

-- the answers to the messages of a client, but for those that are not given there
pub record MessageCases (w : World) (c : Client) (Q : Message → Answer → Type 0) : Type 0 where
  pub turned : (m : Message) (r : Refusal) → IsTurned r → Q m (refused w c r)
  pub not_yet : Q Await (says (reply.Refused refusal.NotYet) w)
  pub stored : (id : ℕ) (block : Block) → in_use c.resources id ≡ false
      → Q (Upload id block) (says reply.Stored (taking (λ x. record x { resources = put_resource id block x.resources }) c w))
  pub submitted : (local : LocalSurfaceId) (frame : CompositorFrame) → submit_refusal (last_created w c.number) c.resources local frame ≡ None
      → Q (Submit frame local) (accepted w c local frame)
  pub noted : (n : ℕ) → Q (DidNotProduce n) (says reply.Noted (taking (answer_tick w.tick n) c w))
  pub reclaimed : Q Reclaim (says (reply.Reclaimed c.queue) (taking reclaim c w))
  pub rooted : (local : LocalSurfaceId) (root : Option SurfaceId) → Q (SetRoot local) (says reply.Rooted (record (taking (λ x. x) c w) { root = root }))
  pub joined : (parent child : FrameSinkId) → hierarchy_refusal w c parent child ≡ None
      → Q (Hierarchy parent child) (says reply.Joined (record (taking (λ x. x) c w) { relations = relate parent child w.relations }))
  pub began : (n : ℕ) → c.delivered ≡ Some n → Q Await (says (reply.Began n) (taking (λ (x : Client). record x { delivered = None }) c w))
  pub over : Q Await (says reply.Over (taking (λ x. x) c w))
  pub left : Q Close (says reply.Left (record (taking (λ (x : Client). record x { closed = true }) c w) { surfaces = map (mark_of c.number) w.surfaces }))

by_refusal : (w : World) (c : Client) (Q : Answer → Type 0) (o : Option Refusal) (a : Answer) → Turns o
    → ((r : Refusal) → IsTurned r → Q (refused w c r)) → (o ≡ None → Q a) → Q (unless_refused w c o a)
by_refusal w c Q None a t h k = k refl
by_refusal w c Q (Some r) a t h k = h r (t r refl)

by_test : (Q : Answer → Type 0) (t : Bool) (a b : Answer) → (t ≡ true → Q a) → (t ≡ false → Q b) → Q (cond t a b)
by_test Q true a b h k = h refl
by_test Q false a b h k = k refl

awaits_by : (Q : Answer → Type 0) (d : Option ℕ) (f : ℕ → Answer) (t : Bool) (a b : Answer) → ((n : ℕ) → d ≡ Some n → Q (f n)) → Q a → Q b
    → Q (elim d [ Some n ↦ f n | None ↦ cond t a b ])
awaits_by Q (Some n) f t a b h k l = h n refl
awaits_by Q None f true a b h k l = k
awaits_by Q None f false a b h k l = l

pub message_cases : (w : World) (c : Client) (Q : Message → Answer → Type 0) → MessageCases w c Q → (m : Message) → Q m (message_answer w c m)
unfolding message_answer upload_answer submit_answer submit_refusal root_answer hierarchy_answer hierarchy_refusal await_answer
message_cases w c Q h (Upload id block) =
    by_test (Q (Upload id block)) (in_use c.resources id) _ _ (λ e. h.turned (Upload id block) refusal.InUse refl) (h.stored id block)
message_cases w c Q h (Submit frame local) =
    by_refusal w c (Q (Submit frame local)) (submit_refusal (last_created w c.number) c.resources local frame) _
    (turns_submit (first_broken frame) (list_any (is_unknown c.resources) frame.resources) (violates (last_created w c.number) local) (has_other_size (last_created w c.number) local frame))
    (h.turned (Submit frame local)) (h.submitted local frame)
message_cases w c Q h (DidNotProduce n) = h.noted n
message_cases w c Q h Reclaim = h.reclaimed
message_cases w c Q h (SetRoot local) =
    by_test (Q (SetRoot local)) (c.number == 1) _ _ (λ e. h.rooted local _) (λ e. h.turned (SetRoot local) refusal.NotRoot refl)
message_cases w c Q h (Hierarchy parent child) =
    by_refusal w c (Q (Hierarchy parent child)) (hierarchy_refusal w c parent child) _
    (turns_hierarchy (reaches w.relations child parent) (not (is_known w parent && is_known w child)) (not (same_sink parent c.sink)))
    (h.turned (Hierarchy parent child)) (h.joined parent child)
message_cases w c Q h Await = awaits_by (Q Await) c.delivered _ w.over _ _ h.began h.over h.not_yet
message_cases w c Q h Close = h.left

-- The answers to clients

abbrev GivenTo : Plan → Client → (Answer → Type 0) → Message → Answer → Type 0
GivenTo p c Q m a = next_message p c ≡ Some m → Q a

messages_by : (p : Plan) (w : World) (c : Client) (Q : Answer → Type 0) → Q (says (reply.Refused refusal.NoMessage) w) → ((m : Message) → next_message p c ≡ Some m → Q (refused w c refusal.AlreadyClosed))
    → (c.closed ≡ false → MessageCases w c (GivenTo p c Q)) → (o : Option Message) → next_message p c ≡ o
    → Q (elim o [ None ↦ says (reply.Refused refusal.NoMessage) w | Some m ↦ cond c.closed (refused w c refusal.AlreadyClosed) (message_answer w c m) ])
messages_by p w c Q h r k None e = h
messages_by p w c Q h r k (Some m) e = by_test Q c.closed _ _ (λ t. r m e) (λ t. message_cases w c (GivenTo p c Q) (k t) m e)

-- a client is found by its number
pub number_at : (w : World) (n : ℕ) (c : Client) → client_at w n ≡ Some c → c.number ≡ n
number_at w n c e = eqb-true c.number n (find_test (λ (x : Client). x.number == n) w.clients c e)

-- what holds of each answer to a message of a client that is not closed holds of that to a client's event
pub open_cases : (p : Plan) (w : World) (n : ℕ) (Q : Answer → Type 0) → Q (says (reply.Refused refusal.NoMessage) w)
    → ((c : Client) → client_at w n ≡ Some c → c.number ≡ n → (m : Message) → next_message p c ≡ Some m → Q (refused w c refusal.AlreadyClosed))
    → ((c : Client) → client_at w n ≡ Some c → c.number ≡ n → c.closed ≡ false → MessageCases w c (GivenTo p c Q)) → Q (client_answer p w n)
unfolding client_answer known_client_answer
open_cases p w n Q h r k = by (client_at w n) refl
  where
    by : (o : Option Client) → client_at w n ≡ o → Q (elim o [ None ↦ says (reply.Refused refusal.NoMessage) w | Some x ↦ known_client_answer p w x ])
    by None e = h
    by (Some c) e = let number = number_at w n c e in messages_by p w c Q h (r c e number) (k c e number) (next_message p c) refl

-- what holds of each answer to a message holds of that to a client's event
pub client_cases : (p : Plan) (w : World) (n : ℕ) (Q : Answer → Type 0) → Q (says (reply.Refused refusal.NoMessage) w)
    → ((c : Client) → client_at w n ≡ Some c → c.number ≡ n → MessageCases w c (GivenTo p c Q)) → Q (client_answer p w n)
client_cases p w n Q h k = open_cases p w n Q h (λ c e number m at. (k c e number).turned m refusal.AlreadyClosed refl at) (λ c e number open_now. k c e number)

-- a reply accepts a submission
abbrev pub is_acceptance : Reply → Bool
is_acceptance r = elim r [ reply.Accepted ordinal index ↦ true | _ ↦ false ]

-- the answers to a client's event by what they change: clients, the root and relations, or submissions, or surfaces
pub record FewCases (p : Plan) (w : World) (n : ℕ) (Q : Answer → Type 0) : Type 0 where
  pub others : (r : Reply) → is_aggregation r ≡ false → is_acceptance r ≡ false → (clients : List Client) (root : Option SurfaceId) (relations : List (FrameSinkId × FrameSinkId))
      → Q (says r (record w { clients = clients; root = root; relations = relations }))
  pub submitted : (c : Client) → client_at w n ≡ Some c → c.number ≡ n → (local : LocalSurfaceId) (frame : CompositorFrame)
      → submit_refusal (last_created w c.number) c.resources local frame ≡ None → next_message p c ≡ Some (Submit frame local) → Q (accepted w c local frame)
  pub left : (c : Client) (clients : List Client) → Q (says reply.Left (record w { clients = clients; surfaces = map (mark_of c.number) w.surfaces }))

pub few_cases : (p : Plan) (w : World) (n : ℕ) (Q : Answer → Type 0) → FewCases p w n Q → Q (client_answer p w n)
few_cases p w n Q h =
    client_cases p w n Q (h.others _ refl refl _ _ _) (λ c e number. record {
      turned = λ m r timely at. h.others _ refl refl _ _ _;
      not_yet = λ at. h.others _ refl refl _ _ _;
      stored = λ id block free at. h.others _ refl refl _ _ _;
      submitted = λ local frame good at. h.submitted c e number local frame good at;
      noted = λ m at. h.others _ refl refl _ _ _;
      reclaimed = λ at. h.others _ refl refl _ _ _;
      rooted = λ local root at. h.others _ refl refl _ _ _;
      joined = λ parent child good at. h.others _ refl refl _ _ _;
      began = λ m d at. h.others _ refl refl _ _ _;
      over = λ at. h.others _ refl refl _ _ _;
      left = λ at. h.left c _;
    })

-- what a submission that is accepted did not break
pub not_refused : (last : Option Surface) (resources : List Resource) (local : LocalSurfaceId) (frame : CompositorFrame) → submit_refusal last resources local frame ≡ None
    → (first_broken frame ≡ None) × (list_any (is_unknown resources) frame.resources ≡ false) × (violates last local ≡ false) × (has_other_size last local frame ≡ false)
unfolding submit_refusal
not_refused last resources local frame h = by (first_broken frame) (list_any (is_unknown resources) frame.resources) (violates last local) (has_other_size last local frame) h
  where
    by : (o : Option Rule) (a b c : Bool)
        → first_some (option_map (λ rule. refusal.Malformed rule) o ∷ when a refusal.UnknownResource ∷ when b refusal.InvariantsViolation ∷ when c refusal.SizeMismatch ∷ []) ≡ None
        → (o ≡ None) × (a ≡ false) × (b ≡ false) × (c ≡ false)
    by (Some rule) a b c h = absurd (cc)
    by None true b c h = absurd (cc)
    by None false true c h = absurd (cc)
    by None false false true h = absurd (cc)
    by None false false false h = (refl, refl, refl, refl)

-- an event is this client's
abbrev pub is_event_of : ℕ → Event → Bool
is_event_of c e = elim e [ event.Client d ↦ d == c | _ ↦ false ]

-- The answers to the display

-- the answers to the events of the display
pub record DisplayCases (p : Plan) (w : World) (Q : Event → Answer → Type 0) : Type 0 where
  pub begins : Q event.Begin (begin_answer p w)
  pub draws : (r : Reply) → is_acceptance r ≡ false → (last : Option Aggregation) (in_flight : Option (List Sub)) → Q event.Draw (says r (record w { last = last; in_flight = in_flight }))
  pub dones : (r : Reply) → is_acceptance r ≡ false → (in_flight : Option (List Sub)) → Q event.Done (says r (record w { in_flight = in_flight }))
  pub overs : Q event.Over (says reply.Ended (record w { over = true }))

-- what holds of the answers to a drawing in a scene, by what each one tests
pub record SceneCases (p : Plan) (w : World) (scene : Scene) (Q : Answer → Type 0) : Type 0 where
  pub much : Q (says reply.TooMuch w)
  pub unchanged : is_some w.last ≡ true → is_empty_rect (damage_in p w scene) ≡ true
      → Q (says reply.Unchanged (record w { last = Some (aggregation_of scene (walk_of p.size scene)) }))
  pub drawn : (is_some w.last && is_empty_rect (damage_in p w scene)) ≡ false
      → Q (says (reply.Drawn (damage_in p w scene)) (record w { last = Some (aggregation_of scene (walk_of p.size scene)); in_flight = Some (walked_subs scene (walk_of p.size scene)) }))

pub scene_cases : (p : Plan) (w : World) (scene : Scene) (Q : Answer → Type 0) → SceneCases p w scene Q → Q (scene_answer p w scene)
unfolding scene_answer
scene_cases p w scene Q h =
    by_test Q (too_much (walk_of p.size scene)) _ _ (λ e. h.much) (λ e. by_test Q (is_some w.last && is_empty_rect (damage_in p w scene)) _ _
    (λ f. let both = and_parts (is_some w.last) (is_empty_rect (damage_in p w scene)) f in h.unchanged both.0 both.1)
    h.drawn)

-- what holds of the answers to a drawing, with the scene of the world
pub drawing_cases : (p : Plan) (w : World) (Q : Answer → Type 0) → Q (says reply.Busy w) → Q (says reply.NoRoot w)
    → ((scene : Scene) → is_some w.in_flight ≡ false → scene_of w ≡ Some scene → SceneCases p w scene Q) → Q (draw_answer p w)
unfolding draw_answer
drawing_cases p w Q busy none h = by_test Q (is_some w.in_flight) _ _ (λ e. busy) (λ idle. by idle (scene_of w) refl)
  where
    by : is_some w.in_flight ≡ false → (s : Option Scene) → scene_of w ≡ s → Q (elim s [ Some scene ↦ scene_answer p w scene | None ↦ says reply.NoRoot w ])
    by idle None e = none
    by idle (Some scene) e = scene_cases p w scene Q (h scene idle e)

draw_by : (p : Plan) (w : World) (Q : Event → Answer → Type 0) → DisplayCases p w Q → Q event.Draw (draw_answer p w)
draw_by p w Q h =
    drawing_cases p w (Q event.Draw) (h.draws reply.Busy refl w.last w.in_flight) (h.draws reply.NoRoot refl w.last w.in_flight) (λ scene idle e. record {
      much = h.draws reply.TooMuch refl w.last w.in_flight;
      unchanged = λ some none. h.draws reply.Unchanged refl _ w.in_flight;
      drawn = λ full. h.draws (reply.Drawn _) refl _ _;
    })

done_by : (p : Plan) (w : World) (Q : Event → Answer → Type 0) → DisplayCases p w Q → Q event.Done (done_answer w)
unfolding done_answer
done_by p w Q h = by_test (Q event.Done) (is_some w.in_flight) _ _ (λ e. h.dones reply.Shown refl None) (λ e. h.dones reply.Nothing refl w.in_flight)

-- what holds of each answer to a client and to the display holds of each answer
pub answer_cases : (p : Plan) (w : World) (Q : Event → Answer → Type 0) → ((n : ℕ) → Q (event.Client n) (client_answer p w n)) → DisplayCases p w Q → (e : Event) → Q e (answer_to p w e)
unfolding answer_to
answer_cases p w Q h k (event.Client n) = h n
answer_cases p w Q h k event.Begin = k.begins
answer_cases p w Q h k event.Draw = draw_by p w Q k
answer_cases p w Q h k event.Done = done_by p w Q k
answer_cases p w Q h k event.Over = k.overs
