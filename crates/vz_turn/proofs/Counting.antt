-- How many returns a reply has.
use Rattle.std.proofs.Common.{◌≡◌, ℕ, ◌+◌, ◌*◌, ◌<◌, ◌≤◌, Bool, true, ◌==◌, Option, Some, None, List, [], ◌∷◌, length, refl, ap, sym, ◌∙◌, arith, cond, Contains, sum_by, is_some}
use Rattle.std.specs.Prelude.{nat_lt}
use Rattle.std.proofs.{lemmas.Bool.eq-eqb, lemmas.Bool.lt-ltb, lemmas.List.Sums.sum_by-cons, lemmas.Bool.Decides.nat_tests}
use Rattle.vz_base.specs.declared.limits.TheConstants.{GREATEST_NUMBER, MOST_MESSAGES}
use Rattle.vz_frame.specs.declared.message.Message.{Message}
use Rattle.vz_rules.specs.{Plan.Plan, Plan.IsPlan, Scene.scene_of}
use Rattle.vz_rules.specs.World.{World, Client, Resource, Scene, client_at, next_message}
use Rattle.vz_rules.specs.Messages.{Answer, says, refused, upload_answer, submit_answer, accepted, root_answer, hierarchy_answer, await_answer, message_answer, known_client_answer, client_answer}
use Rattle.vz_rules.specs.Step.{begin_answer, scene_answer, draw_answer, done_answer, answer_to, outcome_of, step_in, entry_in, world}
use Rattle.vz_rules.specs.{declared.entry.Entry.Entry, declared.entry.Event.Event, declared.entry.Reply.Reply, declared.entry.Returned.Returned}
use Rattle.vz_rules.specs.declared.entry.Event.TheVariants as event
use Rattle.vz_rules.specs.declared.entry.Reply.TheVariants as reply
use Rattle.vz_rules.specs.declared.entry.Refusal.TheVariants as refusal
use Rattle.vz_rules.specs.Kept.{KeepsAlways, KeepsPlan, KeepsMessages, KeepsReturn, count_of}
use Rattle.vz_rules.proofs.Members.{contains_here, contains_there, contains_cases, contains_none, find_at}
use Rattle.vz_rules.proofs.{Kept_returns.storing, Kept_few.lists_short}
use Rattle.vz_rules.proofs.{Kept_first.keeps_world, Kept_planned.plan_world, Kept_sending.messages_world, Kept_small.small_resource}
use Rattle.vz_turn.specs.Briefs.{brief_in}
use Rattle.vz_turn.specs.declared.brief.Brief.TheVariants as brief
use Rattle.vz_turn.specs.declared.brief.ClientBrief.TheVariants as client

-- Sums

sum_more : {B : Type 0} (f g : B → ℕ) (ys : List B) → ((y : B) → f y ≤ g y) → sum_by f ys ≤ sum_by g ys
sum_more f g [] h = omega arith
sum_more f g (y ∷ ys) h = omega (arith, sum_by-cons f y ys, sum_by-cons g y ys, h y, sum_more f g ys h)

-- one term is greater
sum_one_more : {B : Type 0} (f g : B → ℕ) (ys : List B) (z : B) → ((y : B) → f y ≤ g y) → Contains ys z → f z + 1 ≤ g z → sum_by f ys + 1 ≤ sum_by g ys
sum_one_more f g [] z h c one = absurd (contains_none z c)
sum_one_more f g (y ∷ ys) z h c one = grind (arith, nat_tests, contains_cases y z ys c, sum_by-cons f y ys, sum_by-cons g y ys, sum_more f g ys h, sum_one_more f g ys z h)

sum_up_to : {B : Type 0} (f : B → ℕ) (m : ℕ) (ys : List B) → ((y : B) → Contains ys y → f y ≤ m) → sum_by f ys ≤ length ys * m
sum_up_to f m [] h = omega arith
sum_up_to f m (y ∷ ys) h = grind (arith, sum_by-cons f y ys, h y (contains_here y ys), sum_up_to f m ys (λ z c. h z (contains_there y z ys c)))

-- The queue of a client

counts : (t : Bool) (n : ℕ) → t ≡ true → cond t n 0 ≡ n
counts t n e = grind (arith, nat_tests)

-- each return has at least one reference of a resource
returns_counted : (c : ℕ) (resources : List Resource) (queue : List Returned) → ((r : Returned) → Contains queue r → KeepsReturn c resources r)
    → length queue ≤ sum_by (λ s. sum_by (count_of s.id) queue) resources
returns_counted c resources [] h = omega arith
returns_counted c resources (r ∷ queue) h =
    let later = returns_counted c resources queue (λ q m. h q (contains_there r q queue m)) in
    let k = h r (contains_here r queue) in
    let s = k.known in
    let counted = counts (r.id == s.0.id) r.count (eq-eqb r.id s.0.id (sym s.2)) in
    let more = sum_one_more (λ (x : Resource). sum_by (count_of x.id) queue) (λ (x : Resource). sum_by (count_of x.id) (r ∷ queue)) resources s.0 (λ x. omega (arith, sum_by-cons (count_of x.id) r queue)) s.1
    (omega (arith, sum_by-cons (count_of s.0.id) r queue, counted, k.some)) in
    omega (arith, later, more)

few_returns : (p : Plan) (w : World) (c : Client) → IsPlan p → KeepsAlways w → KeepsPlan p w → KeepsMessages w → Contains w.clients c → length c.queue < GREATEST_NUMBER
few_returns p w c is a h k q =
    let first = returns_counted c.number c.resources c.queue (a.shelves c q).returns in
    let second = sum_up_to (λ (s : Resource). sum_by (count_of s.id) c.queue) MOST_MESSAGES c.resources (λ s m. let t = (a.shelves c q).totals s m in omega (arith, t.in_queue, t.queued, (small_resource p w is a h c s q m).lent)) in
    omega (arith, first, second, (lists_short p w is a h k).resources c q)

-- The replies

-- a reply has few returns
is_short : Reply → Bool
is_short (reply.Reclaimed returns) = nat_lt (length returns) GREATEST_NUMBER
is_short _ = true

abbrev Short : Answer → Type 0
Short a = is_short a.reply ≡ true

short_by : (t : Bool) (a b : Answer) → Short a → Short b → Short (cond t a b)
short_by t a b h k = grind (arith, nat_tests)

short_known : (p : Plan) (w : World) (c : Client) (o : Option Message) → IsPlan p → KeepsAlways w → KeepsPlan p w → KeepsMessages w → Contains w.clients c
    → Short (elim o [ None ↦ says (reply.Refused refusal.NoMessage) w | Some m ↦ cond c.closed (refused w c refusal.AlreadyClosed) (message_answer w c m) ])
unfolding is_short message_answer upload_answer submit_answer accepted root_answer hierarchy_answer await_answer
short_known p w c o is a h k q = grind (arith, nat_tests, storing, lt-ltb, few_returns)

short_client : (p : Plan) (w : World) (n : ℕ) (o : Option Client) → client_at w n ≡ o → IsPlan p → KeepsAlways w → KeepsPlan p w → KeepsMessages w
    → Short (elim o [ None ↦ says (reply.Refused refusal.NoMessage) w | Some x ↦ known_client_answer p w x ])
unfolding known_client_answer is_short
short_client p w n None e is a h k = refl
short_client p w n (Some c) e is a h k = short_known p w c (next_message p c) is a h k (find_at (λ (x : Client). x.number == n) w.clients c e).0

short_scene : (p : Plan) (w : World) (scene : Scene) → Short (scene_answer p w scene)
unfolding scene_answer is_short
short_scene p w scene = grind (arith, nat_tests)

short_seen : (p : Plan) (w : World) (o : Option Scene) → Short (elim o [ Some scene ↦ scene_answer p w scene | None ↦ says reply.NoRoot w ])
unfolding is_short
short_seen p w None = refl
short_seen p w (Some scene) = short_scene p w scene

short_answer : (p : Plan) (w : World) (e : Event) → IsPlan p → KeepsAlways w → KeepsPlan p w → KeepsMessages w → Short (answer_to p w e)
unfolding answer_to client_answer begin_answer draw_answer done_answer is_short
short_answer p w (event.Client c) is a h k = short_client p w c (client_at w c) refl is a h k
short_answer p w event.Begin is a h k = refl
short_answer p w event.Draw is a h k = short_by (is_some w.in_flight) (says reply.Busy w) _ refl (short_seen p w (scene_of w))
short_answer p w event.Done is a h k = short_by (is_some w.in_flight) (says reply.Shown _) (says reply.Nothing w) refl refl
short_answer p w event.Over is a h k = refl

exact : (returns : List Returned) → nat_lt (length returns) GREATEST_NUMBER ≡ true → brief_in (reply.Reclaimed returns) ≡ brief.Client (client.Reclaimed (length returns))
exact returns short = ap (λ (t : Bool). brief.Client (client.Reclaimed (cond t (length returns) GREATEST_NUMBER))) short

exact_at : (r : Reply) (returns : List Returned) → is_short r ≡ true → r ≡ reply.Reclaimed returns → brief_in r ≡ brief.Client (client.Reclaimed (length returns))
unfolding is_short
exact_at r returns short is = ap brief_in is ∙ exact returns (ap is_short (sym is) ∙ short)

-- the brief of a reply has the exact number of its returns
pub exact_brief : (p : Plan) (h : List Entry) (e : Event) (returns : List Returned) → IsPlan p → (entry_in p (world p h) e).reply ≡ reply.Reclaimed returns
    → brief_in (entry_in p (world p h) e).reply ≡ brief.Client (client.Reclaimed (length returns))
unfolding entry_in step_in outcome_of
exact_brief p h e returns is there = exact_at (answer_to p (world p h) e).reply returns (short_answer p (world p h) e is (keeps_world p h is).always (plan_world p h is) (messages_world p h is)) there
