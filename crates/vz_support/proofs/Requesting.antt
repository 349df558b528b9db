-- What is answered by what is kept for all clients is what the machine answers.
use Rattle.std.proofs.Common.{◌≡◌, ℕ, Bool, true, false, ◌&&◌, ◌==◌, Option, Some, None, List, [], ◌∷◌, map, refl, ap, sym, ◌∙◌, subst}
use Rattle.std.proofs.Common.{cond, if◌then◌else◌, arith, option_and_then, Contains}
use Rattle.std.proofs.{lemmas.Bool.eq-eqb, lemmas.Bool.eqb-true, lemmas.Bool.Decides.nat_tests}
use Rattle.vz_ids.specs.{declared.FrameSinkId.FrameSinkId, declared.LocalSurfaceId.LocalSurfaceId, declared.SurfaceId.SurfaceId}
use Rattle.vz_frame.specs.declared.message.Message.{Message}
use Rattle.vz_frame.specs.{declared.message.Message.TheVariants.SetRoot, declared.message.Message.TheVariants.Hierarchy, Frame.first_of}
use Rattle.vz_rules.specs.declared.entry.Reply.TheVariants as reply
use Rattle.vz_rules.specs.declared.entry.Refusal.TheVariants as refusal
use Rattle.vz_rules.specs.{Plan.Plan, Kept.KeepsClients}
use Rattle.vz_rules.specs.World.{World, Client, client_at, change_client, first_sink}
use Rattle.vz_rules.specs.Messages.{Answer, took, taking, says, refused, unless_refused, id_of, relate, reaches, root_answer}
use Rattle.vz_rules.specs.Messages.{hierarchy_answer, hierarchy_refusal, await_answer}
use Rattle.vz_rules.proofs.Members.{contains_map, find_at, map_fixed}
use Rattle.vz_support.specs.{Sent.Sender, Sent.sender_at, Sent.taking_one, Changed.ChangesOne, Sending.AreSenders}
use Rattle.vz_support.proofs.{Messaging.follows_begun, Asking.kept_of, Asking.stands_same}
use Rattle.vz_sinks.specs.declared.refusals.SinkError.{SinkError}
use Rattle.vz_sinks.specs.declared.refusals.SinkError.TheVariants as error
use Rattle.vz_sinks.specs.Relating.{Related, seat_of, take_one, standing, refusal_for, refusal_in, refusal_of, is_known_in, is_own}
use Rattle.vz_sinks.proofs.Same_seats.{refused_as}
use Rattle.vz_support.specs.{Supporting.Supported, Supporting.IsSupport, Supporting.Sends, Relations.reply_for, Relations.relations_for}
use Rattle.vz_support.proofs.Taking.{number_is, sent_is, here_is, some_is, changes_at, takes_plain}
pub use Rattle.std.proofs.lemmas.Bool.{ne_eqb as other_number, eq-eqb as one_number}
pub use Rattle.vz_rules.proofs.Kept_submits.{one_of_number as same_client}

-- The parts

-- what is kept stands for a state where each of its parts does
pub makes : (p : Plan) (u : World) (v : Supported) → AreSenders p u v.clients → first_sink p ≡ Some v.sinks.first
    → v.sinks.seats ≡ map seat_of u.clients
    → v.sinks.relations ≡ u.relations → v.tick ≡ u.tick → v.root ≡ u.root → v.over ≡ u.over → IsSupport p u v
makes p u v senders first seats relations tick root over = grind (arith, nat_tests)

pub seats_are : (p : Plan) (w : World) (v : Supported) → IsSupport p w v → v.sinks.seats ≡ map seat_of w.clients
seats_are p w v is = ap (λ (r : Related). r.seats) is.sinks

pub relations_are : (p : Plan) (w : World) (v : Supported) → IsSupport p w v → v.sinks.relations ≡ w.relations
relations_are p w v is = ap (λ (r : Related). r.relations) is.sinks

pub first_is : (p : Plan) (w : World) (v : Supported) (s : Related) → IsSupport p w v → s.first ≡ v.sinks.first
    → first_sink p ≡ Some s.first
first_is p w v s is same = is.first ∙ ap (λ z. Some z) (sym same)

-- The root

pub same_local_id : (a b : LocalSurfaceId) → ◌≡◌ {A = Option Message} (Some (SetRoot a)) (Some (SetRoot b)) → a ≡ b
same_local_id a b e = cc

pub not_root : (w : World) (x : Client) (local : LocalSurfaceId) → (x.number == 1) ≡ false
    → root_answer w x local ≡ refused w x refusal.NotRoot
unfolding root_answer
not_root w x local e = grind (arith, nat_tests)

pub rooted : (w : World) (x : Client) (local : LocalSurfaceId) → (x.number == 1) ≡ true
    → root_answer w x local ≡ says reply.Rooted (record (taking (λ y. y) x w) { root = Some (id_of x local) })
unfolding root_answer
rooted w x local e = grind (arith, nat_tests)

-- Relations

never_memory : (a b o : Bool) → refusal_for a b o ≡ Some error.Memory → ⊥
unfolding refusal_for
never_memory true b o e = absurd (cc)
never_memory false false o e = absurd (cc)
never_memory false true false e = absurd (cc)
never_memory false true true e = absurd (cc)

pub no_memory : (h : Related) (c : ℕ) (parent child : FrameSinkId) → refusal_in h c parent child ≡ Some error.Memory → ⊥
unfolding refusal_in
no_memory h c parent child e =
    never_memory (reaches h.relations child parent) (is_known_in h.seats parent && is_known_in h.seats child) (is_own h.seats c parent) e

said : (w : World) (x : Client) (a : Answer) (o : Option SinkError) → (o ≡ Some error.Memory → ⊥) → a.reply ≡ reply.Joined
    → reply_for o ≡ (unless_refused w x (option_and_then refusal_of o) a).reply
said w x a o h e = grind (arith, nat_tests)

-- by why a relation is refused, the state is one or the other
left_by : (w : World) (x : Client) (a : Answer) (parent child : FrameSinkId) (rs : List (FrameSinkId × FrameSinkId))
    (Q : World → List (FrameSinkId × FrameSinkId) → Type 0) (o : Option SinkError)
    → (o ≡ Some error.Memory → ⊥) → Q a.world (relate parent child rs) → Q (taking (λ y. y) x w) rs
    → Q (unless_refused w x (option_and_then refusal_of o) a).world (relations_for o parent child rs)
left_by w x a parent child rs _ o h joined turned = grind (arith, nat_tests)

-- the relation of a message
same_relation : (a b d e : FrameSinkId) → ◌≡◌ {A = Option Message} (Some (Hierarchy a b)) (Some (Hierarchy d e)) → (a ≡ d) × (b ≡ e)
same_relation a b d e f = (cc, cc)

-- Begin-frames

one_begun : (t : Bool) (x : Client)
    → seat_of (cond t (took (record x { delivered = None })) x) ≡ cond t (record (seat_of x) { delivered = None }) (seat_of x)
one_begun true x = refl
one_begun false x = refl

begun_seats : (c : ℕ) (xs : List Client)
    → map seat_of (change_client (λ (y : Client). took (record y { delivered = None })) c xs) ≡ map (take_one c) (map seat_of xs)
begun_seats c [] = refl
begun_seats c (x ∷ xs) = λ i. one_begun (x.number == c) x i ∷ begun_seats c xs i

-- where a client has no begin-frame, none is taken
none_taken : (w : World) (c : ℕ) (x : Client) → KeepsClients w.clients → client_at w c ≡ Some x → x.delivered ≡ None
    → map (take_one c) (map seat_of w.clients) ≡ map seat_of w.clients
none_taken w c x keeps here none =
    map_fixed (take_one c) (map seat_of w.clients)
    (λ s held.
    let m = contains_map seat_of w.clients s held in
    subst (λ z. take_one c z ≡ z) m.2 (kept m.0 m.1 (m.0.number == c) refl))
  where
    found : Contains w.clients x × ((x.number == c) ≡ true)
    found = find_at (λ (z : Client). z.number == c) w.clients x here

    kept : (y : Client) → Contains w.clients y → (t : Bool) → (y.number == c) ≡ t
        → cond t (record (seat_of y) { delivered = None }) (seat_of y) ≡ seat_of y
    kept y cy false e = refl
    kept y cy true e =
        let same : x ≡ y = same_client w.clients x y keeps found.0 cy (eqb-true x.number c found.1 ∙ sym (eqb-true y.number c e)) in
        λ i. record (seat_of y) { delivered = (sym none ∙ ap (λ (z : Client). z.delivered) same) i }

-- what awaiting answers, by the begin-frame that stands and by whether it is over
abbrev pub await_by : World → Client → Option ℕ → Bool → Answer
await_by w x (Some n) over = says (reply.Began n) (taking (λ (y : Client). record y { delivered = None }) x w)
await_by w x None over = if over then says reply.Over (taking (λ y. y) x w) else says (reply.Refused refusal.NotYet) w

by_delivered : (w : World) (x : Client) (o : Option ℕ)
    → elim o as (λ o. Answer) [
      | Some n ↦ says (reply.Began n) (taking (λ (y : Client). record y { delivered = None }) x w)
      | None ↦ if w.over then says reply.Over (taking (λ y. y) x w) else says (reply.Refused refusal.NotYet) w
    ]
    ≡ await_by w x o w.over
by_delivered w x (Some n) = refl
by_delivered w x None = refl

pub none_of : (o : Option ℕ) → ((n : ℕ) → o ≡ Some n → ⊥) → o ≡ None
none_of None h = refl
none_of (Some n) h = absurd (h n refl)

pub awaits : (w : World) (x : Client) → await_answer w x ≡ await_by w x x.delivered w.over
unfolding await_answer
awaits w x = by_delivered w x x.delivered

module _ (p : Plan) (w : World) (v : Supported) (c : ℕ) (x : Client) (m : Message) (sends : Sends p w c x m) (is : IsSupport p w v) where
  -- the sink of a client that took a message
  sink_is : (new : List Sender) → ChangesOne c taking_one v.clients new → (sender_at new c).sink ≡ x.sink
  sink_is new changes = grind (arith, nat_tests, some_is p w v c x m sends is, eq-eqb c c refl, kept_of p w v c x is sends.here)

  pub refuses_root : (local : LocalSurfaceId) (new : List Sender) → (c == 1) ≡ false → ChangesOne c taking_one v.clients new
      → IsSupport p (root_answer w x local).world (record v { clients = new })
  refuses_root local new other changes = grind (arith, nat_tests, not_root w x local, number_is p w v c x m sends is, takes_plain p w v c x m sends is new changes)

  pub says_not_root : (local : LocalSurfaceId) → (c == 1) ≡ false → reply.Refused refusal.NotRoot ≡ (root_answer w x local).reply
  says_not_root local other =
      ap (λ (a : Answer). a.reply) (sym (not_root w x local (ap (λ n. n == 1) (number_is p w v c x m sends is) ∙ other)))

  pub names_root : (local : LocalSurfaceId) (new : List Sender) (id : SurfaceId) → (c == 1) ≡ true → ChangesOne c taking_one v.clients new
      → id.sink ≡ (sender_at new c).sink → id.local ≡ local
      → IsSupport p (root_answer w x local).world (record v { clients = new; root = Some id })
  names_root local new id one changes sink same =
      let t = takes_plain p w v c x m sends is new changes in
      subst (λ (a : Answer). IsSupport p a.world (record v { clients = new; root = Some id }))
      (sym (rooted w x local (ap (λ n. n == 1) (number_is p w v c x m sends is) ∙ one)))
      (makes p (record (taking (λ y. y) x w) { root = Some (id_of x local) }) (record v { clients = new; root = Some id })
      (record { count = t.clients.count; each = t.clients.each }) t.first (ap (λ (r : Related). r.seats) t.sinks)
      (ap (λ (r : Related). r.relations) t.sinks) t.tick
      (λ i. Some (record { sink = (sink ∙ sink_is new changes) i; local = same i })) t.over)

  pub says_rooted : (local : LocalSurfaceId) → (c == 1) ≡ true → reply.Rooted ≡ (root_answer w x local).reply
  says_rooted local one = ap (λ (a : Answer). a.reply) (sym (rooted w x local (ap (λ n. n == 1) (number_is p w v c x m sends is) ∙ one)))

  -- why a relation is refused
  refusal_is : (parent child : FrameSinkId)
      → option_and_then refusal_of (refusal_in v.sinks c parent child) ≡ hierarchy_refusal w x parent child
  refusal_is parent child = grind (arith, nat_tests, refused_as w x c v.sinks.first parent child sends.here)

  pub asked_is : (parent child a b : FrameSinkId) (next : Message) → m ≡ Hierarchy parent child
      → Some next ≡ first_of (sender_at v.clients c).left
      → next ≡ Hierarchy a b → (a ≡ parent) × (b ≡ child)
  asked_is parent child a b next e at is_a =
      same_relation a b parent child (ap (λ z. Some z) (sym is_a) ∙ (at ∙ (sent_is p w v c x m sends is ∙ ap (λ z. Some z) e)))

  pub says_related : (parent child : FrameSinkId)
      → reply_for (refusal_in v.sinks c parent child) ≡ (hierarchy_answer w x parent child).reply
  unfolding hierarchy_answer
  says_related parent child = grind (arith, nat_tests, said w x, no_memory v.sinks c parent child, refusal_is parent child)

  pub relates : (parent child : FrameSinkId) (new : List Sender) (s : Related) → ChangesOne c taking_one v.clients new
      → s.first ≡ v.sinks.first → s.seats ≡ v.sinks.seats
      → s.relations ≡ relations_for (refusal_in v.sinks c parent child) parent child v.sinks.relations
      → IsSupport p (hierarchy_answer w x parent child).world (record v { clients = new; sinks = s })
  unfolding hierarchy_answer
  relates parent child new s changes first seats relations =
      subst (λ o. IsSupport p (unless_refused w x o joined).world (record v { clients = new; sinks = s })) (refusal_is parent child)
      (left_by w x joined parent child v.sinks.relations (λ u rs. s.relations ≡ rs → IsSupport p u (record v { clients = new; sinks = s }))
      (refusal_in v.sinks c parent child)
      (no_memory v.sinks c parent child)
      (λ e. makes p joined.world (record v { clients = new; sinks = s }) (record { count = t.clients.count; each = t.clients.each })
      (first_is p w v s is first)
      (seats ∙ seats_now) (e ∙ ap (relate parent child) (relations_are p w v is)) t.tick t.root t.over)
      (λ e. makes p (taking (λ y. y) x w) (record v { clients = new; sinks = s }) t.clients (first_is p w v s is first)
      (seats ∙ seats_now) (e ∙ relations_are p w v is) t.tick t.root t.over)
      relations)
    where
      joined : Answer
      joined = says reply.Joined (record (taking (λ y. y) x w) { relations = relate parent child w.relations })

      t : IsSupport p (taking (λ y. y) x w) (record v { clients = new })
      t = takes_plain p w v c x m sends is new changes

      seats_now : v.sinks.seats ≡ map seat_of (taking (λ y. y) x w).clients
      seats_now = ap (λ (r : Related). r.seats) t.sinks

  -- what awaiting answers, by the begin-frame that stands
  awaits_now : (o : Option ℕ) (over : Bool) → o ≡ standing v.sinks.seats c → v.over ≡ over → await_by w x o over ≡ await_answer w x
  awaits_now o over stands e =
      (λ i. await_by w x ((stands ∙ stands_same p w v c x is sends.here) i) ((sym e ∙ is.over) i)) ∙ sym (awaits w x)

  pub says_awaited : (o : Option ℕ) (over : Bool) → o ≡ standing v.sinks.seats c → v.over ≡ over
      → (await_by w x o over).reply ≡ (await_answer w x).reply
  says_awaited o over stands e = ap (λ (a : Answer). a.reply) (awaits_now o over stands e)

  pub begins : (n : ℕ) (new : List Sender) (s : Related) → Some n ≡ standing v.sinks.seats c → ChangesOne c taking_one v.clients new
      → s.first ≡ v.sinks.first
      → s.seats ≡ map (take_one c) v.sinks.seats → s.relations ≡ v.sinks.relations
      → IsSupport p (await_answer w x).world (record v { clients = new; sinks = s })
  begins n new s stands changes first seats relations =
      subst (λ (a : Answer). IsSupport p a.world (record v { clients = new; sinks = s })) (awaits_now (Some n) v.over stands refl)
      (makes p (taking (λ (y : Client). record y { delivered = None }) x w) (record v { clients = new; sinks = s })
      (follows_begun p w x v.clients new sends.keeps.clients is.clients (here_is p w v c x m sends is)
      (changes_at p w v c x m sends is taking_one new changes))
      (first_is p w v s is first)
      (seats
      ∙ ((λ i. map (take_one (sym (number_is p w v c x m sends is) i)) (seats_are p w v is i)) ∙ sym (begun_seats x.number w.clients)))
      (relations ∙ relations_are p w v is) is.tick is.root is.over)

  -- no begin-frame is taken where none stands
  stays_seated : (s : Related) → None ≡ standing v.sinks.seats c → s.seats ≡ map (take_one c) v.sinks.seats
      → s.seats ≡ map seat_of w.clients
  stays_seated s none seats = grind (arith, nat_tests, seats_are p w v is, none_taken w c x sends.keeps.clients sends.here, stands_same p w v c x is sends.here)

  pub waits_on : (s : Related) → None ≡ standing v.sinks.seats c → v.over ≡ false → s.first ≡ v.sinks.first
      → s.seats ≡ map (take_one c) v.sinks.seats → s.relations ≡ v.sinks.relations
      → IsSupport p (await_answer w x).world (record v { sinks = s })
  waits_on s none not_over first seats relations =
      subst (λ (a : Answer). IsSupport p a.world (record v { sinks = s })) (awaits_now None false none not_over)
      (makes p w (record v { sinks = s }) is.clients (first_is p w v s is first) (stays_seated s none seats)
      (relations ∙ relations_are p w v is) is.tick is.root is.over)

  pub ends : (new : List Sender) (s : Related) → None ≡ standing v.sinks.seats c → v.over ≡ true → ChangesOne c taking_one v.clients new
      → s.first ≡ v.sinks.first
      → s.seats ≡ map (take_one c) v.sinks.seats → s.relations ≡ v.sinks.relations
      → IsSupport p (await_answer w x).world (record v { clients = new; sinks = s })
  ends new s none over changes first seats relations =
      let t = takes_plain p w v c x m sends is new changes in
      subst (λ (a : Answer). IsSupport p a.world (record v { clients = new; sinks = s })) (awaits_now None true none over)
      (makes p (taking (λ y. y) x w) (record v { clients = new; sinks = s }) t.clients (first_is p w v s is first)
      (stays_seated s none seats ∙ (sym (seats_are p w v is) ∙ ap (λ (r : Related). r.seats) t.sinks))
      (relations ∙ relations_are p w v is) is.tick is.root is.over)
