-- A legal history of a plan is one of each plan that goes on where the first one ends.
use Rattle.std.proofs.Common.{◌≡◌, ℕ, suc, ◌+◌, false, ◌&&◌, Option, Some, None, List, [], ◌∷◌, map, length, ◌≤◌, refl, ap, sym, ◌∙◌, cond, subst}
use Rattle.std.specs.Prelude.{not}
use Rattle.vz_ids.specs.declared.FrameSinkId.{FrameSinkId}
use Rattle.vz_geom.specs.declared.Size.{Size}
use Rattle.vz_frame.specs.declared.message.ClientFile.{ClientFile}
use Rattle.vz_frame.specs.declared.message.Message.{Message}
use Rattle.vz_rules.specs.Plan.{Plan}
use Rattle.vz_rules.specs.declared.entry.Event.{Event}
use Rattle.vz_rules.specs.declared.entry.Event.TheVariants as event
use Rattle.vz_rules.specs.declared.entry.Reply.TheVariants as reply
use Rattle.vz_rules.specs.declared.entry.Refusal.TheVariants as refusal
use Rattle.vz_rules.specs.declared.entry.Entry.{Entry}
use Rattle.vz_rules.specs.World.{World, Client, client_at, next_message, first_sink, new_client, new_clients, opening}
use Rattle.vz_rules.specs.Messages.{Answer, says, refused, message_answer, known_client_answer, client_answer, reaches}
use Rattle.vz_rules.specs.Step.{is_attached, next_tick, begin_answer, scene_answer, draw_answer, answer_to, presented_by, outcome_of, step_in, world_from, world, entry_in, NamesClient, LegalFrom, Legal}
use Rattle.vz_rules.specs.Accounts.{message_at}
use Rattle.vz_rules.proofs.Members.{contains_here, contains_there}
use Rattle.vz_rules.proofs.Cases.{number_at}
use Rattle.vz_sessions.specs.Grown.{GoesOn, IsSettled, AreSettled}

-- What an answer reads of the plan

-- a begin-frame reads the first sink alone
begin_with : Option FrameSinkId → World → Answer
begin_with o w =
    let tick = next_tick w.tick in
    says (reply.Ticked tick) (record w { tick = tick; clients = map (λ (c : Client). cond ((elim o [ Some sink ↦ reaches w.relations sink c.sink | None ↦ false ]) && not c.closed) (record c { delivered = Some tick }) c) w.clients })

begin_is : (p : Plan) (w : World) → begin_answer p w ≡ begin_with (first_sink p) w
unfolding begin_answer is_attached begin_with
begin_is p w = refl

-- a drawing reads the size alone
draw_with : Size → World → Answer
draw_with size w = draw_answer (record { files = []; size = size }) w

draw_is : (p : Plan) (w : World) → draw_answer p w ≡ draw_with p.size w
unfolding draw_answer scene_answer draw_with
draw_is p w = refl

-- a client's event reads the client's next message alone
known_with : Option Message → World → Client → Answer
known_with o w c =
    elim o [
      | None ↦ says (reply.Refused refusal.NoMessage) w
      | Some m ↦ cond c.closed (refused w c refusal.AlreadyClosed) (message_answer w c m)
    ]

known_is : (p : Plan) (w : World) (c : Client) → known_client_answer p w c ≡ known_with (next_message p c) w c
unfolding known_client_answer known_with
known_is p w c = refl

known_none : (w : World) (c : Client) → (known_with None w c).reply ≡ reply.Refused refusal.NoMessage
unfolding known_with
known_none w c = refl

-- Sinks

first_of_sinks : List FrameSinkId → Option FrameSinkId
first_of_sinks [] = None
first_of_sinks (s ∷ ss) = Some s

first_is : (size : Size) (files : List ClientFile) → first_sink (record { files = files; size = size }) ≡ first_of_sinks (map (λ (f : ClientFile). f.sink) files)
unfolding first_of_sinks
first_is size [] = refl
first_is size (f ∷ fs) = refl

first_same : (p q : Plan) → GoesOn p q → first_sink q ≡ first_sink p
first_same p q g = first_is q.size q.files ∙ (ap first_of_sinks g.sinks ∙ sym (first_is p.size p.files))

clients_of : ℕ → List FrameSinkId → List Client
clients_of n [] = []
clients_of n (s ∷ ss) = new_client n s ∷ clients_of (n + 1) ss

clients_are : (n : ℕ) (files : List ClientFile) → new_clients n files ≡ clients_of n (map (λ (f : ClientFile). f.sink) files)
unfolding clients_of
clients_are n [] = refl
clients_are n (f ∷ fs) = ap (λ l. new_client n f.sink ∷ l) (clients_are (n + 1) fs)

pub opening_same : (p q : Plan) → GoesOn p q → opening q ≡ opening p
unfolding opening
opening_same p q g =
    ap (λ cs. record { clients = cs; surfaces = []; subs = []; tick = 0; root = None; relations = []; in_flight = None; last = None; over = false })
    (clients_are 1 q.files ∙ (ap (clients_of 1) g.sinks ∙ sym (clients_are 1 p.files)))

length_map : {A B : Type 0} (f : A → B) (xs : List A) → length (map f xs) ≡ length xs
length_map f [] = refl
length_map f (x ∷ xs) = ap suc (length_map f xs)

pub as_many : (p q : Plan) → GoesOn p q → length q.files ≡ length p.files
as_many p q g = sym (length_map (λ (f : ClientFile). f.sink) q.files) ∙ (ap length g.sinks ∙ length_map (λ (f : ClientFile). f.sink) p.files)

pub names_same : (p q : Plan) (e : Event) → GoesOn p q → NamesClient p e → NamesClient q e
names_same p q (event.Client c) g n = (n.0, subst (λ k. c ≤ k) (sym (as_many p q g)) n.1)
names_same p q event.Begin g n = tt
names_same p q event.Draw g n = tt
names_same p q event.Done g n = tt
names_same p q event.Over g n = tt

-- One step

next_same : (a b : Option Message) → ((m : Message) → a ≡ Some m → b ≡ Some m) → (a ≡ None → b ≡ a) → b ≡ a
next_same None b some none = none refl
next_same (Some m) b some none = some m refl

-- the answer to a client that may be there
abbrev found_with : Plan → World → Option Client → Answer
found_with r w o = elim o [ None ↦ says (reply.Refused refusal.NoMessage) w | Some x ↦ known_client_answer r w x ]

client_same : (p q : Plan) (w : World) (n : ℕ) → GoesOn p q
    → ((k : ℕ) → (client_answer p w n).reply ≡ reply.Refused refusal.NoMessage → message_at q n k ≡ message_at p n k) → client_answer q w n ≡ client_answer p w n
unfolding client_answer
client_same p q w n g settled = by (client_at w n) refl settled
  where
    by : (o : Option Client) → client_at w n ≡ o
        → ((k : ℕ) → (found_with p w o).reply ≡ reply.Refused refusal.NoMessage → message_at q n k ≡ message_at p n k) → found_with q w o ≡ found_with p w o
    by None e s = refl
    by (Some x) e s =
        let number = number_at w n x e in
        let same : next_message q x ≡ next_message p x = next_same (next_message p x) (next_message q x) (λ m h. g.messages x.number x.taken m h) (λ h.
        let told : (known_client_answer p w x).reply ≡ reply.Refused refusal.NoMessage = ap (λ (a : Answer). a.reply) (known_is p w x) ∙ (ap (λ (o : Option Message). (known_with o w x).reply) h ∙ known_none w x) in
        ap (λ c. message_at q c x.taken) number ∙ (s x.taken told ∙ ap (λ c. message_at p c x.taken) (sym number))) in
        known_is q w x ∙ (ap (λ (o : Option Message). known_with o w x) same ∙ sym (known_is p w x))

answer_same : (p q : Plan) (w : World) (e : Event) → GoesOn p q
    → ((n k : ℕ) → e ≡ event.Client n → (answer_to p w e).reply ≡ reply.Refused refusal.NoMessage → message_at q n k ≡ message_at p n k) → answer_to q w e ≡ answer_to p w e
unfolding answer_to
answer_same p q w (event.Client n) g s = client_same p q w n g (λ k r. s n k refl r)
answer_same p q w event.Begin g s = begin_is q w ∙ (ap (λ o. begin_with o w) (first_same p q g) ∙ sym (begin_is p w))
answer_same p q w event.Draw g s = draw_is q w ∙ (ap (λ z. draw_with z w) g.size ∙ sym (draw_is p w))
answer_same p q w event.Done g s = refl
answer_same p q w event.Over g s = refl

-- the machine's answer is the same in both plans
pub step_same : (p q : Plan) (w : World) (e : Event) → GoesOn p q → IsSettled p q (entry_in p w e) → step_in q w e ≡ step_in p w e
unfolding step_in outcome_of entry_in
step_same p q w e g s = ap (outcome_of (presented_by w e)) (answer_same p q w e g s)

pub entry_same : (p q : Plan) (w : World) (e : Event) → GoesOn p q → IsSettled p q (entry_in p w e) → entry_in q w e ≡ entry_in p w e
unfolding entry_in
entry_same p q w e g s = ap (λ o. record { event = e; reply = o.reply; effects = o.effects }) (step_same p q w e g s)

-- Histories

pub settled_entry : (p q : Plan) (w : World) (e : Entry) → e ≡ entry_in p w e.event → IsSettled p q e → IsSettled p q (entry_in p w e.event)
settled_entry p q w e is s = subst (IsSettled p q) is s

pub legal_from-onward : (p q : Plan) (w : World) (h : List Entry) → GoesOn p q → AreSettled p q h → LegalFrom p w h → LegalFrom q w h
unfolding LegalFrom
legal_from-onward p q w [] g s l = tt
legal_from-onward p q w (e ∷ h) g s l =
    let settled = settled_entry p q w e l.1 (s e (contains_here e h)) in (
      names_same p q e.event g l.0,
      l.1 ∙ sym (entry_same p q w e.event g settled),
      subst (λ (v : World). LegalFrom q v h) (ap (λ o. o.world) (sym (step_same p q w e.event g settled)))
          (legal_from-onward p q (step_in p w e.event).world h g (λ x c. s x (contains_there e x h c)) l.2),
    )

pub world_from-onward : (p q : Plan) (w : World) (h : List Entry) → GoesOn p q → AreSettled p q h → LegalFrom p w h → world_from q w h ≡ world_from p w h
unfolding LegalFrom world_from
world_from-onward p q w [] g s l = refl
world_from-onward p q w (e ∷ h) g s l =
    let settled = settled_entry p q w e l.1 (s e (contains_here e h)) in
    ap (λ o. world_from q o.world h) (step_same p q w e.event g settled)
    ∙ world_from-onward p q (step_in p w e.event).world h g (λ x c. s x (contains_there e x h c)) l.2

-- a legal history stays legal
pub legal-onward : (p q : Plan) (h : List Entry) → GoesOn p q → AreSettled p q h → Legal p h → Legal q h
unfolding Legal
legal-onward p q h g s l = subst (λ w. LegalFrom q w h) (sym (opening_same p q g)) (legal_from-onward p q (opening p) h g s l)

-- and leads to the same world
pub world-onward : (p q : Plan) (h : List Entry) → GoesOn p q → AreSettled p q h → Legal p h → world q h ≡ world p h
unfolding world Legal
world-onward p q h g s l = ap (λ w. world_from q w h) (opening_same p q g) ∙ world_from-onward p q (opening p) h g s l
