-- The message that a client sent is answered by its next event.
use Rattle.std.proofs.Common.{◌≡◌, ℕ, zero, suc, ◌+◌, ◌-◌, ◌<◌, ◌≤◌, ◌==◌, Option, Some, None, List, [], ◌∷◌, length, refl, ap, sym, ◌∙◌, arith, slice_get}
use Rattle.std.specs.Option.{option_and_then}
use Rattle.vz_frame.specs.declared.message.ClientFile.{ClientFile}
use Rattle.vz_frame.specs.declared.message.Message.{Message}
use Rattle.vz_rules.specs.Plan.{Plan, IsPlan}
use Rattle.vz_rules.specs.declared.entry.Event.TheVariants as event
use Rattle.vz_rules.specs.declared.entry.Reply.TheVariants as reply
use Rattle.vz_rules.specs.declared.entry.Refusal.TheVariants as refusal
use Rattle.vz_rules.specs.declared.entry.Entry.{Entry}
use Rattle.vz_rules.specs.World.{World, Client, client_at, file_of, next_message}
use Rattle.vz_rules.specs.Messages.{says, known_client_answer, client_answer}
use Rattle.vz_rules.specs.Step.{answer_to, outcome_of, step_in, world, entry_in, NamesClient}
use Rattle.vz_rules.specs.Accounts.{message_at, answer_for}
use Rattle.vz_rules.specs.Kept.{KeepsClients, KeepsFiles}
use Rattle.vz_rules.proofs.Members.{contains_at, find_at, none_not_some}
use Rattle.vz_rules.proofs.Cases.{number_at}
use Rattle.vz_rules.proofs.Kept_first.{keeps_world}
use Rattle.vz_rules.proofs.Kept_planned.{plan_world}
use Rattle.vz_sessions.specs.Grown.{grown}
use Rattle.vz_sessions.proofs.Grown_goes_on.{get_end, sent_here}

-- One step

-- a client that is there, with the message that comes next
answer_next : (p : Plan) (w : World) (c : ℕ) (x : Client) (m : Message) → client_at w c ≡ Some x → next_message p x ≡ Some m → client_answer p w c ≡ answer_for w x m
unfolding client_answer known_client_answer
answer_next p w c x m found next =
    ap (λ (o : Option Client). elim o [ None ↦ says (reply.Refused refusal.NoMessage) w | Some y ↦ known_client_answer p w y ]) found
    ∙ ap (λ (o : Option Message). elim o [ None ↦ says (reply.Refused refusal.NoMessage) w | Some n ↦ answer_for w x n ]) next

pub step_next : (p : Plan) (w : World) (c : ℕ) (x : Client) (m : Message) → client_at w c ≡ Some x → next_message p x ≡ Some m
    → step_in p w (event.Client c) ≡ outcome_of [] (answer_for w x m)
unfolding step_in answer_to
step_next p w c x m found next = ap (outcome_of []) (answer_next p w c x m found next)

-- the file of this client has the message behind all earlier ones
pub next_sent : (p : Plan) (c : ℕ) (f : ClientFile) (m : Message) → file_of p c ≡ Some f → message_at (grown p c m) c (length f.messages) ≡ Some m
unfolding grown
next_sent p c f m at =
    ap (λ (o : Option ClientFile). option_and_then (λ (g : ClientFile). slice_get g.messages (length f.messages)) o) (sent_here (c - 1) m p.files f at)
    ∙ get_end f.messages m

next_grown : (p : Plan) (w : World) (c : ℕ) (x : Client) (f : ClientFile) (m : Message) → client_at w c ≡ Some x → file_of p c ≡ Some f → x.taken ≡ length f.messages
    → next_message (grown p c m) x ≡ Some m
next_grown p w c x f m found at all =
    ap (λ n. message_at (grown p c m) n x.taken) (number_at w c x found) ∙ (ap (message_at (grown p c m) c) all ∙ next_sent p c f m at)

pub sent_step : (p : Plan) (w : World) (c : ℕ) (x : Client) (f : ClientFile) (m : Message) → client_at w c ≡ Some x → file_of p c ≡ Some f → x.taken ≡ length f.messages
    → step_in (grown p c m) w (event.Client c) ≡ outcome_of [] (answer_for w x m)
sent_step p w c x f m found at all = step_next (grown p c m) w c x m found (next_grown p w c x f m found at all)

pub sent_entry : (p : Plan) (w : World) (c : ℕ) (x : Client) (f : ClientFile) (m : Message) → client_at w c ≡ Some x → file_of p c ≡ Some f → x.taken ≡ length f.messages
    → entry_in (grown p c m) w (event.Client c) ≡ record { event = event.Client c; reply = (outcome_of [] (answer_for w x m)).reply; effects = (outcome_of [] (answer_for w x m)).effects }
unfolding entry_in
sent_entry p w c x f m found at all = ap (λ o. record { event = event.Client c; reply = o.reply; effects = o.effects }) (sent_step p w c x f m found at all)

-- A client that took all its messages

get_past : {A : Type 0} (xs : List A) (n : ℕ) → slice_get xs n ≡ None → length xs ≤ n
get_past [] n h = omega arith
get_past (x ∷ xs) zero h = absurd (none_not_some x (sym h))
get_past (x ∷ xs) (suc n) h = omega (arith, get_past xs n h)

get_within : {A : Type 0} (xs : List A) (n : ℕ) → n < length xs → (x : A) × (slice_get xs n ≡ Some x)
get_within [] n h = absurd (omega (arith, h))
get_within (x ∷ xs) zero h = (x, refl)
get_within (x ∷ xs) (suc n) h = get_within xs n (omega (arith, h))

-- the clients' files and places
all_taken : (p : Plan) (w : World) (c : ℕ) (x : Client) → KeepsClients w.clients → KeepsFiles p.files w.clients → NamesClient p (event.Client c)
    → client_at w c ≡ Some x → next_message p x ≡ None → (f : ClientFile) × (file_of p c ≡ Some f) × (x.taken ≡ length f.messages)
all_taken p w c x clients files names found none =
    let number : x.number ≡ c = number_at w c x found in
    let member = find_at (λ (y : Client). y.number == c) w.clients x found in
    let place = contains_at w.clients x member.0 in
    let counted : x.number ≡ place.0 + 1 = clients.numbered place.0 x place.1 in
    let here : place.0 ≡ c - 1 = omega (arith, number, counted) in
    let file = get_within p.files (c - 1) (let low : 0 < c = names.0 in let high : c ≤ length p.files = names.1 in omega (arith, low, high)) in
    let at : slice_get w.clients (c - 1) ≡ Some x = ap (slice_get w.clients) (sym here) ∙ place.1 in
    let few : x.taken ≤ length file.0.messages = files.taken (c - 1) x file.0 at file.1 in
    let past : slice_get file.0.messages x.taken ≡ None =
    ap (λ (o : Option ClientFile). option_and_then (λ (g : ClientFile). slice_get g.messages x.taken) o) (sym file.1)
    ∙ (ap (λ n. message_at p n x.taken) (sym number) ∙ none) in
    let many : length file.0.messages ≤ x.taken = get_past file.0.messages x.taken past in
    (file.0, file.1, omega (arith, few, many))

-- after a history, a client with no message left took all of its file
pub idle_taken : (p : Plan) (h : List Entry) (c : ℕ) (x : Client) → IsPlan p → NamesClient p (event.Client c) → client_at (world p h) c ≡ Some x → next_message p x ≡ None
    → (f : ClientFile) × (file_of p c ≡ Some f) × (x.taken ≡ length f.messages)
idle_taken p h c x is names found none = all_taken p (world p h) c x (keeps_world p h is).always.clients (plan_world p h is).files names found none

pub idle_step : (p : Plan) (h : List Entry) (c : ℕ) (x : Client) (m : Message) → IsPlan p → NamesClient p (event.Client c) → client_at (world p h) c ≡ Some x → next_message p x ≡ None
    → step_in (grown p c m) (world p h) (event.Client c) ≡ outcome_of [] (answer_for (world p h) x m)
idle_step p h c x m is names found none =
    let all = idle_taken p h c x is names found none in
    sent_step p (world p h) c x all.0 m found all.1 all.2
