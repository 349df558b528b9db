-- What a client's entry is told as, and what its totals become.
use Rattle.std.proofs.Common.{◌≡◌, ℕ, ◌+◌, ◌^◌, ◌<◌, Bool, false, cond, Option, Some, None, List, [], ◌∷◌, ◌++◌, length, refl, ap, ◌∙◌, subst, length-append, arith}
use Rattle.std.specs.Prelude.{is_none, not, ◌&&◌}
use Rattle.vz_frame.specs.{declared.message.Message.Message, declared.message.Message.TheVariants.Await}
use Rattle.vz_rules.specs.{Plan.Plan, declared.entry.Refusal.Refusal, declared.entry.Entry.Entry, Accounts.accepts, Accounts.takes, Accounts.taken_in}
use Rattle.vz_rules.specs.declared.entry.Event.TheVariants as event
use Rattle.vz_rules.specs.declared.entry.Reply.TheVariants as reply
use Rattle.vz_rules.specs.declared.entry.Refusal.TheVariants as refusal
use Rattle.vz_rules.specs.World.{World, Machine, Client, client_at, next_message}
use Rattle.vz_rules.specs.Messages.{Answer, says, refused, await_answer, message_answer, known_client_answer, client_answer}
use Rattle.vz_rules.specs.Step.{answer_to, outcome_of, step_in, entry_in, world, Legal}
use Rattle.vz_rules.specs.{Course.waits, Whole.is_in_time}
use Rattle.vz_rules.proofs.{Cases.IsTurned, Cases.message_cases, Cases.number_at, Taken.taken_are}
use Rattle.vz_machine.specs.declared.machine.Step.{Step}
use Rattle.vz_machine.specs.Stepping.{Answers, asked, waits_at, listed_in, listed_at}
use Rattle.vz_desk.proofs.Booking.{entry_is}
use Rattle.vz_desk.specs.{Books.Booked, Books.IsBooked, declared.answer.Note.Note, Answers.is_early}
use Rattle.vz_desk.specs.Totals.{noted, noted_with, lent_by, refuses, handed_back, upto_most, TellsNext}
use Rattle.std.proofs.lemmas.Bool.Decides.{nat_tests}

-- What comes too early

turned_in_time : (r : Refusal) → IsTurned r → is_early (reply.Refused r) ≡ false
turned_in_time r t = grind (arith, nat_tests)

-- a message that does not wait
abbrev IsOther : Message → Type 0
IsOther Await = ⊥
IsOther _ = Unit {0}

other_in_time : (w : World) (c : Client) (m : Message) → IsOther m → is_early (message_answer w c m).reply ≡ false
unfolding Rattle.vz_rules.specs.Messages.accepted
other_in_time w c = message_cases w c (λ m a. IsOther m → is_early a.reply ≡ false) record {
  turned = λ m r t o. turned_in_time r t;
  not_yet = λ o. absurd o;
  stored = λ id block free o. refl;
  submitted = λ local frame fits o. refl;
  noted = λ n o. refl;
  reclaimed = λ o. refl;
  rooted = λ local root o. refl;
  joined = λ parent child fits o. refl;
  began = λ n e o. absurd o;
  over = λ o. absurd o;
  left = λ o. refl;
}

abbrev wait_of : World → Client → Message → Bool
wait_of w c m = elim m [ Await ↦ is_none c.delivered && not w.over && not c.closed | _ ↦ false ]

next_in_time : (w : World) (c : Client) (o : Option Message) → (elim o as (λ _. Bool) [ Some m ↦ wait_of w c m | None ↦ false ]) ≡ false
    → is_early (elim o as (λ _. Answer) [ None ↦ says (reply.Refused refusal.NoMessage) w | Some m ↦ cond c.closed (refused w c refusal.AlreadyClosed) (message_answer w c m) ]).reply ≡ false
unfolding message_answer await_answer
next_in_time w c o waits = grind (arith, nat_tests, other_in_time)

client_in_time : (p : Plan) (w : World) (o : Option Client) → asked o (waits p w) ≡ false
    → is_early (elim o as (λ _. Answer) [ None ↦ says (reply.Refused refusal.NoMessage) w | Some x ↦ known_client_answer p w x ]).reply ≡ false
unfolding known_client_answer
client_in_time p w None waits = refl
client_in_time p w (Some x) waits = next_in_time w x (next_message p x) waits

-- where a client does not wait, its message does not come too early
pub waited_in_time : (p : Plan) (w : World) (c : ℕ) (e : Entry) → waits_at (record { plan = p; world = w }) c ≡ false → e ≡ entry_in p w (event.Client c) → is_early e.reply ≡ false
unfolding entry_in step_in answer_to outcome_of client_answer
waited_in_time p w c e waits is = ap (λ (x : Entry). is_early x.reply) is ∙ client_in_time p w (client_at w c) waits

-- What is lent

lent_of : (p : Plan) (h : List Entry) (c : ℕ) (e : Entry) (o : Option Client) → client_at (world p h) c ≡ o → taken_in (world p h) c ≡ length (takes h c) → (o ≡ None → accepts e ≡ false)
    → cond (accepts e) (elim o as (λ _. ℕ) [ Some x ↦ listed_in (next_message p x) | None ↦ 0 ]) 0 ≡ lent_by p h c e
lent_of p h c e o found taken none = grind (arith, nat_tests, number_at)

unaccepted : (p : Plan) (w : World) (c : ℕ) (o : Option Client) → client_at w c ≡ o → o ≡ None → accepts (entry_in p w (event.Client c)) ≡ false
unfolding entry_in step_in answer_to outcome_of client_answer
unaccepted p w c o is none = ap (λ (x : Option Client). accepts (record { event = event.Client c; reply = (elim x as (λ _. Answer) [ None ↦ says (reply.Refused refusal.NoMessage) w | Some y ↦ known_client_answer p w y ]).reply; effects = (entry_in p w (event.Client c)).effects })) (is ∙ none)

-- what is told of the next entry of a client, whose next message lists so many resources
pub note_is : (p : Plan) (h : List Entry) (c : ℕ) (e : Entry) (listed : ℕ) → Legal p h → e ≡ entry_in p (world p h) (event.Client c) → listed ≡ listed_at (record { plan = p; world = world p h }) c
    → noted_with e listed (length h + 1) ≡ noted p h c e
note_is p h c e listed legal is lists =
    let lent : cond (accepts e) listed 0 ≡ lent_by p h c e = ap (λ n. cond (accepts e) n 0) lists
    ∙ lent_of p h c e (client_at (world p h) c) refl (taken_are p h c legal) (λ none. ap accepts is ∙ unaccepted p (world p h) c (client_at (world p h) c) refl none) in
    λ i. record { place = length h + 1; accepted = accepts e; refused = refuses e; lent = lent i; back = upto_most (handed_back e) }

module _ {S : Type 0} {n : ℕ} where
  tells_booked : (m : Machine) (spare : ℕ) (old : Booked S) (c : ℕ) (e : Entry) (listed : ℕ) → IsBooked m n spare old → e ≡ entry_in m.plan m.world (event.Client c) → listed ≡ listed_at m c
      → (told : Note) (timely : Bool) → length old.history + 1 < 2 ^ 64 → told ≡ noted_with e listed (length old.history + 1) → timely ≡ is_in_time e.reply → TellsNext old c told timely
  tells_booked m spare old c e listed is entry lists told timely few noted_is timely_is = grind (arith, nat_tests, note_is old.plan old.history c e listed is.legal)

  -- what is told of an entry that a step made
  pub tells_next : {a : Option ℕ} (m : Machine) (spare : ℕ) (old : Booked S) (c : ℕ) (s : Step) (e : Entry) (listed : ℕ) (h h1 g f : List Entry) (r : Option S) (note told : Note) (timely : Bool)
      → IsBooked m n spare (record { plan = m.plan; history = h; reason = r; awaited = a }) → record { plan = m.plan; history = h; reason = r; awaited = a } ≡ old → Answers m (event.Client c) s
      → e ≡ record { event = event.Client c; reply = s.reply; effects = s.effects } → listed ≡ listed_at m c → h1 ≡ h → g ≡ h1 ++ e ∷ [] → f ≡ g → length f < 2 ^ 64
      → note ≡ noted_with e listed 0 → told ≡ record note { place = length f } → timely ≡ is_in_time e.reply → TellsNext old c told timely
  tells_next {a = a} m spare old c s e listed h h1 g f r note told timely is view answers entry lists same more as_slice few noted_is told_is timely_is =
      let long : length f ≡ length old.history + 1 = ap length (as_slice ∙ more ∙ ap (λ l. l ++ e ∷ []) (same ∙ ap (λ (b : Booked S). b.history) view)) ∙ length-append old.history (e ∷ []) in
      tells_booked m spare old c e listed (subst (IsBooked m n spare) view is) (entry_is m (event.Client c) s e answers entry) lists told timely (subst (λ n. n < 2 ^ 64) long few)
      (told_is ∙ (λ i. record (noted_is i) { place = long i })) timely_is
