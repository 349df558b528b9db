-- A client's next message is taken where it is not too early and one is left.
use Rattle.std.proofs.Common.{◌≡◌, ℕ, zero, suc, ◌+◌, ◌-◌, ◌<◌, ◌≤◌, Bool, true, cond, Option, Some, None, List, [], ◌∷◌, ◌++◌, map, length, refl, ap, sym, ◌∙◌, arith, get_or, slice_get}
use Rattle.std.proofs.{lemmas.Bool.eq-eqb, lemmas.List.Elements.filter-append, lemmas.Bool.Decides.nat_tests, lemmas.Grind.common_steps}
use Rattle.std.specs.Option.{option_and_then}
use Rattle.vz_frame.specs.{declared.message.ClientFile.ClientFile, declared.message.Message.Message}
use Rattle.vz_rules.specs.{Plan.Plan, Plan.message_counts, declared.entry.Entry.Entry, Accounts.takes, Accounts.message_at}
use Rattle.vz_rules.specs.declared.entry.Event.TheVariants as event
use Rattle.vz_rules.specs.declared.entry.Reply.TheVariants as reply
use Rattle.vz_rules.specs.declared.entry.Refusal.TheVariants as refusal
use Rattle.vz_rules.specs.{World.World, World.Client, World.client_at, World.next_message, Whole.is_of, Whole.mine, Whole.is_in_time}
use Rattle.vz_rules.specs.Messages.{Answer, says, refused, accepted, message_answer, known_client_answer, client_answer}
use Rattle.vz_rules.specs.Step.{answer_to, outcome_of, step_in, world, entry_in, Legal}
use Rattle.vz_rules.proofs.{Cases.message_cases, Cases.number_at, Numbered.client_there, Numbered.numbers_are, Kept_small.at_there as some_at}
use Rattle.vz_rules.proofs.Taken.{taken_are}
use Rattle.vz_threads.specs.Crews.{messages_of}

-- a reply is that a message comes too early
abbrev pub IsEarly : Entry → Type 0
IsEarly e = e.reply ≡ reply.Refused refusal.NotYet

message_in : (files : List ClientFile) (n k : ℕ) → k < get_or (map (λ (file : ClientFile). length file.messages) files) n 0
    → (m : Message) × (option_and_then (λ (f : ClientFile). slice_get f.messages k) (slice_get files n) ≡ Some m)
message_in [] n k l = absurd (omega arith)
message_in (f ∷ fs) zero k l = some_at f.messages k l
message_in (f ∷ fs) (suc n) k l = message_in fs n k l

-- what is answered to a message is not that there is none
answered_in_time : (w : World) (x : Client) (m : Message) → ((message_answer w x m).reply ≡ reply.Refused refusal.NotYet → ⊥) → is_in_time (message_answer w x m).reply ≡ true
unfolding accepted
answered_in_time w x m = message_cases w x (λ m a. (a.reply ≡ reply.Refused refusal.NotYet → ⊥) → is_in_time a.reply ≡ true) (record {
  turned = λ m r timely early. timely;
  not_yet = λ early. absurd (early refl);
  stored = λ id block free early. refl;
  submitted = λ local frame good early. refl;
  noted = λ n early. refl;
  reclaimed = λ early. refl;
  rooted = λ local root early. refl;
  joined = λ parent child good early. refl;
  began = λ n at early. refl;
  over = λ early. refl;
  left = λ early. refl;
}) m

known_by : (p : Plan) (w : World) (x : Client) (m : Message) (o : Option Message) → o ≡ Some m
    → ((elim o as (λ _. Answer) [ None ↦ says (reply.Refused refusal.NoMessage) w | Some n ↦ cond x.closed (refused w x refusal.AlreadyClosed) (message_answer w x n) ]).reply ≡ reply.Refused refusal.NotYet → ⊥)
    → is_in_time (elim o as (λ _. Answer) [ None ↦ says (reply.Refused refusal.NoMessage) w | Some n ↦ cond x.closed (refused w x refusal.AlreadyClosed) (message_answer w x n) ]).reply ≡ true
known_by p w x m o e early = grind (arith, nat_tests, answered_in_time)

client_by : (p : Plan) (w : World) (x : Client) (m : Message) (o : Option Client) → o ≡ Some x → next_message p x ≡ Some m
    → ((elim o as (λ _. Answer) [ None ↦ says (reply.Refused refusal.NoMessage) w | Some y ↦ known_client_answer p w y ]).reply ≡ reply.Refused refusal.NotYet → ⊥)
    → is_in_time (elim o as (λ _. Answer) [ None ↦ says (reply.Refused refusal.NoMessage) w | Some y ↦ known_client_answer p w y ]).reply ≡ true
unfolding known_client_answer
client_by p w x m None e next early = absurd (cc)
client_by p w x m (Some y) e next early = let same : y ≡ x = cc in known_by p w y m (next_message p y) (ap (next_message p) same ∙ next) early

client_in_time : (p : Plan) (w : World) (c : ℕ) (x : Client) (m : Message) → client_at w c ≡ Some x → next_message p x ≡ Some m
    → ((client_answer p w c).reply ≡ reply.Refused refusal.NotYet → ⊥) → is_in_time (client_answer p w c).reply ≡ true
unfolding client_answer
client_in_time p w c x m found next early = client_by p w x m (client_at w c) found next early

reply_is : (p : Plan) (w : World) (c : ℕ) (e : Entry) → e ≡ entry_in p w (event.Client c) → e.reply ≡ (client_answer p w c).reply
unfolding entry_in step_in answer_to outcome_of
reply_is p w c e is = ap (λ (x : Entry). x.reply) is

event_is : (p : Plan) (w : World) (c : ℕ) (e : Entry) → e ≡ entry_in p w (event.Client c) → is_of c e ≡ true
unfolding entry_in
event_is p w c e is = ap (is_of c) is ∙ eq-eqb c c refl

-- a client that took fewer messages than its file has takes one, unless it comes too early
pub entry_in_time : (p : Plan) (h : List Entry) (c : ℕ) (e : Entry) → Legal p h → 1 ≤ c → c ≤ length p.files → length (takes h c) < messages_of (message_counts p) c
    → e ≡ entry_in p (world p h) (event.Client c) → (IsEarly e → ⊥) → is_in_time e.reply ≡ true
entry_in_time p h c e l some_client known left is early =
    let w : World = world p h in
    let there = client_there p w c (numbers_are p h l) (some_client, known) in
    let x : Client = there.0 in
    let number : x.number ≡ c = number_at w c x there.1 in
    let taken : x.taken ≡ length (takes h c) = sym (ap (λ o. elim o as (λ _. ℕ) [ Some y ↦ y.taken | None ↦ 0 ]) there.1) ∙ taken_are p h c l in
    let given = message_in p.files (c - 1) x.taken (omega (arith, left, taken)) in
    let next : next_message p x ≡ Some given.0 = ap (λ n. message_at p n x.taken) number ∙ given.1 in
    let same = reply_is p w c e is in
    ap is_in_time same ∙ client_in_time p w c x given.0 there.1 next (λ no. early (same ∙ no))

-- How many messages a client took

taken_more : (h : List Entry) (e : Entry) (c : ℕ) → length (takes (h ++ e ∷ []) c) ≡ length (takes h c) + cond (is_of c e) (cond (is_in_time e.reply) 1 0) 0
unfolding takes mine
taken_more h e c = grind (arith, nat_tests, common_steps, filter-append (is_of c) h (e ∷ []), filter-append)

counted_before : (b s : Bool) (k now old : ℕ) → s ≡ true → now ≡ k + cond s (cond b 1 0) 0 → now ≡ cond b (old + 1) old → k ≡ old
counted_before b s k now old of is more = grind (arith, nat_tests)

-- how many it took before an entry, where so many are counted behind it
pub taken_before : (h : List Entry) (e : Entry) (c now old : ℕ) → is_of c e ≡ true → now ≡ length (takes (h ++ e ∷ []) c) → now ≡ cond (is_in_time e.reply) (old + 1) old
    → length (takes h c) ≡ old
taken_before h e c now old of counted more = counted_before (is_in_time e.reply) (is_of c e) (length (takes h c)) now old of (counted ∙ taken_more h e c) more

-- an entry of a client with messages left takes one
pub took_one : (p : Plan) (h : List Entry) (c : ℕ) (e : Entry) (now old : ℕ) → Legal p h → 1 ≤ c → c ≤ length p.files → e ≡ entry_in p (world p h) (event.Client c) → (IsEarly e → ⊥)
    → now ≡ length (takes (h ++ e ∷ []) c) → now ≡ cond (is_in_time e.reply) (old + 1) old → old < messages_of (message_counts p) c → is_in_time e.reply ≡ true
took_one p h c e now old l some_client known is early counted more left =
    let before = taken_before h e c now old (event_is p (world p h) c e is) counted more in
    entry_in_time p h c e l some_client known (omega (arith, before, left)) is early
