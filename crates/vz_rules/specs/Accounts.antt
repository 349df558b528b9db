-- What a history does for each client: the messages that it took, the references that it lent and
-- got back, and the feedback.
use Rattle.std.specs.Prelude.{◌≡◌, ℕ, ◌+◌, ◌≤◌, Bool, ◌&&◌, ◌==◌, true, false, Option, Some, None, List, [], ◌∷◌, ◌++◌, map, filter, length, slice_get}
use Rattle.std.specs.Prelude.{count_by, nat_lt, ◌-◌, IsTrue, IsFalse, if◌then◌else◌}
use Rattle.std.specs.Option.{option_and_then}
use Rattle.std.specs.List.{list_any, sum_by}
use Rattle.vz_ids.specs.declared.Sub.{Sub}
use Rattle.vz_ids.specs.Ids.{same_sub}
use Rattle.vz_frame.specs.declared.message.ClientFile.{ClientFile}
use Rattle.vz_frame.specs.declared.message.Message.{Message}
use Rattle.vz_frame.specs.declared.message.Message.TheVariants.{Submit, DidNotProduce}
use Rattle.vz_frame.specs.Frame.{lists}
use Rattle.vz_rules.specs.Plan.{Plan}
use Rattle.vz_rules.specs.declared.entry.Event.TheVariants as event
use Rattle.vz_rules.specs.declared.entry.Refusal.TheVariants as refusal
use Rattle.vz_rules.specs.declared.entry.Reply.{Reply}
use Rattle.vz_rules.specs.declared.entry.Reply.TheVariants as reply
use Rattle.vz_rules.specs.declared.entry.Returned.{Returned}
use Rattle.vz_rules.specs.declared.entry.Entry.{Entry}
use Rattle.vz_rules.specs.World.{World, Client, Resource, FrameData, Submission, client_at, resource_in, file_of, is_waiting, sub_of, has_sub}
use Rattle.vz_rules.specs.Settle.{has_come}
use Rattle.vz_rules.specs.Returns.{is_held}
use Rattle.vz_rules.specs.Messages.{Answer, refused, message_answer}
use Rattle.vz_rules.specs.Step.{outcome_of, world, NamesClient}
use Rattle.vz_rules.specs.Whole.{is_of, mine, is_in_time}
use Rattle.vz_rules.specs.Log.{rest_of}
use Rattle.vz_rules.specs.Course.{is_begin}
use Rattle.vz_rules.specs.Kept.{count_of, borrows}

-- Messages

-- the entries at which a client took a message
unfoldable pub takes : List Entry → ℕ → List Entry
takes h c = filter (λ e. is_in_time e.reply) (mine h c)

-- how many messages a client took
abbrev pub taken_in : World → ℕ → ℕ
taken_in w c = elim (client_at w c) [ Some x ↦ x.taken | None ↦ 0 ]

-- the message at a place of a client's file
abbrev pub message_at : Plan → ℕ → ℕ → Option Message
message_at p c k = option_and_then (λ (f : ClientFile). slice_get f.messages k) (file_of p c)

-- what the machine answers to a client's message; it refuses the message of a closed client
abbrev pub answer_for : World → Client → Message → Answer
answer_for w c m = if c.closed then refused w c refusal.AlreadyClosed else message_answer w c m

-- the entry answers a client's message in a world
pub record IsAnswerTo (w : World) (c : ℕ) (m : Message) (e : Entry) : Type 0 where
  pub client : Client
  pub found : client_at w c ≡ Some client
  pub event : e.event ≡ event.Client c
  pub reply : e.reply ≡ (outcome_of [] (answer_for w client m)).reply
  pub effects : e.effects ≡ (outcome_of [] (answer_for w client m)).effects

-- at this entry of a history, a client takes the message at this place of its file; the record
-- also has the entries before and after it
pub record IsTaking (p : Plan) (h : List Entry) (c k : ℕ) (e : Entry) : Type 0 where
  pub before : List Entry
  pub behind : List Entry
  pub message : Message
  pub stands : h ≡ before ++ e ∷ behind
  pub earlier : length (takes before c) ≡ k
  pub in_file : message_at p c k ≡ Some message
  pub answers : IsAnswerTo (world p before) c message e

-- Submissions

-- the entry accepts a submission
abbrev pub accepts : Entry → Bool
accepts e = elim e.reply [ reply.Accepted ordinal index ↦ true | _ ↦ false ]

-- the n-th entry of those that accept accepted this submission: its client took the frame from its
-- file, and the reply reports its numbers
pub record IsAcceptance (p : Plan) (h : List Entry) (n : ℕ) (i : FrameData) : Type 0 where
  pub before : List Entry
  pub behind : List Entry
  pub entry : Entry
  pub stands : h ≡ before ++ entry ∷ behind
  pub earlier : count_by accepts before ≡ n
  pub mine : entry.event ≡ event.Client i.sub.client
  pub in_file : message_at p i.sub.client (length (takes before i.sub.client)) ≡ Some (Submit i.frame i.id.local)
  pub reply : entry.reply ≡ reply.Accepted i.sub.ordinal i.index

-- References

-- how many references of a client's resource are in a return
abbrev pub share_of : ℕ → ℕ → Returned → ℕ
share_of c id r = if r.client == c then count_of id r else 0

-- the message submits a frame that lists this resource
abbrev pub submits : ℕ → Option Message → Bool
submits id (Some (Submit frame local)) = list_any (lists id) frame.resources
submits id _ = false

-- an entry after a history lends a reference of a client's resource: it accepts a frame of the
-- client that lists it
abbrev pub lends : Plan → List Entry → ℕ → ℕ → Entry → Bool
lends p h c id e = accepts e && is_of c e && submits id (message_at p c (length (takes h c)))

-- how many references of a client's resource these entries lent, after a history
abbrev pub lent_from : Plan → List Entry → ℕ → ℕ → List Entry → ℕ
lent_from p h c id [] = 0
lent_from p h c id (e ∷ es) = (if lends p h c id e then 1 else 0) + lent_from p (h ++ e ∷ []) c id es

-- how many references of a client's resource the entries of a history lent
unfoldable pub lent_over : Plan → List Entry → ℕ → ℕ → ℕ
lent_over p h c id = lent_from p [] c id h

-- how many references of a client's resource the steps of a history queued
unfoldable pub returned_over : List Entry → ℕ → ℕ → ℕ
returned_over h c id = sum_by (λ e. sum_by (share_of c id) e.effects.returned) h

-- the returns that a reply gives to its client
abbrev pub handed_by : Reply → List Returned
handed_by (reply.Reclaimed returns) = returns
handed_by _ = []

-- how many references of a client's resource the replies gave to it
unfoldable pub handed_over : List Entry → ℕ → ℕ → ℕ
handed_over h c id = sum_by (λ e. sum_by (count_of id) (handed_by e.reply)) (mine h c)

-- a number of a client, or 0 if there is no such client
abbrev pub of_client : (Client → ℕ) → Option Client → ℕ
of_client number o = elim o [ Some x ↦ number x | None ↦ 0 ]

-- a total of a client's resource, or 0 if it never stored a resource with this id
abbrev pub total_of : (Resource → ℕ) → ℕ → Client → ℕ
total_of total id x = elim (resource_in id x.resources) [ Some s ↦ total s | None ↦ 0 ]

-- how many references of a client's resource were lent
abbrev pub lent_in : World → ℕ → ℕ → ℕ
lent_in w c id = of_client (total_of (λ s. s.lent) id) (client_at w c)

-- how many of them were queued
abbrev pub queued_in : World → ℕ → ℕ → ℕ
queued_in w c id = of_client (total_of (λ s. s.queued) id) (client_at w c)

-- how many of them were reclaimed
abbrev pub reclaimed_in : World → ℕ → ℕ → ℕ
reclaimed_in w c id = of_client (total_of (λ s. s.reclaimed) id) (client_at w c)

-- how many of them are in the queue
abbrev pub waiting_in : World → ℕ → ℕ → ℕ
waiting_in w c id = of_client (λ x. sum_by (count_of id) x.queue) (client_at w c)

-- the accounts of a client's resource after a history: it was lent once to each accepted
-- submission that lists it; the queued references are the returns of all steps, and the reclaimed
-- ones are those in the client's replies; the other queued ones are in the queue, and the other
-- lent ones are held at the end
pub record AreAccounts (p : Plan) (h : List Entry) (c id : ℕ) : Type 0 where
  pub lent : lent_in (world p h) c id ≡ lent_over p h c id
  pub borrowed : lent_in (world p h) c id ≡ count_by (borrows c id) (world p h).subs
  pub queued : queued_in (world p h) c id ≡ returned_over h c id
  pub reclaimed : reclaimed_in (world p h) c id ≡ handed_over h c id
  pub in_queue : queued_in (world p h) c id ≡ reclaimed_in (world p h) c id + waiting_in (world p h) c id
  pub held : lent_in (world p h) c id ≡ queued_in (world p h) c id + sum_by (share_of c id) (rest_of p h).held

-- the return is of this client's resource
abbrev pub is_return_of : ℕ → ℕ → Returned → Bool
is_return_of c id r = (r.client == c) && (r.id == id)

-- how many references of a client's resource were lent by the later world and not yet queued in
-- the earlier one
abbrev pub out_between : World → World → ℕ → ℕ → ℕ
out_between before after c id = lent_in after c id - queued_in before c id

-- how an entry after a history returns a client's resource: if nothing holds it in the new world,
-- one return has all references that were lent and not queued; if something holds it, there is no
-- return
pub record IsReturnedOnce (p : Plan) (h : List Entry) (e : Entry) (c id : ℕ) : Type 0 where
  pub held : IsTrue (is_held (world p (h ++ e ∷ [])) c id) → count_by (is_return_of c id) e.effects.returned ≡ 0
  pub once : IsFalse (is_held (world p (h ++ e ∷ [])) c id)
      → count_by (is_return_of c id) e.effects.returned ≡ (if nat_lt 0 (out_between (world p h) (world p (h ++ e ∷ [])) c id) then 1 else 0)
  pub all : IsFalse (is_held (world p (h ++ e ∷ [])) c id)
      → sum_by (share_of c id) e.effects.returned ≡ out_between (world p h) (world p (h ++ e ∷ [])) c id

-- each lent reference is returned once, at the step after which no surface and no drawn frame
-- holds its resource: each entry returns what is not held, every lent reference was returned or is
-- in the rest, and the rest has exactly what is still held
pub record ReturnsEachOnce (p : Plan) (h : List Entry) : Type 0 where
  pub steps : (before behind : List Entry) (e : Entry) (c id : ℕ) → h ≡ before ++ e ∷ behind → NamesClient p (event.Client c)
      → IsReturnedOnce p before e c id
  pub total : (c id : ℕ) → NamesClient p (event.Client c)
      → lent_in (world p h) c id ≡ returned_over h c id + sum_by (share_of c id) (rest_of p h).held
  pub rest : (c id : ℕ) → NamesClient p (event.Client c) → IsFalse (is_held (world p h) c id)
      → sum_by (share_of c id) (rest_of p h).held ≡ 0
  pub held : (c id : ℕ) → NamesClient p (event.Client c) → IsTrue (is_held (world p h) c id)
      → 1 ≤ sum_by (share_of c id) (rest_of p h).held

-- Feedback and activation

-- how often the steps of a history gave feedback for a submission
unfoldable pub feedback_over : List Entry → Sub → ℕ
feedback_over h sub = sum_by (λ e. count_by (λ f. same_sub sub f.sub) e.effects.fed) h

-- how often the steps of a history made a submission active
unfoldable pub activations_over : List Entry → Sub → ℕ
activations_over h sub = sum_by (λ e. count_by (same_sub sub) e.effects.activated) h

-- what a history reports of its submissions: each accepted one had feedback once or is in the rest
-- without it, and became active once if it was ever active; nothing is reported of others
pub record TellsEachOnce (p : Plan) (h : List Entry) : Type 0 where
  pub fed : (n : ℕ) (s : Submission) → slice_get (world p h).subs n ≡ Some s → feedback_over h (sub_of s) ≡ (if s.fed then 1 else 0)
  pub activated : (n : ℕ) (s : Submission) → slice_get (world p h).subs n ≡ Some s
      → activations_over h (sub_of s) ≡ (if s.was_active then 1 else 0)
  pub rest : (n : ℕ) (s : Submission) → slice_get (world p h).subs n ≡ Some s
      → feedback_over h (sub_of s) + count_by (same_sub (sub_of s)) (rest_of p h).unfed ≡ 1
  pub none_fed : (sub : Sub) → IsFalse (has_sub (map sub_of (world p h).subs) sub) → feedback_over h sub ≡ 0
  pub none_activated : (sub : Sub) → IsFalse (has_sub (map sub_of (world p h).subs) sub) → activations_over h sub ≡ 0

-- an entry after a history makes the submission at a place active, at the right time: the
-- submission waited before, unless the entry accepted it, and in the new world its dependencies
-- are met or its deadline has come
pub record IsTimely (p : Plan) (h : List Entry) (e : Entry) (n : ℕ) (s : Submission) : Type 0 where
  pub waited : (before : Submission) → slice_get (world p h).subs n ≡ Some before → IsTrue (is_waiting before)
  pub was_active : IsTrue s.was_active
  pub has_come : IsTrue (has_come (world p (h ++ e ∷ [])) s)

-- Answers to ticks

-- the tick that a client answered last, 0 before its first answer
abbrev pub answered_in : World → ℕ → ℕ
answered_in w c = of_client (λ x. x.answered) (client_at w c)

-- the entry is a begin-frame with this tick
abbrev pub ticks_to : ℕ → Entry → Bool
ticks_to n e = is_begin e && (elim e.reply [ reply.Ticked m ↦ m == n | _ ↦ false ])

-- the message is an accepted submission or a DidNotProduce, and carries this number
abbrev pub carries : ℕ → Message → Reply → Bool
carries n (Submit frame local) (reply.Accepted ordinal index) = frame.metadata.ack == n
carries n (DidNotProduce m) reply.Noted = m == n
carries n _ _ = false

-- at this entry, after a begin-frame with this tick, a client answers the tick
pub record AnswersTick (p : Plan) (h : List Entry) (c n : ℕ) : Type 0 where
  pub before : List Entry
  pub behind : List Entry
  pub entry : Entry
  pub message : Message
  pub stands : h ≡ before ++ entry ∷ behind
  pub ticked : IsTrue (list_any (ticks_to n) before)
  pub mine : entry.event ≡ event.Client c
  pub in_file : message_at p c (length (takes before c)) ≡ Some message
  pub answers : IsTrue (carries n message entry.reply)
