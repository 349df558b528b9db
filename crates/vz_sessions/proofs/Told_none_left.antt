-- An entry tells a client that all its messages were taken only if they were, and no history with
-- such an entry is one of the plan that has a message more.
use Rattle.std.proofs.Common.{◌≡◌, ℕ, Bool, true, false, ◌&&◌, ◌==◌, Option, Some, None, List, [], ◌∷◌, ◌++◌, refl, ap, sym, ◌∙◌, cond, subst}
use Rattle.std.specs.Prelude.{not, is_some, IsFalse}
use Rattle.std.specs.List.{list_all}
use Rattle.std.proofs.lemmas.Bool.{eqb-true}
use Rattle.vz_frame.specs.declared.message.Message.{Message}
use Rattle.vz_rules.specs.Plan.{Plan, IsPlan}
use Rattle.vz_rules.specs.declared.entry.Event.{Event}
use Rattle.vz_rules.specs.declared.entry.Event.TheVariants as event
use Rattle.vz_rules.specs.declared.entry.Reply.TheVariants as reply
use Rattle.vz_rules.specs.declared.entry.Refusal.{Refusal}
use Rattle.vz_rules.specs.declared.entry.Refusal.TheVariants as refusal
use Rattle.vz_rules.specs.declared.entry.Entry.{Entry}
use Rattle.vz_rules.specs.World.{World, Client, client_at, next_message}
use Rattle.vz_rules.specs.Messages.{Answer, says, refused, accepted, message_answer}
use Rattle.vz_rules.specs.Step.{begin_answer, draw_answer, done_answer, answer_to, outcome_of, step_in, world_from, world, entry_in, NamesClient, LegalFrom, Legal}
use Rattle.vz_rules.specs.Whole.{is_of}
use Rattle.vz_rules.specs.Accounts.{answer_for}
use Rattle.vz_rules.proofs.Cases.{IsTurned, message_cases, drawing_cases}
use Rattle.vz_rules.proofs.Numbered.{numbers_are, client_there}
use Rattle.vz_rules.proofs.Runs.{world-more, legal-more}
use Rattle.vz_sessions.specs.Grown.{grown, is_miss, NeverMisses}
use Rattle.vz_sessions.specs.Session.{Session, Does, IsAllowed}
use Rattle.vz_sessions.proofs.Legal_stays.{opening_same, step_same, settled_entry}
use Rattle.vz_sessions.proofs.Grown_goes_on.{goes_on, settled_by}
use Rattle.vz_sessions.proofs.Next_answers.{step_next, idle_step}

-- the answer does not tell a client that all its messages were taken
Heard : Answer → Type 0
Heard a = is_miss a.reply ≡ false

turned_heard : (r : Refusal) → IsTurned r → is_miss (reply.Refused r) ≡ false
turned_heard refusal.NoMessage t = absurd (cc)
turned_heard refusal.NotYet t = refl
turned_heard refusal.AlreadyClosed t = refl
turned_heard (refusal.Malformed rule) t = refl
turned_heard refusal.UnknownResource t = refl
turned_heard refusal.InvariantsViolation t = refl
turned_heard refusal.SizeMismatch t = refl
turned_heard refusal.InUse t = refl
turned_heard refusal.NotRoot t = refl
turned_heard refusal.Loop t = refl
turned_heard refusal.UnknownSink t = refl
turned_heard refusal.ParentOfOther t = refl

message_heard : (w : World) (c : Client) (m : Message) → Heard (message_answer w c m)
unfolding Heard accepted
message_heard w c m =
    message_cases w c (λ n a. Heard a) (record {
      turned = λ n r t. turned_heard r t;
      not_yet = refl;
      stored = λ id block free. refl;
      submitted = λ local frame whole. refl;
      noted = λ n. refl;
      reclaimed = refl;
      rooted = λ local root. refl;
      joined = λ parent child free. refl;
      began = λ n at. refl;
      over = refl;
      left = refl;
    }) m

either_heard : (t : Bool) (a b : Answer) → Heard a → Heard b → Heard (cond t a b)
either_heard true a b h k = h
either_heard false a b h k = k

-- the answer to a message
answer_heard : (w : World) (c : Client) (m : Message) → Heard (answer_for w c m)
unfolding Heard
answer_heard w c m = either_heard c.closed (refused w c refusal.AlreadyClosed) (message_answer w c m) refl (message_heard w c m)

outcome_heard : (a : Answer) → Heard a → is_miss (outcome_of [] a).reply ≡ false
unfolding Heard outcome_of
outcome_heard a h = h

-- a client that has a message left is not told that there is none
pub waits_heard : (p : Plan) (w : World) (c : ℕ) (x : Client) (m : Message) → client_at w c ≡ Some x → next_message p x ≡ Some m
    → IsFalse (is_miss (step_in p w (event.Client c)).reply)
waits_heard p w c x m found next = ap (λ o. is_miss o.reply) (step_next p w c x m found next) ∙ outcome_heard (answer_for w x m) (answer_heard w x m)

-- The display

draw_heard : (p : Plan) (w : World) → Heard (draw_answer p w)
unfolding Heard
draw_heard p w = drawing_cases p w Heard refl refl (λ scene idle found. record { much = refl; unchanged = λ some none. refl; drawn = λ full. refl })

done_heard : (w : World) → Heard (done_answer w)
unfolding Heard done_answer
done_heard w = either_heard (is_some w.in_flight) (says reply.Shown (record w { in_flight = None })) (says reply.Nothing w) refl refl

begin_heard : (p : Plan) (w : World) → Heard (begin_answer p w)
unfolding Heard begin_answer
begin_heard p w = refl

-- The deeds of a session

-- an event of a client that has a message left
pub waiting_is_allowed : (s : Session) (c : ℕ) (x : Client) (m : Message) → NamesClient s.plan (event.Client c) → client_at (world s.plan s.told) c ≡ Some x
    → next_message s.plan x ≡ Some m → IsAllowed s (Does (event.Client c))
waiting_is_allowed s c x m names found next = (names, waits_heard s.plan (world s.plan s.told) c x m found next)

-- the events of the display
pub display_is_allowed : (s : Session) → IsAllowed s (Does event.Begin) × IsAllowed s (Does event.Draw) × IsAllowed s (Does event.Done) × IsAllowed s (Does event.Over)
unfolding Heard step_in answer_to outcome_of
display_is_allowed s =
    let w = world s.plan s.told in ((tt, begin_heard s.plan w), (tt, draw_heard s.plan w), (tt, done_heard w), (tt, refl))

-- Histories of both plans

by_client : (c : ℕ) (v : Event) → ◌≡◌ {A = Bool} (elim v [ event.Client d ↦ d == c | _ ↦ false ]) true → v ≡ event.Client c
by_client c (event.Client d) h = ap event.Client (eqb-true d c h)
by_client c event.Begin h = absurd (cc)
by_client c event.Draw h = absurd (cc)
by_client c event.Done h = absurd (cc)
by_client c event.Over h = absurd (cc)

not_both : (a b : Bool) → (a ≡ true → b ≡ true → ⊥) → not (a && b) ≡ true
not_both false b h = refl
not_both true false h = refl
not_both true true h = absurd (h refl refl)

apart : (b : Bool) → b ≡ true → b ≡ false → ⊥
apart true h k = absurd (cc)
apart false h k = absurd (cc)

-- an event of a client is not answered NoMessage in both plans
one_of_both : (p : Plan) (h : List Entry) (c : ℕ) (m : Message) → IsPlan p → NamesClient p (event.Client c) → Legal p h
    → is_miss (step_in p (world p h) (event.Client c)).reply ≡ true → is_miss (step_in (grown p c m) (world p h) (event.Client c)).reply ≡ true → ⊥
one_of_both p h c m is names l told both =
    let there = client_there p (world p h) c (numbers_are p h l) names in
    by there.0 there.1 (next_message p there.0) refl
  where
    by : (x : Client) → client_at (world p h) c ≡ Some x → (o : Option Message) → next_message p x ≡ o → ⊥
    by x found None none =
        apart (is_miss (step_in (grown p c m) (world p h) (event.Client c)).reply) both
        (ap (λ o. is_miss o.reply) (idle_step p h c x m is names found none) ∙ outcome_heard (answer_for (world p h) x m) (answer_heard (world p h) x m))
    by x found (Some n) next = apart (is_miss (step_in p (world p h) (event.Client c)).reply) told (waits_heard p (world p h) c x n found next)

-- the reply of an entry that the machine makes
reply_made : (q : Plan) (w : World) (e : Entry) (c : ℕ) → e ≡ entry_in q w e.event → e.event ≡ event.Client c → is_miss e.reply ≡ true
    → is_miss (step_in q w (event.Client c)).reply ≡ true
unfolding entry_in
reply_made q w e c made of_c told =
    ap (λ v. is_miss (step_in q w v).reply) (sym of_c) ∙ (ap (λ (x : Entry). is_miss x.reply) (sym made) ∙ told)

needed_from : (p : Plan) (c : ℕ) (m : Message) (front h : List Entry) → IsPlan p → NamesClient p (event.Client c) → Legal p front
    → LegalFrom p (world p front) h → LegalFrom (grown p c m) (world p front) h → NeverMisses c h
unfolding LegalFrom
needed_from p c m front [] is names past l g = refl
needed_from p c m front (e ∷ h) is names past l g =
    let w = world p front in
    let here : not (is_of c e && is_miss e.reply) ≡ true =
    not_both (is_of c e) (is_miss e.reply) (λ mine told.
    let of_c = by_client c e.event mine in
    one_of_both p front c m is names past (reply_made p w e c l.1 of_c told) (reply_made (grown p c m) w e c g.1 of_c told)) in
    let same : step_in (grown p c m) w e.event ≡ step_in p w e.event =
    step_same p (grown p c m) w e.event (goes_on p c m) (settled_entry p (grown p c m) w e l.1 (settled_by p c m e names.0 l.0 here)) in
    let next : (step_in p w e.event).world ≡ world p (front ++ e ∷ []) = sym (world-more p front e) in
    let rest =
    needed_from p c m (front ++ e ∷ []) h is names (legal-more p front e past l.0 l.1) (subst (λ v. LegalFrom p v h) next l.2)
    (subst (λ v. LegalFrom (grown p c m) v h) (ap (λ o. o.world) same ∙ next) g.2) in
    ap (λ t. t && list_all (λ x. not (is_of c x && is_miss x.reply)) h) here ∙ rest

-- a history of both plans tells the client nowhere that all its messages were taken
pub never_told : (p : Plan) (h : List Entry) (c : ℕ) (m : Message) → IsPlan p → NamesClient p (event.Client c) → Legal p h → Legal (grown p c m) h → NeverMisses c h
unfolding Legal world world_from LegalFrom
never_told p h c m is names l g = needed_from p c m [] h is names tt l (subst (λ w. LegalFrom (grown p c m) w h) (opening_same p (grown p c m) (goes_on p c m)) g)
