-- A client has answered the tick where an entry behind the begin-frame that ticked it carries it.
use Rattle.std.proofs.Common.{◌≡◌, ℕ, zero, suc, ◌+◌, ◌<◌, ◌≤◌, Bool, true, false, not, ◌&&◌, ◌||◌, ◌==◌, ◌⊎◌, ◌↔◌, inl, inr, Option, Some, None, List, [], ◌∷◌, ◌++◌, map, length, refl, ap, sym, ◌∙◌, subst, cond, arith, find, append_assoc}
use Rattle.std.specs.Option.{option_map, option_and_then}
use Rattle.std.specs.List.{list_any}
use Rattle.std.proofs.lemmas.Bool.{and_parts, eqb-true, eq-eqb, or_cases, and_right, or_left, or_right}
use Rattle.std.proofs.lemmas.List.Folds.{list_any-append}
use Rattle.vz_ids.specs.declared.Sub.{Sub}
use Rattle.vz_frame.specs.declared.message.ClientFile.{ClientFile}
use Rattle.vz_frame.specs.declared.message.Message.{Message}
use Rattle.vz_frame.specs.declared.message.Message.TheVariants.{Upload, Submit, DidNotProduce, Reclaim, SetRoot, Hierarchy, Await, Close}
use Rattle.vz_rules.specs.Plan.{Plan}
use Rattle.vz_rules.specs.declared.entry.Event.{Event}
use Rattle.vz_rules.specs.declared.entry.Event.TheVariants as event
use Rattle.vz_rules.specs.declared.entry.Entry.{Entry}
use Rattle.vz_rules.specs.declared.entry.Refusal.{Refusal}
use Rattle.vz_rules.specs.declared.entry.Refusal.TheVariants as refusal
use Rattle.vz_rules.specs.declared.entry.Reply.{Reply}
use Rattle.vz_rules.specs.declared.entry.Reply.TheVariants as reply
use Rattle.vz_rules.specs.World.{World, Client, client_at, next_message, new_client, new_clients, opening}
use Rattle.vz_rules.specs.Settle.{round, rounds, settle}
use Rattle.vz_rules.specs.Reach.{naming, clearing, collect}
use Rattle.vz_rules.specs.Returns.{give_back, feed, queue_returns}
use Rattle.vz_rules.specs.Messages.{Answer, says, took, taking, answer_tick, submitting, accepted, client_answer, put_resource, lend, reclaim}
use Rattle.vz_rules.specs.Step.{answer_to, begin_answer, deliver, is_attached, next_tick, outcome_of, presented_by, step_in, entry_in, world, NamesClient, Legal}
use Rattle.vz_rules.specs.Whole.{mine}
use Rattle.vz_rules.specs.Accounts.{of_client, takes, taken_in, message_at, answered_in, ticks_to, carries, AnswersTick}
use Rattle.vz_rules.proofs.Facts.{flip, same_when, or_false}
use Rattle.vz_rules.proofs.Rising.{find_map}
use Rattle.vz_rules.proofs.Prefixes.{along}
use Rattle.vz_rules.proofs.Follow_ups.{outcome_clients}
use Rattle.vz_rules.proofs.Numbered.{HasNumbers, steps_numbers, client_there, rest_same}
use Rattle.vz_rules.proofs.Taken.{steps_taken, none_taken, event_is, not_none}
use Rattle.vz_rules.proofs.Cases.{is_event_of, DisplayCases, client_cases, answer_cases, number_at, few_cases}
use Rattle.vz_rules.proofs.Given.{number_of}

-- Ticks

-- the tick after an event
abbrev tick_after : Event → ℕ → ℕ
tick_after e tick = elim e [ event.Begin ↦ next_tick tick | _ ↦ tick ]

abbrev TicksTo : World → Event → Answer → Type 0
TicksTo w e a = a.world.tick ≡ tick_after e w.tick

client_tick : (p : Plan) (w : World) (n : ℕ) → TicksTo w (event.Client n) (client_answer p w n)
unfolding accepted
client_tick p w n =
    few_cases p w n (TicksTo w (event.Client n)) (record { others = λ r a b clients root relations. refl; submitted = λ c e number local frame good at. refl; left = λ c clients. refl })

display_tick : (p : Plan) (w : World) → DisplayCases p w (TicksTo w)
unfolding begin_answer
display_tick p w = record { begins = refl; draws = λ r quiet last in_flight. refl; dones = λ r quiet in_flight. refl; overs = refl }

rounds_tick : (n : ℕ) (w : World) → (rounds n w).tick ≡ w.tick
unfolding rounds round
rounds_tick zero w = refl
rounds_tick (suc n) w = rounds_tick n (round w)

outcome_tick : (presented : List Sub) (a : Answer) → (outcome_of presented a).world.tick ≡ a.world.tick
unfolding outcome_of feed give_back collect clearing naming settle
outcome_tick presented a = rounds_tick _ a.world

step_tick : (p : Plan) (w : World) (e : Event) → (step_in p w e).world.tick ≡ tick_after e w.tick
unfolding step_in
step_tick p w e = outcome_tick (presented_by w e) (answer_to p w e) ∙ answer_cases p w (TicksTo w) (client_tick p w) (display_tick p w) e

next_more : (tick : ℕ) → tick ≤ next_tick tick
next_more tick = elim (tick == 4294967231) as (λ (t : Bool). tick ≤ cond t tick (tick + 1)) [ true ↦ omega arith | false ↦ omega arith ]

tick_more : (e : Event) (tick : ℕ) → tick ≤ tick_after e tick
tick_more (event.Client n) tick = omega arith
tick_more event.Begin tick = next_more tick
tick_more _ tick = omega arith

-- What a client answered

-- the message that a client would take
abbrev next_of : Plan → World → ℕ → Option Message
next_of p w c = option_and_then (next_message p) (client_at w c)

-- the reply to a message that may be there answers a number
abbrev hits : ℕ → Option Message → Reply → Bool
hits n o r = elim o [ Some m ↦ carries n m r | None ↦ false ]

-- a client answers the tick of a world
abbrev is_hit : Plan → World → ℕ → Event → Reply → Bool
is_hit p w c e r = is_event_of c e && hits w.tick (next_of p w c) r

abbrev Answers : Plan → World → ℕ → Event → Answer → Type 0
Answers p w c e a = answered_in a.world c ≡ cond (is_hit p w c e a.reply) w.tick (answered_in w c)

refused_misses : (n : ℕ) (m : Message) (r : Refusal) → carries n m (reply.Refused r) ≡ false
refused_misses n (Upload id block) r = refl
refused_misses n _ r = refl

refusal_misses : (n : ℕ) (o : Option Message) (r : Refusal) → hits n o (reply.Refused r) ≡ false
refusal_misses n None r = refl
refusal_misses n (Some m) r = refused_misses n m r

-- a refusal leaves what was answered
misses : (p : Plan) (w : World) (c : ℕ) (e : Event) (r : Refusal) → Answers p w c e (says (reply.Refused r) w)
misses p w c e r =
    ap (λ t. cond t w.tick (answered_in w c)) (sym (and_right (is_event_of c e) (hits w.tick (next_of p w c) (reply.Refused r)) (refusal_misses w.tick (next_of p w c) r)))

taker_answers : (f : Client → Client) (t b : Bool) (tick : ℕ) (x : Client) → (f x).answered ≡ cond b tick x.answered → (cond t (took (f x)) x).answered ≡ cond (t && b) tick x.answered
taker_answers f true b tick x e = e
taker_answers f false b tick x e = refl

zero_none : (t b : Bool) (n : ℕ) → t ≡ false → 0 ≡ cond (t && b) n 0
zero_none true b n e = absurd (cc)
zero_none false b n e = refl

answers_of : (w : World) (n c : ℕ) (x : Client) (f : Client → Client) (b : Bool) → x.number ≡ n → ((y : Client) → (f y).answered ≡ cond b w.tick y.answered) → (o : Option Client) → client_at w c ≡ o
    → (o ≡ None → (n == c) ≡ false) → of_client (λ y. y.answered) (option_map (λ y. cond (y.number == x.number) (took (f y)) y) o) ≡ cond ((n == c) && b) w.tick (of_client (λ y. y.answered) o)
answers_of w n c x f b number ans None e none = zero_none (n == c) b w.tick (none refl)
answers_of w n c x f b number ans (Some y) e none =
    taker_answers f (y.number == x.number) b w.tick y (ans y)
    ∙ ap (λ t. cond (t && b) w.tick y.answered) (ap (λ k. k == x.number) (number_at w c y e) ∙ (ap (λ k. c == k) number ∙ flip c n))

-- a client that takes its message, and sets what it answered where b says so
taking_answers : (w : World) (n c : ℕ) (x : Client) (f : Client → Client) (b : Bool) → client_at w n ≡ Some x → x.number ≡ n → ((y : Client) → (f y).number ≡ y.number)
    → ((y : Client) → (f y).answered ≡ cond b w.tick y.answered) → answered_in (taking f x w) c ≡ cond ((n == c) && b) w.tick (answered_in w c)
taking_answers w n c x f b e number same ans =
    ap (of_client (λ y. y.answered)) (find_map (λ (y : Client). y.number == c) (λ y. cond (y.number == x.number) (took (f y)) y) w.clients (λ y. ap (λ k. k == c) (same_when number_of (y.number == x.number) _ y (same y))))
    ∙ answers_of w n c x f b number ans (client_at w c) refl (not_none w n c x e)

hit_same : (p : Plan) (w : World) (n c : ℕ) (x : Client) (m : Message) (r : Reply) → client_at w n ≡ Some x → next_message p x ≡ Some m → (t : Bool) → (n == c) ≡ t
    → (t && carries w.tick m r) ≡ (t && hits w.tick (next_of p w c) r)
hit_same p w n c x m r e next true same =
    let found : client_at w c ≡ Some x = ap (client_at w) (sym (eqb-true n c same)) ∙ e in
    sym (ap (λ o. hits w.tick o r) (ap (option_and_then (next_message p)) found ∙ next))
hit_same p w n c x m r e next false same = refl

tick_answers : (b : Bool) (tick : ℕ) (x : Client) → ((cond b (record x { answered = tick }) x).number ≡ x.number) × ((cond b (record x { answered = tick }) x).answered ≡ cond b tick x.answered)
tick_answers true tick x = (refl, refl)
tick_answers false tick x = (refl, refl)

client_answers : (p : Plan) (w : World) (n c : ℕ) → Answers p w c (event.Client n) (client_answer p w n)
unfolding accepted
client_answers p w n c =
    client_cases p w n (Answers p w c (event.Client n)) (misses p w c (event.Client n) refusal.NoMessage) (λ x e number.
    let sets : (f : Client → Client) (b : Bool) (m : Message) (r : Reply) → ((y : Client) → (f y).number ≡ y.number) → ((y : Client) → (f y).answered ≡ cond b w.tick y.answered)
    → carries w.tick m r ≡ b → next_message p x ≡ Some m → answered_in (taking f x w) c ≡ cond (is_hit p w c (event.Client n) r) w.tick (answered_in w c)
    = λ f b m r same ans is at.
    taking_answers w n c x f b e number same ans
    ∙ (ap (λ t. cond ((n == c) && t) w.tick (answered_in w c)) (sym is) ∙ ap (λ t. cond t w.tick (answered_in w c)) (hit_same p w n c x m r e at (n == c) refl)) in
    let plain : Client → Client = λ y. y in
    record {
      turned = λ m r timely at. sets plain false m (reply.Refused r) (λ y. refl) (λ y. refl) (refused_misses w.tick m r) at;
      not_yet = λ at. misses p w c (event.Client n) refusal.NotYet;
      stored = λ id block free at. sets (λ y. record y { resources = put_resource id block y.resources }) false (Upload id block) reply.Stored (λ y. refl) (λ y. refl) refl at;
      submitted = λ local frame good at.
          let lent : Client → Client = λ y. record y { resources = map (lend frame.resources) y.resources } in
          sets (submitting w frame) (frame.metadata.ack == w.tick) (Submit frame local) (accepted w x local frame).reply
          (λ y. (tick_answers (frame.metadata.ack == w.tick) w.tick (lent y)).0) (λ y. (tick_answers (frame.metadata.ack == w.tick) w.tick (lent y)).1) refl at;
      noted = λ m at. sets (answer_tick w.tick m) (m == w.tick) (DidNotProduce m) reply.Noted (λ y. (tick_answers (m == w.tick) w.tick y).0) (λ y. (tick_answers (m == w.tick) w.tick y).1) refl at;
      reclaimed = λ at. sets reclaim false Reclaim (reply.Reclaimed x.queue) (λ y. refl) (λ y. refl) refl at;
      rooted = λ local root at. sets plain false (SetRoot local) reply.Rooted (λ y. refl) (λ y. refl) refl at;
      joined = λ parent child good at. sets plain false (Hierarchy parent child) reply.Joined (λ y. refl) (λ y. refl) refl at;
      began = λ m d at. sets (λ y. record y { delivered = None }) false Await (reply.Began m) (λ y. refl) (λ y. refl) refl at;
      over = λ at. sets plain false Await reply.Over (λ y. refl) (λ y. refl) refl at;
      left = λ at. sets (λ y. record y { closed = true }) false Close reply.Left (λ y. refl) (λ y. refl) refl at;
    })

answered_map : (f : Client → Client) (cs : List Client) (c : ℕ) → ((x : Client) → ((f x).number ≡ x.number) × ((f x).answered ≡ x.answered))
    → of_client (λ x. x.answered) (find (λ x. x.number == c) (map f cs)) ≡ of_client (λ x. x.answered) (find (λ x. x.number == c) cs)
answered_map f cs c same =
    ap (of_client (λ x. x.answered)) (find_map (λ (x : Client). x.number == c) f cs (λ x. ap (λ n. n == c) (same x).0)) ∙ by (find (λ (x : Client). x.number == c) cs)
  where
    by : (o : Option Client) → of_client (λ x. x.answered) (option_map f o) ≡ of_client (λ x. x.answered) o
    by None = refl
    by (Some x) = (same x).1

display_answers : (p : Plan) (w : World) (c : ℕ) → DisplayCases p w (Answers p w c)
unfolding begin_answer
display_answers p w c =
    let tick = next_tick w.tick in
    record {
      begins = answered_map (deliver p w tick) w.clients c (λ x. (same_when (λ (y : Client). y.number) (is_attached p w x && not x.closed) _ x refl, same_when (λ (y : Client). y.answered) (is_attached p w x && not x.closed) _ x refl));
      draws = λ r quiet last in_flight. refl;
      dones = λ r quiet in_flight. refl;
      overs = refl;
    }

step_answers : (p : Plan) (w : World) (c : ℕ) (e : Event) → answered_in (step_in p w e).world c ≡ cond (is_hit p w c e (step_in p w e).reply) w.tick (answered_in w c)
unfolding step_in outcome_of
step_answers p w c e =
    let a : Answer = answer_to p w e in
    ap (λ cs. of_client (λ x. x.answered) (find (λ x. x.number == c) cs)) (outcome_clients (presented_by w e) a)
    ∙ (answered_map (queue_returns (collect (settle a.world))) a.world.clients c (λ x. (refl, refl))
    ∙ answer_cases p w (Answers p w c) (λ n. client_answers p w n c) (display_answers p w c) e)

-- Along a history

-- the list ends with e: x is that one, or stands before it
unsnoc : {A : Type 0} (g before behind : List A) (e x : A) → g ++ e ∷ [] ≡ before ++ x ∷ behind → ((before ≡ g) × (x ≡ e)) ⊎ ((rest : List A) × (g ≡ before ++ x ∷ rest))
unsnoc [] [] behind e x h = inl (refl, cc)
unsnoc [] (b ∷ bs) behind e x h = absurd (no_append bs x behind (rest_same e b [] (bs ++ x ∷ behind) h))
  where
    no_append : {B : Type 0} (ys : List B) (y : B) (zs : List B) → [] ≡ ys ++ y ∷ zs → ⊥
    no_append [] y zs k = absurd (cc)
    no_append (z ∷ ys) y zs k = absurd (cc)
unsnoc (y ∷ ys) [] behind e x h = let same : y ≡ x = cc in inr (ys, ap (λ z. z ∷ ys) same)
unsnoc (y ∷ ys) (b ∷ bs) behind e x h =
    let head : y ≡ b = cc in
    let rest : ys ++ e ∷ [] ≡ bs ++ x ∷ behind = cc in
    elim (unsnoc ys bs behind e x rest) [
      | inl r ↦ inl (ap (λ z. z ∷ bs) (sym head) ∙ ap (λ l. y ∷ l) r.0, r.1)
      | inr r ↦ inr (r.0, ap (λ z. z ∷ ys) head ∙ ap (λ l. b ∷ l) r.1)
    ]

any_front : {A : Type 0} (t : A → Bool) (xs ys : List A) → list_any t xs ≡ true → list_any t (xs ++ ys) ≡ true
any_front t xs ys h = list_any-append t xs ys ∙ ap (λ b. b || list_any t ys) h

abbrev begins : Event → Bool
begins e = elim e [ event.Begin ↦ true | _ ↦ false ]

abbrev ticked_in : ℕ → Reply → Bool
ticked_in n r = elim r [ reply.Ticked m ↦ m == n | _ ↦ false ]

-- a begin-frame, and nothing else, ticks the number of the world that it leaves
record IsTicking (w : World) (e : Event) (r : Reply) : Type 0 where
  one : (n : ℕ) → (begins e && ticked_in n r) ≡ true → n ≡ tick_after e w.tick
  own : begins e ≡ true → (begins e && ticked_in (tick_after e w.tick) r) ≡ true
  stays : begins e ≡ false → tick_after e w.tick ≡ w.tick

ticking : (p : Plan) (w : World) (e : Event) → IsTicking w e (step_in p w e).reply
unfolding step_in outcome_of answer_to begin_answer
ticking p w event.Begin =
    record { one = λ n t. sym (eqb-true (next_tick w.tick) n t); own = λ t. eq-eqb (next_tick w.tick) (next_tick w.tick) refl; stays = λ t. absurd (cc) }
ticking p w (event.Client c) = record { one = λ n t. absurd (cc); own = λ t. absurd (cc); stays = λ t. refl }
ticking p w event.Draw = record { one = λ n t. absurd (cc); own = λ t. absurd (cc); stays = λ t. refl }
ticking p w event.Done = record { one = λ n t. absurd (cc); own = λ t. absurd (cc); stays = λ t. refl }
ticking p w event.Over = record { one = λ n t. absurd (cc); own = λ t. absurd (cc); stays = λ t. refl }

some_hit : (n : ℕ) (o : Option Message) (r : Reply) → hits n o r ≡ true → (m : Message) × (o ≡ Some m) × (carries n m r ≡ true)
some_hit n None r h = absurd (cc)
some_hit n (Some m) r h = (m, refl, h)

some_next : (p : Plan) (o : Option Client) (m : Message) → option_and_then (next_message p) o ≡ Some m → (x : Client) × (o ≡ Some x) × (next_message p x ≡ Some m)
some_next p None m h = absurd (cc)
some_next p (Some x) m h = (x, refl, h)

any_last : {A : Type 0} (t : A → Bool) (xs : List A) (x : A) → t x ≡ true → list_any t (xs ++ x ∷ []) ≡ true
any_last t xs x h = list_any-append t xs (x ∷ []) ∙ or_right (list_any t xs) (list_any t (x ∷ [])) (or_left (t x) false h)

longer_answers : (p : Plan) (h : List Entry) (e : Entry) (c n : ℕ) → AnswersTick p h c n → AnswersTick p (h ++ e ∷ []) c n
longer_answers p h e c n a =
    record {
      before = a.before;
      behind = a.behind ++ e ∷ [];
      entry = a.entry;
      message = a.message;
      stands = ap (λ l. l ++ e ∷ []) a.stands ∙ append_assoc a.before (a.entry ∷ a.behind) (e ∷ []);
      ticked = a.ticked;
      mine = a.mine;
      in_file = a.in_file;
      answers = a.answers;
    }

least_by : (t : Bool) (a tick later : ℕ) → a ≤ tick → tick ≤ later → cond t tick a ≤ later
least_by true a tick later l m = m
least_by false a tick later l m = omega (arith, l, m)

same_either : (t : Bool) (n m : ℕ) → m ≡ n → cond t n m ≡ n
same_either true n m h = refl
same_either false n m h = h

-- what is kept of a world and the history before it
record Kept (p : Plan) (c : ℕ) (w : World) (h : List Entry) : Type 0 where
  numbers : HasNumbers p w
  taken : taken_in w c ≡ length (takes h c)
  ticked : 0 < w.tick → list_any (ticks_to w.tick) h ≡ true
  no_later : (n : ℕ) → list_any (ticks_to n) h ≡ true → n ≤ w.tick
  least : answered_in w c ≤ w.tick
  shown : 0 < answered_in w c → AnswersTick p h c (answered_in w c)
  told : AnswersTick p h c w.tick → answered_in w c ≡ w.tick

-- one entry more, which the machine makes
module _ (p : Plan) (c : ℕ) (w : World) (h : List Entry) (e : Entry) (i : Kept p c w h) (names : NamesClient p e.event) (is : e ≡ entry_in p w e.event) where
  abbrev later : World
  later = (step_in p w e.event).world

  abbrev longer : List Entry
  longer = h ++ e ∷ []

  abbrev hit : Bool
  hit = is_hit p w c e.event e.reply

  same_reply : e.reply ≡ (step_in p w e.event).reply
  unfolding entry_in
  same_reply = ap (λ (x : Entry). x.reply) is

  answered_after : answered_in later c ≡ cond hit w.tick (answered_in w c)
  answered_after = step_answers p w c e.event ∙ ap (λ r. cond (is_hit p w c e.event r) w.tick (answered_in w c)) (sym same_reply)

  tick_is : later.tick ≡ tick_after e.event w.tick
  tick_is = step_tick p w e.event

  tick_rises : w.tick ≤ later.tick
  tick_rises = omega (arith, tick_is, tick_more e.event w.tick)

  ticks : IsTicking w e.event e.reply
  ticks = subst (IsTicking w e.event) (sym same_reply) (ticking p w e.event)

  ticked_later : (t : Bool) → begins e.event ≡ t → 0 < later.tick → list_any (ticks_to later.tick) longer ≡ true
  ticked_later true b l = any_last (ticks_to later.tick) h e (ap (λ n. ticks_to n e) tick_is ∙ ticks.own b)
  ticked_later false b l =
      let same : later.tick ≡ w.tick = tick_is ∙ ticks.stays b in
      ap (λ n. list_any (ticks_to n) longer) same ∙ any_front (ticks_to w.tick) h (e ∷ []) (i.ticked (omega (arith, l, same)))

  none_later : (n : ℕ) → list_any (ticks_to n) longer ≡ true → n ≤ later.tick
  none_later n t =
      elim (or_cases (list_any (ticks_to n) h) (ticks_to n e || false) (sym (list_any-append (ticks_to n) h (e ∷ [])) ∙ t)) [
        | inl a ↦ omega (arith, i.no_later n a, tick_rises)
        | inr a ↦ omega (arith, ticks.one n (sym (or_false (ticks_to n e)) ∙ a), tick_is)
      ]

  -- the message that the client would take is that of its place
  next_place : (x : Client) → client_at w c ≡ Some x → message_at p c (length (takes h c)) ≡ next_message p x
  next_place x found =
      ap (message_at p c) (sym i.taken ∙ ap (of_client (λ y. y.taken)) found) ∙ ap (λ n. message_at p n x.taken) (sym (number_at w c x found))

  shown_hit : hit ≡ true → 0 < w.tick → AnswersTick p longer c w.tick
  shown_hit k l =
      let both = and_parts (is_event_of c e.event) (hits w.tick (next_of p w c) e.reply) k in
      let m = some_hit w.tick (next_of p w c) e.reply both.1 in
      let x = some_next p (client_at w c) m.0 m.1 in
      record {
        before = h;
        behind = [];
        entry = e;
        message = m.0;
        stands = refl;
        ticked = i.ticked l;
        mine = event_is c e.event both.0;
        in_file = next_place x.0 x.1 ∙ x.2;
        answers = m.2;
      }

  shown_later : (t : Bool) → hit ≡ t → 0 < answered_in later c → AnswersTick p longer c (answered_in later c)
  shown_later true k l =
      let same : answered_in later c ≡ w.tick = answered_after ∙ ap (λ b. cond b w.tick (answered_in w c)) k in
      subst (AnswersTick p longer c) (sym same) (shown_hit k (omega (arith, l, same)))
  shown_later false k l =
      let same : answered_in later c ≡ answered_in w c = answered_after ∙ ap (λ b. cond b w.tick (answered_in w c)) k in
      subst (AnswersTick p longer c) (sym same) (longer_answers p h e c (answered_in w c) (i.shown (omega (arith, l, same))))

  told_here : (a : AnswersTick p longer c later.tick) → a.before ≡ h → a.entry ≡ e → answered_in later c ≡ later.tick
  told_here a front own =
      let mine : e.event ≡ event.Client c = ap (λ (x : Entry). x.event) (sym own) ∙ a.mine in
      let same : later.tick ≡ w.tick = tick_is ∙ ticks.stays (ap begins mine) in
      let there = client_there p w c i.numbers (subst (NamesClient p) mine names) in
      let next : next_of p w c ≡ Some a.message = ap (option_and_then (next_message p)) there.1 ∙ (sym (next_place there.0 there.1) ∙ (ap (λ l. message_at p c (length (takes l c))) (sym front) ∙ a.in_file)) in
      let carried : carries w.tick a.message e.reply ≡ true = ap (λ n. carries n a.message e.reply) (sym same) ∙ (ap (λ (x : Entry). carries later.tick a.message x.reply) (sym own) ∙ a.answers) in
      let mine_hit : is_event_of c e.event ≡ true = ap (is_event_of c) mine ∙ eq-eqb c c refl in
      let is_hit : hit ≡ true = ap (λ b. b && hits w.tick (next_of p w c) e.reply) mine_hit ∙ (ap (λ o. hits w.tick o e.reply) next ∙ carried) in
      answered_after ∙ (ap (λ b. cond b w.tick (answered_in w c)) is_hit ∙ sym same)

  told_before : (a : AnswersTick p longer c later.tick) (rest : List Entry) → h ≡ a.before ++ a.entry ∷ rest → answered_in later c ≡ later.tick
  told_before a rest stands =
      let ticked : list_any (ticks_to later.tick) h ≡ true = ap (list_any (ticks_to later.tick)) stands ∙ any_front (ticks_to later.tick) a.before (a.entry ∷ rest) a.ticked in
      let same : later.tick ≡ w.tick = omega (arith, i.no_later later.tick ticked, tick_rises) in
      let earlier : AnswersTick p h c later.tick = record { before = a.before; behind = rest; entry = a.entry; message = a.message; stands = stands; ticked = a.ticked; mine = a.mine; in_file = a.in_file; answers = a.answers } in
      answered_after ∙ (same_either hit w.tick (answered_in w c) (i.told (subst (AnswersTick p h c) same earlier)) ∙ sym same)

  told_later : AnswersTick p longer c later.tick → answered_in later c ≡ later.tick
  told_later a =
      elim (unsnoc h a.before a.behind e a.entry a.stands) [
        | inl r ↦ told_here a r.0 r.1
        | inr r ↦ told_before a r.0 r.1
      ]

  kept_later : Kept p c later longer
  kept_later =
      record {
        numbers = steps_numbers p w h e i.numbers names is;
        taken = steps_taken p c w h e i.taken names is;
        ticked = ticked_later (begins e.event) refl;
        no_later = none_later;
        least = subst (λ n. n ≤ later.tick) (sym answered_after) (least_by hit (answered_in w c) w.tick later.tick i.least tick_rises);
        shown = shown_later hit refl;
        told = told_later;
      }

none_answered : (n c : ℕ) (files : List ClientFile) → of_client (λ x. x.answered) (find (λ x. x.number == c) (new_clients n files)) ≡ 0
none_answered n c [] = refl
none_answered n c (f ∷ fs) =
    elim (n == c) as (λ (t : Bool). of_client (λ x. x.answered) (cond t (Some (new_client n f.sink)) (find (λ x. x.number == c) (new_clients (n + 1) fs))) ≡ 0) [
      | true ↦ refl
      | false ↦ none_answered (n + 1) c fs
    ]

opening_kept : (p : Plan) (c : ℕ) → Kept p c (opening p) []
unfolding opening takes mine
opening_kept p c =
    let none = none_answered 1 c p.files in
    record {
      numbers = refl;
      taken = none_taken 1 c p.files;
      ticked = λ l. absurd (omega arith);
      no_later = λ n t. absurd (cc);
      least = omega (arith, none);
      shown = λ l. absurd (omega (arith, l, none));
      told = λ a. none;
    }

-- where the tick is above 0, a client has answered it exactly where an entry does
pub answered_is : (p : Plan) (h : List Entry) (c : ℕ) → Legal p h → NamesClient p (event.Client c) → 0 < (world p h).tick → (answered_in (world p h) c ≡ (world p h).tick) ↔ AnswersTick p h c (world p h).tick
answered_is p h c l names some =
    let k : Kept p c (world p h) h = along p (Kept p c) (λ w g e i named is. kept_later p c w g e i named is) (opening_kept p c) h l in
    (λ e. subst (AnswersTick p h c) e (k.shown (omega (arith, some, e))), k.told)
