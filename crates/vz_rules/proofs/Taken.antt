-- The messages that a client took are the first of its file, each at an entry that answers it.
use Rattle.std.proofs.Common.{◌≡◌, ℕ, zero, suc, ◌+◌, Bool, true, false, ◌&&◌, ◌==◌, Option, Some, None, List, [], ◌∷◌, ◌++◌, map, filter, length, refl, ap, sym, ◌∙◌, subst, cond, arith, find, slice_get, length-append}
use Rattle.std.specs.Option.{option_map}
use Rattle.std.specs.Prelude.{not}
use Rattle.std.proofs.lemmas.Bool.{eqb-true, and_parts}
use Rattle.std.proofs.lemmas.List.Elements.{filter-append}
use Rattle.vz_ids.specs.declared.Sub.{Sub}
use Rattle.vz_frame.specs.declared.message.ClientFile.{ClientFile}
use Rattle.vz_frame.specs.declared.message.Message.{Message}
use Rattle.vz_rules.specs.Plan.{Plan}
use Rattle.vz_rules.specs.declared.entry.Event.{Event}
use Rattle.vz_rules.specs.declared.entry.Event.TheVariants as event
use Rattle.vz_rules.specs.declared.entry.Reply.TheVariants as reply
use Rattle.vz_rules.specs.declared.entry.Refusal.TheVariants as refusal
use Rattle.vz_rules.specs.declared.entry.Entry.{Entry}
use Rattle.vz_rules.specs.World.{World, Client, client_at, next_message, new_client, new_clients, opening}
use Rattle.vz_rules.specs.Settle.{settle}
use Rattle.vz_rules.specs.Reach.{collect}
use Rattle.vz_rules.specs.Returns.{queue_returns}
use Rattle.vz_rules.specs.Messages.{Answer, says, took, taking, answer_tick, submitting, accepted, known_client_answer, client_answer, put_resource, lend, reclaim}
use Rattle.vz_rules.specs.Step.{answer_to, begin_answer, deliver, is_attached, next_tick, outcome_of, step_in, world, entry_in, presented_by, Legal}
use Rattle.vz_rules.specs.Whole.{is_of, mine, is_in_time}
use Rattle.vz_rules.specs.Accounts.{takes, taken_in, message_at, answer_for, IsAnswerTo, IsTaking}
use Rattle.vz_rules.proofs.Facts.{false_at, flip, same_when, plus_none, uncounted}
use Rattle.vz_rules.proofs.Rising.{find_map}
use Rattle.vz_rules.proofs.Follow_ups.{outcome_clients}
use Rattle.vz_rules.proofs.Prefixes.{legal-front, legal-at, Steps, along}
use Rattle.vz_rules.proofs.Cases.{is_event_of, DisplayCases, client_cases, answer_cases, number_at}
use Rattle.vz_rules.proofs.Members.{none_not_some}

-- Clients that are changed and keep their numbers

-- how many messages a client took that may be there
abbrev pub taken_of : Option Client → ℕ
taken_of o = elim o [ Some x ↦ x.taken | None ↦ 0 ]

taken_same : (f : Client → Client) → ((x : Client) → (f x).taken ≡ x.taken) → (o : Option Client) → taken_of (option_map f o) ≡ taken_of o
taken_same f same None = refl
taken_same f same (Some x) = same x

-- where clients keep their numbers and what they took
clients_keep : (f : Client → Client) (cs : List Client) (c : ℕ) → ((x : Client) → (f x).number ≡ x.number) → ((x : Client) → (f x).taken ≡ x.taken)
    → taken_of (find (λ x. x.number == c) (map f cs)) ≡ taken_of (find (λ x. x.number == c) cs)
clients_keep f cs c number taken =
    ap taken_of (find_map (λ (x : Client). x.number == c) f cs (λ x. ap (λ n. n == c) (number x))) ∙ taken_same f taken (find (λ x. x.number == c) cs)

outcome_taken : (presented : List Sub) (a : Answer) (c : ℕ) → taken_in (outcome_of presented a).world c ≡ taken_in a.world c
outcome_taken presented a c =
    ap (λ cs. taken_of (find (λ x. x.number == c) cs)) (outcome_clients presented a)
    ∙ clients_keep (queue_returns (collect (settle a.world))) a.world.clients c (λ x. refl) (λ x. refl)

-- One answer

-- an answer takes a message more where it is in time
abbrev CountsTaken : World → ℕ → Event → Answer → Type 0
CountsTaken w c e a = taken_in a.world c ≡ taken_in w c + cond (is_event_of c e) (cond (is_in_time a.reply) 1 0) 0

took_by : (f : Client → Client) (t : Bool) (x : Client) → (f x).taken ≡ x.taken → (cond t (took (f x)) x).taken ≡ x.taken + cond t 1 0
took_by f true x e = ap (λ n. n + 1) e
took_by f false x e = omega arith

taken_more : (f : Client → Client) (n c : ℕ) (o : Option Client) → ((x : Client) → (f x).taken ≡ x.taken) → ((x : Client) → o ≡ Some x → x.number ≡ c) → (o ≡ None → (n == c) ≡ false)
    → taken_of (option_map (λ x. cond (x.number == n) (took (f x)) x) o) ≡ taken_of o + cond (n == c) 1 0
taken_more f n c None taken number none = uncounted (n == c) (none refl)
taken_more f n c (Some x) taken number none =
    took_by f (x.number == n) x (taken x) ∙ ap (λ (t : Bool). x.taken + cond t 1 0) (ap (λ m. m == n) (number x refl) ∙ flip c n)

pub not_none : (w : World) (n c : ℕ) (x : Client) → client_at w n ≡ Some x → client_at w c ≡ None → (n == c) ≡ false
not_none w n c x e h =
    false_at (n == c) (λ t. let o : ◌≡◌ {A = Option Client} None (Some x) = sym h ∙ (ap (client_at w) (sym (eqb-true n c t)) ∙ e) in cc)

-- a client that takes its message
taking_counts : (w : World) (n c : ℕ) (x : Client) (f : Client → Client) → client_at w n ≡ Some x → x.number ≡ n → ((y : Client) → (f y).number ≡ y.number) → ((y : Client) → (f y).taken ≡ y.taken)
    → taken_in (taking f x w) c ≡ taken_in w c + cond (n == c) 1 0
taking_counts w n c x f e number same taken =
    ap taken_of (find_map (λ (y : Client). y.number == c) (λ y. cond (y.number == x.number) (took (f y)) y) w.clients (λ y. ap (λ m. m == c) (same_when (λ (z : Client). z.number) (y.number == x.number) (took (f y)) y (same y))))
    ∙ (taken_more f x.number c (client_at w c) taken (λ y h. number_at w c y h) (λ h. not_none w x.number c x (ap (client_at w) number ∙ e) h)
    ∙ ap (λ m. taken_in w c + cond (m == c) 1 0) number)

stays_counts : (w : World) (n c : ℕ) → taken_in w c ≡ taken_in w c + cond (n == c) 0 0
stays_counts w n c = elim (n == c) as (λ (t : Bool). taken_in w c ≡ taken_in w c + cond t 0 0) [ true ↦ omega arith | false ↦ omega arith ]

ticks_same : (tick n : ℕ) (x : Client) → ((answer_tick tick n x).number ≡ x.number) × ((answer_tick tick n x).taken ≡ x.taken)
ticks_same tick n x = elim (n == tick) as (λ (t : Bool). ((cond t (record x { answered = tick }) x).number ≡ x.number) × ((cond t (record x { answered = tick }) x).taken ≡ x.taken)) [ true ↦ (refl, refl) | false ↦ (refl, refl) ]

client_counts : (p : Plan) (w : World) (n c : ℕ) → CountsTaken w c (event.Client n) (client_answer p w n)
unfolding accepted
client_counts p w n c =
    client_cases p w n (CountsTaken w c (event.Client n)) (stays_counts w n c) (λ x e number.
    let plain : Client → Client = λ y. y in
    let keeps : (f : Client → Client) → ((y : Client) → (f y).number ≡ y.number) → ((y : Client) → (f y).taken ≡ y.taken) → taken_in (taking f x w) c ≡ taken_in w c + cond (n == c) 1 0
    = λ f. taking_counts w n c x f e number in
    record {
      turned = λ m r timely at. keeps plain (λ y. refl) (λ y. refl) ∙ ap (λ (t : Bool). taken_in w c + cond (n == c) (cond t 1 0) 0) (sym timely);
      not_yet = λ at. stays_counts w n c;
      stored = λ id block free at. keeps (λ y. record y { resources = put_resource id block y.resources }) (λ y. refl) (λ y. refl);
      submitted = λ local frame good at.
          let lent : Client → Client = λ y. record y { resources = map (lend frame.resources) y.resources } in
          keeps (submitting w frame) (λ y. (ticks_same w.tick frame.metadata.ack (lent y)).0) (λ y. (ticks_same w.tick frame.metadata.ack (lent y)).1);
      noted = λ m at. keeps (answer_tick w.tick m) (λ y. (ticks_same w.tick m y).0) (λ y. (ticks_same w.tick m y).1);
      reclaimed = λ at. keeps reclaim (λ y. refl) (λ y. refl);
      rooted = λ local root at. keeps plain (λ y. refl) (λ y. refl);
      joined = λ parent child good at. keeps plain (λ y. refl) (λ y. refl);
      began = λ m d at. keeps (λ y. record y { delivered = None }) (λ y. refl) (λ y. refl);
      over = λ at. keeps plain (λ y. refl) (λ y. refl);
      left = λ at. keeps (λ y. record y { closed = true }) (λ y. refl) (λ y. refl);
    })

display_counts : (p : Plan) (w : World) (c : ℕ) → DisplayCases p w (CountsTaken w c)
unfolding begin_answer
display_counts p w c =
    let tick = next_tick w.tick in
    record {
      begins = clients_keep (deliver p w tick) w.clients c (λ x. same_when (λ (y : Client). y.number) (is_attached p w x && not x.closed) _ x refl) (λ x. same_when (λ (y : Client). y.taken) (is_attached p w x && not x.closed) _ x refl)
          ∙ plus_none (taken_in w c);
      draws = λ r quiet last in_flight. plus_none (taken_in w c);
      dones = λ r quiet in_flight. plus_none (taken_in w c);
      overs = plus_none (taken_in w c);
    }

-- Along a history

takes_push : (h : List Entry) (e : Entry) (c : ℕ) → takes (h ++ e ∷ []) c ≡ takes h c ++ filter (λ x. is_in_time x.reply) (filter (is_of c) (e ∷ []))
unfolding takes mine
takes_push h e c =
    ap (filter (λ x. is_in_time x.reply)) (filter-append (is_of c) h (e ∷ [])) ∙ filter-append (λ x. is_in_time x.reply) (filter (is_of c) h) (filter (is_of c) (e ∷ []))

one_taken : (e : Entry) (s : Bool) → length (filter (λ x. is_in_time x.reply) (cond s (e ∷ []) [])) ≡ cond s (cond (is_in_time e.reply) 1 0) 0
one_taken e true = elim (is_in_time e.reply) as (λ (t : Bool). length (cond t (e ∷ []) []) ≡ cond t 1 0) [ true ↦ refl | false ↦ refl ]
one_taken e false = refl

takes_more : (h : List Entry) (e : Entry) (c : ℕ) → length (takes (h ++ e ∷ []) c) ≡ length (takes h c) + cond (is_of c e) (cond (is_in_time e.reply) 1 0) 0
takes_more h e c =
    ap length (takes_push h e c)
    ∙ (length-append (takes h c) (filter (λ x. is_in_time x.reply) (filter (is_of c) (e ∷ []))) ∙ ap (λ n. length (takes h c) + n) (one_taken e (is_of c e)))

pub steps_taken : (p : Plan) (c : ℕ) → Steps p (λ w h. taken_in w c ≡ length (takes h c))
unfolding step_in outcome_of entry_in
steps_taken p c w h e i names is =
    outcome_taken (presented_by w e.event) (answer_to p w e.event) c
    ∙ (answer_cases p w (CountsTaken w c) (λ n. client_counts p w n c) (display_counts p w c) e.event
    ∙ (ap (λ (x : Entry). taken_in w c + cond (is_of c e) (cond (is_in_time x.reply) 1 0) 0) (sym is)
    ∙ (ap (λ n. n + cond (is_of c e) (cond (is_in_time e.reply) 1 0) 0) i ∙ sym (takes_more h e c))))

pub none_taken : (n c : ℕ) (files : List ClientFile) → taken_of (find (λ x. x.number == c) (new_clients n files)) ≡ 0
none_taken n c [] = refl
none_taken n c (f ∷ fs) =
    elim (n == c) as (λ (t : Bool). taken_of (cond t (Some (new_client n f.sink)) (find (λ x. x.number == c) (new_clients (n + 1) fs))) ≡ 0) [
      | true ↦ refl
      | false ↦ none_taken (n + 1) c fs
    ]

-- a client took as many messages as it has entries that are in time
pub taken_are : (p : Plan) (h : List Entry) (c : ℕ) → Legal p h → taken_in (world p h) c ≡ length (takes h c)
unfolding opening takes mine
taken_are p h c l = along p (λ w g. taken_in w c ≡ length (takes g c)) (steps_taken p c) (none_taken 1 c p.files) h l

-- The entries that took them

filter_both : {A : Type 0} (r t : A → Bool) (xs : List A) → filter t (filter r xs) ≡ filter (λ x. r x && t x) xs
filter_both r t [] = refl
filter_both r t (x ∷ xs) =
    elim (r x) as (λ (b : Bool). filter t (cond b (x ∷ filter r xs) (filter r xs)) ≡ cond (b && t x) (x ∷ filter (λ y. r y && t y) xs) (filter (λ y. r y && t y) xs)) [
      | true ↦ ap (λ l. cond (t x) (x ∷ l) l) (filter_both r t xs)
      | false ↦ filter_both r t xs
    ]

-- a list with an element that passes a test, and so many before it that pass
pub record IsSplit {A : Type 0} (t : A → Bool) (xs : List A) (k : ℕ) (x : A) : Type 0 where
  pub before : List A
  pub behind : List A
  pub stands : xs ≡ before ++ x ∷ behind
  pub earlier : length (filter t before) ≡ k
  pub passes : t x ≡ true

split_later : {A : Type 0} (t : A → Bool) (y : A) (ys : List A) (k m : ℕ) (x : A) (b : Bool) → t y ≡ b → cond b (suc k) k ≡ m → IsSplit t ys k x → IsSplit t (y ∷ ys) m x
split_later t y ys k m x b e counted r =
    record {
      before = y ∷ r.before;
      behind = r.behind;
      stands = ap (λ l. y ∷ l) r.stands;
      earlier = ap (λ (c : Bool). length (cond c (y ∷ filter t r.before) (filter t r.before))) e ∙ (by b ∙ counted);
      passes = r.passes;
    }
  where
    by : (c : Bool) → length (cond c (y ∷ filter t r.before) (filter t r.before)) ≡ cond c (suc k) k
    by true = ap suc r.earlier
    by false = r.earlier

split_first : {A : Type 0} (t : A → Bool) (y : A) (ys : List A) (k : ℕ) (x : A) → t y ≡ true → ((n : ℕ) → slice_get (filter t ys) n ≡ Some x → IsSplit t ys n x)
    → slice_get (y ∷ filter t ys) k ≡ Some x → IsSplit t (y ∷ ys) k x
split_first t y ys zero x e rest g = let s : y ≡ x = cc in record { before = []; behind = ys; stands = ap (λ z. z ∷ ys) s; earlier = refl; passes = ap t (sym s) ∙ e }
split_first t y ys (suc n) x e rest g = split_later t y ys n (suc n) x true e refl (rest n g)

pub split_at : {A : Type 0} (t : A → Bool) (xs : List A) (k : ℕ) (x : A) → slice_get (filter t xs) k ≡ Some x → IsSplit t xs k x
split_at t [] k x h = absurd (none_not_some x h)
split_at t (y ∷ ys) k x h =
    elim (t y) as (λ (b : Bool). t y ≡ b → slice_get (cond b (y ∷ filter t ys) (filter t ys)) k ≡ Some x → IsSplit t (y ∷ ys) k x) [
      | true ↦ λ e g. split_first t y ys k x e (λ n l. split_at t ys n x l) g
      | false ↦ λ e g. split_later t y ys k k x false e refl (split_at t ys k x g)
    ] refl h

pub event_is : (c : ℕ) (e : Event) → is_event_of c e ≡ true → e ≡ event.Client c
event_is c (event.Client d) h = ap event.Client (eqb-true d c h)
event_is c _ h = absurd (cc)

-- an answer in time is one to a message of a client
record IsGiven (p : Plan) (w : World) (c : ℕ) (a : Answer) : Type 0 where
  client : Client
  message : Message
  found : client_at w c ≡ Some client
  next : next_message p client ≡ Some message
  answer : a ≡ answer_for w client message

message_given : (p : Plan) (w : World) (c : ℕ) (x : Client) → client_at w c ≡ Some x → (o : Option Message) → next_message p x ≡ o
    → is_in_time (elim o as (λ _. Answer) [ None ↦ says (reply.Refused refusal.NoMessage) w | Some m ↦ answer_for w x m ]).reply ≡ true
    → IsGiven p w c (elim o [ None ↦ says (reply.Refused refusal.NoMessage) w | Some m ↦ answer_for w x m ])
message_given p w c x e None next h = absurd (cc)
message_given p w c x e (Some m) next h = record { client = x; message = m; found = e; next = next; answer = refl }

client_given : (p : Plan) (w : World) (c : ℕ) (o : Option Client) → client_at w c ≡ o
    → is_in_time (elim o as (λ _. Answer) [ None ↦ says (reply.Refused refusal.NoMessage) w | Some x ↦ known_client_answer p w x ]).reply ≡ true
    → IsGiven p w c (elim o [ None ↦ says (reply.Refused refusal.NoMessage) w | Some x ↦ known_client_answer p w x ])
unfolding known_client_answer
client_given p w c None e h = absurd (cc)
client_given p w c (Some x) e h = message_given p w c x e (next_message p x) refl h

in_time_given : (p : Plan) (w : World) (c : ℕ) → is_in_time (client_answer p w c).reply ≡ true → IsGiven p w c (client_answer p w c)
unfolding client_answer
in_time_given p w c h = client_given p w c (client_at w c) refl h

answers : (p : Plan) (w : World) (c : ℕ) (e : Entry) → is_event_of c e.event ≡ true → is_in_time e.reply ≡ true → e ≡ entry_in p w e.event → (x : IsGiven p w c (client_answer p w c)) × IsAnswerTo w c x.message e
unfolding entry_in step_in answer_to outcome_of
answers p w c e of timely is =
    let same : e.event ≡ event.Client c = event_is c e.event of in
    let made : e ≡ entry_in p w (event.Client c) = is ∙ ap (entry_in p w) same in
    let given = in_time_given p w c (made_timely made) in (
      given,
      record {
        client = given.client;
        found = given.found;
        event = same;
        reply = ap (λ (x : Entry). x.reply) made ∙ ap (λ a. (outcome_of [] a).reply) given.answer;
        effects = ap (λ (x : Entry). x.effects) made ∙ ap (λ a. (outcome_of [] a).effects) given.answer;
      },
    )
  where
    made_timely : e ≡ entry_in p w (event.Client c) → is_in_time (client_answer p w c).reply ≡ true
    made_timely made = ap (λ (x : Entry). is_in_time x.reply) (sym made) ∙ timely

-- the entry at which a client took the message of a place answers the message of that place
pub taken_in_order : (p : Plan) (h : List Entry) (c k : ℕ) (e : Entry) → Legal p h → slice_get (takes h c) k ≡ Some e → IsTaking p h c k e
unfolding takes mine
taken_in_order p h c k e l at =
    let split = split_at (λ x. is_of c x && is_in_time x.reply) h k e (ap (λ xs. slice_get xs k) (sym (filter_both (is_of c) (λ x. is_in_time x.reply) h)) ∙ at) in
    let both = and_parts (is_of c e) (is_in_time e.reply) split.passes in
    let legal : Legal p (split.before ++ e ∷ split.behind) = subst (Legal p) split.stands l in
    let is = legal-at p split.before split.behind e legal in
    let given = answers p (world p split.before) c e both.0 both.1 is.1 in
    let earlier : length (takes split.before c) ≡ k = ap length (filter_both (is_of c) (λ x. is_in_time x.reply) split.before) ∙ split.earlier in
    let taken : given.0.client.taken ≡ k = sym (ap taken_of given.0.found) ∙ (taken_are p split.before c (legal-front p split.before (e ∷ split.behind) legal) ∙ earlier) in
    record {
      before = split.before;
      behind = split.behind;
      message = given.0.message;
      stands = split.stands;
      earlier = earlier;
      in_file = sym (ap (λ n. message_at p n given.0.client.taken) (number_at (world p split.before) c given.0.client given.0.found) ∙ ap (message_at p c) taken) ∙ given.0.next;
      answers = given.1;
    }
