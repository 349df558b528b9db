-- The accounts of references, after each legal history.
use Rattle.std.proofs.Common.{◌≡◌, ℕ, ◌+◌, ◌-◌, ◌≤◌, Bool, true, false, not, ◌&&◌, ◌==◌, Option, Some, None, List, [], ◌∷◌, ◌++◌, map, filter, refl, ap, sym, ◌∙◌, subst, cond, arith, find, sum_by, count_by, map-id}
use Rattle.std.specs.Prelude.{nat_lt}
use Rattle.std.specs.List.{list_any, flat_map}
use Rattle.std.proofs.lemmas.Bool.{eqb-true, eq-eqb, ltb-false}
use Rattle.std.proofs.lemmas.List.Sums.{sum_by_push, sum_by-append, sum_by-cons}
use Rattle.std.proofs.lemmas.List.Elements.{filter-append}
use Rattle.vz_ids.specs.declared.LocalSurfaceId.{LocalSurfaceId}
use Rattle.vz_frame.specs.declared.frame.CompositorFrame.{CompositorFrame}
use Rattle.vz_frame.specs.declared.message.ClientFile.{ClientFile}
use Rattle.vz_frame.specs.Frame.{lists}
use Rattle.vz_rules.specs.Plan.{Plan}
use Rattle.vz_rules.specs.declared.entry.Event.{Event}
use Rattle.vz_rules.specs.declared.entry.Event.TheVariants as event
use Rattle.vz_rules.specs.declared.entry.Reply.{Reply}
use Rattle.vz_rules.specs.declared.entry.Reply.TheVariants as reply
use Rattle.vz_rules.specs.declared.entry.Refusal.TheVariants as refusal
use Rattle.vz_rules.specs.declared.entry.Returned.{Returned}
use Rattle.vz_rules.specs.declared.entry.Entry.{Entry}
use Rattle.vz_rules.specs.World.{World, Client, Resource, FrameData, Submission, is_waiting, is_on, client_at, resource_in, last_created, opening, new_client, new_clients}
use Rattle.vz_rules.specs.Settle.{settle}
use Rattle.vz_rules.specs.Reach.{collect}
use Rattle.vz_rules.specs.Returns.{goes_back, queue_returns, returns_of, returned_in}
use Rattle.vz_rules.specs.Messages.{Answer, says, took, taking, id_of as surface_of, submit_refusal, new_submission, replace_on, lend, answer_tick, submitting, accepted, client_answer, reclaim}
use Rattle.vz_rules.specs.Step.{answer_to, begin_answer, deliver, next_tick, is_attached, outcome_of, presented_by, step_in, entry_in, world, NamesClient, Legal}
use Rattle.vz_rules.specs.Whole.{is_of, mine}
use Rattle.vz_rules.specs.Log.{rest_in, rest_of}
use Rattle.vz_rules.specs.Accounts.{share_of, returned_over, handed_by, handed_over, of_client, total_of, AreAccounts}
use Rattle.vz_rules.specs.Kept.{count_of, borrows}
use Rattle.vz_rules.proofs.Facts.{and_counted, flip, same_when, plus_none}
use Rattle.vz_rules.proofs.Rising.{find_map, mapped_some, counted, Rising}
use Rattle.vz_rules.proofs.Given.{number_of, id_of, size_of, given_of, amount_in, share_is}
use Rattle.vz_rules.proofs.Totals.{IsAnswered, IsGivenBack, in_queue_of, unchanged, storing, answered_stored, answered_lent, known_listed, answered_reclaimed, given_back}
use Rattle.vz_rules.proofs.Prefixes.{Steps, along}
use Rattle.vz_rules.proofs.Follow_ups.{collected_clients, outcome_clients, frames_kept, outcome_frames, count_kept}
use Rattle.vz_rules.proofs.Lent.{borrowed_are_lent}
use Rattle.vz_rules.proofs.Numbered.{answer_numbers, HasNumbers, steps_numbers, numbers_rise, client_there, rising_keys}
use Rattle.vz_rules.proofs.Cases.{is_event_of, DisplayCases, client_cases, answer_cases, number_at, not_refused}

-- One answer

-- what an answer hands over to a client
abbrev pub handed_to : ℕ → Event → Answer → List Returned
handed_to c e a = cond (is_event_of c e) (handed_by a.reply) []

-- an accepted submission of a client that lists a resource, by what it was accepted with
abbrev takes_up : ℕ → ℕ → FrameData → Bool
takes_up c id i = (i.sub.client == c) && list_any (lists id) i.frame.resources

-- what an answer makes of a client of the world that it leaves
pub record GoesOn (w : World) (c id : ℕ) (e : Event) (a : Answer) (y : Client) : Type 0 where
  pub before : Client
  pub found : client_at w c ≡ Some before
  pub new : ℕ
  pub subs : count_by (borrows c id) a.world.subs ≡ count_by (borrows c id) w.subs + new
  pub answered : IsAnswered id before y new (handed_to c e a)

-- the resources of a client stand by rising id
abbrev pub HasRising : World → ℕ → Type 0
HasRising w c = (x : Client) → client_at w c ≡ Some x → Rising id_of x.resources

abbrev AllGoOn : World → Event → Answer → Type 0
AllGoOn w e a = (c id : ℕ) (y : Client) → HasRising w c → client_at a.world c ≡ Some y → GoesOn w c id e a y

-- a client keeps its number, its resources and its queue
record KeepsStock (x y : Client) : Type 0 where
  number : y.number ≡ x.number
  resources : y.resources ≡ x.resources
  queue : y.queue ≡ x.queue

stays_on : (w : World) (e : Event) (a : Answer) (f : Client → Client) → a.world.clients ≡ map f w.clients → ((x : Client) → KeepsStock x (f x))
    → a.world.subs ≡ w.subs → ((c : ℕ) → handed_to c e a ≡ []) → AllGoOn w e a
stays_on w e a f clients same subs none c id y up found =
    let at = ap (λ cs. find (λ x. x.number == c) cs) clients ∙ find_map (λ (x : Client). x.number == c) f w.clients (λ x. ap (λ n. n == c) (same x).number) in
    let m = mapped_some f (client_at w c) y (sym at ∙ found) in
    record {
      before = m.0;
      found = m.1;
      new = 0;
      subs = omega (arith, ap (count_by (borrows c id)) subs);
      answered = subst (λ l. IsAnswered id m.0 y 0 l) (sym (none c))
          (subst (λ z. IsAnswered id m.0 z 0 []) m.2 (unchanged id m.0 (f m.0) (same m.0).resources (same m.0).queue (up m.0 m.1)));
    }

some_same : (x y : Client) → ◌≡◌ {A = Option Client} (Some x) (Some y) → x ≡ y
some_same x y e = cc

-- of a client that takes its message, or of another one
took_by : (w : World) (n c id : ℕ) (z x y : Client) (f : Client → Client) (new : ℕ) (handed : List Returned) → client_at w n ≡ Some z → z.number ≡ n → client_at w c ≡ Some x → HasRising w c
    → cond (x.number == z.number) (took (f x)) x ≡ y → (Rising id_of z.resources → IsAnswered id z (took (f z)) new handed)
    → (t : Bool) → (n == c) ≡ t → IsAnswered id x y (cond t new 0) (cond t handed [])
took_by w n c id z x y f new handed e number found up is own true same =
    let one : z ≡ x = some_same z x (sym e ∙ (ap (client_at w) (eqb-true n c same) ∙ found)) in
    let next : took (f x) ≡ y = sym (ap (λ (t : Bool). cond t (took (f x)) x) (eq-eqb x.number z.number (ap (λ (k : Client). k.number) (sym one)))) ∙ is in
    subst (λ k. IsAnswered id x k new handed) next
    (subst (λ k. IsAnswered id k (took (f k)) new handed) one (own (subst (λ (k : Client). Rising id_of k.resources) (sym one) (up x found))))
took_by w n c id z x y f new handed e number found up is own false other =
    let flipped : (x.number == z.number) ≡ false = ap (λ k. k == z.number) (number_at w c x found) ∙ (ap (λ k. c == k) number ∙ (flip c n ∙ other)) in
    let next : x ≡ y = sym (ap (λ (t : Bool). cond t (took (f x)) x) flipped) ∙ is in
    subst (λ k. IsAnswered id x k 0 []) next (unchanged id x x refl refl (up x found))

takes_on : (w : World) (n : ℕ) (z : Client) (f : Client → Client) (a : Answer) (new : ℕ → ℕ) → client_at w n ≡ Some z → z.number ≡ n → ((x : Client) → (f x).number ≡ x.number)
    → a.world.clients ≡ (taking f z w).clients → ((c id : ℕ) → count_by (borrows c id) a.world.subs ≡ count_by (borrows c id) w.subs + cond (n == c) (new id) 0)
    → ((id : ℕ) → Rising id_of z.resources → IsAnswered id z (took (f z)) (new id) (handed_by a.reply)) → AllGoOn w (event.Client n) a
takes_on w n z f a new e number same clients subs own c id y up found =
    let g : Client → Client = λ x. cond (x.number == z.number) (took (f x)) x in
    let at = ap (λ cs. find (λ x. x.number == c) cs) clients ∙ find_map (λ (x : Client). x.number == c) g w.clients (λ x. ap (λ k. k == c) (same_when number_of (x.number == z.number) _ x (same x))) in
    let m = mapped_some g (client_at w c) y (sym at ∙ found) in
    record {
      before = m.0;
      found = m.1;
      new = cond (n == c) (new id) 0;
      subs = subs c id;
      answered = took_by w n c id z m.0 y f (new id) (handed_by a.reply) e number m.1 up m.2 (own id) (n == c) refl;
    }

plus_either : (n : ℕ) (t : Bool) → n ≡ n + cond t 0 0
plus_either n true = omega arith
plus_either n false = omega arith

-- an answer that leaves the world
world_stays : (w : World) (e : Event) (r : Reply) → ((c : ℕ) → handed_to c e (says r w) ≡ []) → AllGoOn w e (says r w)
world_stays w e r none = stays_on w e (says r w) (λ x. x) (sym (map-id w.clients)) (λ x. record { number = refl; resources = refl; queue = refl }) refl none

-- A submission

accepted_subs : (w : World) (n : ℕ) (z : Client) (local : LocalSurfaceId) (frame : CompositorFrame) → z.number ≡ n → (c id : ℕ)
    → count_by (borrows c id) (accepted w z local frame).world.subs ≡ count_by (borrows c id) w.subs + cond (n == c) (cond (list_any (lists id) frame.resources) 1 0) 0
unfolding accepted new_submission
accepted_subs w n z local frame number c id =
    let replaced = map (replace_on (surface_of z local)) w.subs in
    sum_by_push (λ s. cond (borrows c id s) 1 0) replaced (new_submission w z local frame)
    ∙ (ap (λ k. k + cond ((z.number == c) && list_any (lists id) frame.resources) 1 0)
    (count_kept (takes_up c id) replaced w.subs (frames_kept (replace_on (surface_of z local)) w.subs (λ s. same_when (λ (x : Submission). x.submitted) (is_waiting s && is_on (surface_of z local) s) _ s refl)))
    ∙ (ap (λ k. count_by (borrows c id) w.subs + k) (and_counted (z.number == c) (list_any (lists id) frame.resources))
    ∙ ap (λ k. count_by (borrows c id) w.subs + cond (k == c) (cond (list_any (lists id) frame.resources) 1 0) 0) number))

tick_stock : (t : Bool) (tick : ℕ) (x : Client) → KeepsStock x (cond t (record x { answered = tick }) x)
tick_stock true tick x = record { number = refl; resources = refl; queue = refl }
tick_stock false tick x = record { number = refl; resources = refl; queue = refl }

submitted_goes : (w : World) (n : ℕ) (z : Client) (local : LocalSurfaceId) (frame : CompositorFrame) → client_at w n ≡ Some z → z.number ≡ n
    → submit_refusal (last_created w z.number) z.resources local frame ≡ None → AllGoOn w (event.Client n) (accepted w z local frame)
unfolding accepted
submitted_goes w n z local frame e number good =
    let lent : Client → Client = λ x. record x { resources = map (lend frame.resources) x.resources } in
    let stock : (x : Client) → KeepsStock (lent x) (submitting w frame x) = λ x. tick_stock (frame.metadata.ack == w.tick) w.tick (lent x) in
    takes_on w n z (submitting w frame) (accepted w z local frame) (λ id. cond (list_any (lists id) frame.resources) 1 0) e number
    (λ x. (stock x).number) refl (accepted_subs w n z local frame number) (λ id up.
    answered_lent id frame.resources z (took (submitting w frame z)) (stock z).resources (stock z).queue up (known_listed id z.resources frame.resources (not_refused (last_created w z.number) z.resources local frame good).1))

-- The answers to a client

client_goes : (p : Plan) (w : World) (n : ℕ) → AllGoOn w (event.Client n) (client_answer p w n)
client_goes p w n =
    client_cases p w n (AllGoOn w (event.Client n)) (world_stays w (event.Client n) (reply.Refused refusal.NoMessage) (λ c. same_when (λ (l : List Returned). l) (n == c) [] [] refl)) (λ z e number.
    let same : (c id : ℕ) → count_by (borrows c id) w.subs ≡ count_by (borrows c id) w.subs + cond (n == c) 0 0 = λ c id. plus_either (count_by (borrows c id) w.subs) (n == c) in
    let keeps : (f : Client → Client) (a : Answer) → ((x : Client) → KeepsStock x (f x)) → a.world.clients ≡ (taking f z w).clients → a.world.subs ≡ w.subs → handed_by a.reply ≡ [] → AllGoOn w (event.Client n) a
    = λ f a stock clients subs none. takes_on w n z f a (λ id. 0) e number (λ x. (stock x).number) clients (λ c id. ap (count_by (borrows c id)) subs ∙ same c id)
    (λ id up. subst (λ l. IsAnswered id z (took (f z)) 0 l) (sym none) (unchanged id z (took (f z)) (stock z).resources (stock z).queue up)) in
    let plain : (x : Client) → KeepsStock x x = λ x. record { number = refl; resources = refl; queue = refl } in
    record {
      turned = λ m r timely at. keeps (λ x. x) _ plain refl refl refl;
      not_yet = λ at. world_stays w (event.Client n) (reply.Refused refusal.NotYet) (λ c. same_when (λ (l : List Returned). l) (n == c) [] [] refl);
      stored = λ id block free at. takes_on w n z (storing id block) _ (λ k. 0) e number (λ x. refl) refl same (λ k up. answered_stored k id block z up);
      submitted = λ local frame good at. submitted_goes w n z local frame e number good;
      noted = λ m at. keeps (answer_tick w.tick m) _ (λ x. tick_stock (m == w.tick) w.tick x) refl refl refl;
      reclaimed = λ at. takes_on w n z reclaim _ (λ k. 0) e number (λ x. refl) refl same (λ k up. answered_reclaimed k z up);
      rooted = λ local root at. keeps (λ x. x) _ plain refl refl refl;
      joined = λ parent child good at. keeps (λ x. x) _ plain refl refl refl;
      began = λ m d at. keeps (λ x. record x { delivered = None }) _ (λ x. record { number = refl; resources = refl; queue = refl }) refl refl refl;
      over = λ at. keeps (λ x. x) _ plain refl refl refl;
      left = λ at. keeps (λ x. record x { closed = true }) _ (λ x. record { number = refl; resources = refl; queue = refl }) refl refl refl;
    })

delivered_stock : (t : Bool) (tick : ℕ) (x : Client) → KeepsStock x (cond t (record x { delivered = Some tick }) x)
delivered_stock true tick x = record { number = refl; resources = refl; queue = refl }
delivered_stock false tick x = record { number = refl; resources = refl; queue = refl }

display_goes : (p : Plan) (w : World) → DisplayCases p w (AllGoOn w)
unfolding begin_answer
display_goes p w =
    let tick = next_tick w.tick in
    let plain : (x : Client) → KeepsStock x x = λ x. record { number = refl; resources = refl; queue = refl } in
    record {
      begins = stays_on w event.Begin (begin_answer p w) (deliver p w tick) refl (λ x. delivered_stock (is_attached p w x && not x.closed) tick x) refl (λ c. refl);
      draws = λ r quiet last in_flight. stays_on w event.Draw (says r (record w { last = last; in_flight = in_flight })) (λ x. x) (sym (map-id w.clients)) plain refl (λ c. refl);
      dones = λ r quiet in_flight. stays_on w event.Done (says r (record w { in_flight = in_flight })) (λ x. x) (sym (map-id w.clients)) plain refl (λ c. refl);
      overs = stays_on w event.Over (says reply.Ended (record w { over = true })) (λ x. x) (sym (map-id w.clients)) plain refl (λ c. refl);
    }

-- each answer goes on so for each client
answer_goes : (p : Plan) (w : World) (e : Event) → AllGoOn w e (answer_to p w e)
answer_goes p w e = answer_cases p w (AllGoOn w) (client_goes p w) (display_goes p w) e

-- One step

-- the totals of a client's resource, by the history before a world
pub record Totals (subs : List Submission) (h : List Entry) (c id : ℕ) (x : Client) : Type 0 where
  pub lent : total_of (λ s. s.lent) id x ≡ count_by (borrows c id) subs
  pub queued : total_of (λ s. s.queued) id x ≡ returned_over h c id
  pub reclaimed : total_of (λ s. s.reclaimed) id x ≡ handed_over h c id
  pub in_queue : total_of (λ s. s.queued) id x ≡ total_of (λ s. s.reclaimed) id x + in_queue_of id x
  pub paid : total_of (λ s. s.queued) id x ≤ total_of (λ s. s.lent) id x

-- what is kept of a world and the history before it
pub record Accounted (p : Plan) (w : World) (h : List Entry) : Type 0 where
  pub numbers : HasNumbers p w
  pub rising : (c : ℕ) → HasRising w c
  pub totals : (c id : ℕ) (x : Client) → client_at w c ≡ Some x → Totals w.subs h c id x

returned_more : (h : List Entry) (e : Entry) (c id : ℕ) → returned_over (h ++ e ∷ []) c id ≡ returned_over h c id + sum_by (share_of c id) e.effects.returned
unfolding returned_over
returned_more h e c id = sum_by_push (λ x. sum_by (share_of c id) x.effects.returned) h e

one_handed : (e : Entry) (id : ℕ) (t : Bool) → sum_by (λ x. sum_by (count_of id) (handed_by x.reply)) (cond t (e ∷ []) []) ≡ sum_by (count_of id) (cond t (handed_by e.reply) [])
one_handed e id true = sum_by-cons (λ x. sum_by (count_of id) (handed_by x.reply)) e [] ∙ sym (plus_none (sum_by (count_of id) (handed_by e.reply)))
one_handed e id false = refl

handed_more : (h : List Entry) (e : Entry) (c id : ℕ) → handed_over (h ++ e ∷ []) c id ≡ handed_over h c id + sum_by (count_of id) (cond (is_of c e) (handed_by e.reply) [])
unfolding handed_over mine
handed_more h e c id =
    ap (sum_by (λ x. sum_by (count_of id) (handed_by x.reply))) (filter-append (is_of c) h (e ∷ []))
    ∙ (sum_by-append (λ x. sum_by (count_of id) (handed_by x.reply)) (filter (is_of c) h) (filter (is_of c) (e ∷ []))
    ∙ ap (λ n. sum_by (λ x. sum_by (count_of id) (handed_by x.reply)) (filter (is_of c) h) + n) (one_handed e id (is_of c e)))

-- the returns of a client's resource among those that a step gives
step_returned : (amount : Returned → ℕ) (w W : World) (c id : ℕ) (y : Client) → W.clients ≡ w.clients → Rising number_of w.clients → client_at w c ≡ Some y → Rising id_of y.resources
    → sum_by (amount_in amount c id) (returned_in W) ≡ counted (given_of amount (goes_back W) y.number) (resource_in id y.resources)
unfolding returned_in
step_returned amount w W c id y same up found rising =
    ap (λ cs. sum_by (amount_in amount c id) (flat_map (returns_of W) cs)) same ∙ share_is amount (goes_back W) c id w.clients y up found rising

-- the world of a step before references are given back
abbrev pub before_giving : Plan → World → Event → World
before_giving p w e = collect (settle (answer_to p w e).world)

-- the number of what a step gives back of a client's resource
abbrev pub back_of : (Returned → ℕ) → World → ℕ → Client → ℕ
back_of amount w id x = counted (given_of amount (goes_back w) x.number) (resource_in id x.resources)

-- what a step makes of a client
pub record IsStepped (p : Plan) (w : World) (e : Entry) (c id : ℕ) (z : Client) : Type 0 where
  pub middle : Client
  pub goes : GoesOn w c id e.event (answer_to p w e.event) middle
  pub found : client_at (answer_to p w e.event).world c ≡ Some middle
  pub given : IsGivenBack id middle z (back_of size_of (before_giving p w e.event) id middle)
  pub effect : (amount : Returned → ℕ) → sum_by (amount_in amount c id) e.effects.returned ≡ back_of amount (before_giving p w e.event) id middle

pub stepped : (p : Plan) (w : World) (e : Entry) (c id : ℕ) (z : Client) → HasNumbers p w → ((d : ℕ) → HasRising w d) → e ≡ entry_in p w e.event
    → client_at (step_in p w e.event).world c ≡ Some z → IsStepped p w e c id z
unfolding step_in entry_in outcome_of
stepped p w e c id z numbers rising is found =
    let a : Answer = answer_to p w e.event in
    let W : World = before_giving p w e.event in
    let at = ap (λ cs. find (λ x. x.number == c) cs) (outcome_clients (presented_by w e.event) a) ∙ find_map (λ (x : Client). x.number == c) (queue_returns W) a.world.clients (λ x. refl) in
    let m = mapped_some (queue_returns W) (client_at a.world c) z (sym at ∙ found) in
    let goes = answer_goes p w e.event c id m.0 (rising c) m.1 in
    let up : Rising number_of a.world.clients = rising_keys number_of a.world.clients w.clients (answer_numbers p w e.event) (numbers_rise p w numbers) in
    record {
      middle = m.0;
      goes = goes;
      found = m.1;
      given = subst (λ k. IsGivenBack id m.0 k (back_of size_of W id m.0)) m.2 (given_back W id m.0 goes.answered.rising);
      effect = λ amount. ap (λ (x : Entry). sum_by (amount_in amount c id) x.effects.returned) is ∙ step_returned amount a.world W c id m.0 (collected_clients a.world) up m.1 goes.answered.rising;
    }

step_subs : (p : Plan) (w : World) (e : Event) (c id : ℕ) → count_by (borrows c id) (step_in p w e).world.subs ≡ count_by (borrows c id) (answer_to p w e).world.subs
unfolding step_in
step_subs p w e c id = count_kept (takes_up c id) (outcome_of (presented_by w e) (answer_to p w e)).world.subs (answer_to p w e).world.subs (outcome_frames (presented_by w e) (answer_to p w e))

same_handed : (p : Plan) (w : World) (e : Entry) (c : ℕ) → e ≡ entry_in p w e.event → cond (is_of c e) (handed_by e.reply) [] ≡ handed_to c e.event (answer_to p w e.event)
unfolding entry_in step_in outcome_of
same_handed p w e c is = ap (λ (x : Entry). cond (is_of c e) (handed_by x.reply) []) is

step_totals : (p : Plan) (w : World) (h : List Entry) (e : Entry) (c id : ℕ) (z : Client) → Accounted p w h → e ≡ entry_in p w e.event → client_at (step_in p w e.event).world c ≡ Some z
    → Totals (step_in p w e.event).world.subs (h ++ e ∷ []) c id z
step_totals p w h e c id z i is found =
    let s = stepped p w e c id z i.numbers i.rising is found in
    let t = i.totals c id s.goes.before s.goes.found in
    let a = s.goes.answered in
    let b = s.given in
    let handed = ap (sum_by (count_of id)) (same_handed p w e c is) in
    let more = handed_more h e c id in
    let returned = returned_more h e c id in
    let reclaimed = a.reclaimed t.in_queue in
    record {
      lent = omega (arith, b.lent, a.lent, t.lent, s.goes.subs, step_subs p w e.event c id);
      queued = omega (arith, b.queued, a.queued, t.queued, returned, s.effect size_of);
      reclaimed = omega (arith, b.reclaimed, reclaimed, t.reclaimed, more, handed);
      in_queue = omega (arith, b.queued, a.queued, b.reclaimed, reclaimed, b.in_queue, a.in_queue, t.in_queue);
      paid = b.paid (omega (arith, a.queued, a.lent, t.paid));
    }

pub steps_accounted : (p : Plan) → Steps p (Accounted p)
steps_accounted p w h e i names is =
    record {
      numbers = steps_numbers p w h e i.numbers names is;
      rising = λ c z found. (stepped p w e c 0 z i.numbers i.rising is found).given.rising;
      totals = λ c id z found. step_totals p w h e c id z i is found;
    }

new_empty : (n c : ℕ) (files : List ClientFile) (x : Client) → find (λ y. y.number == c) (new_clients n files) ≡ Some x → (x.resources ≡ []) × (x.queue ≡ [])
new_empty n c [] x h = absurd (cc)
new_empty n c (f ∷ fs) x h =
    elim (n == c) as (λ (t : Bool). cond t (Some (new_client n f.sink)) (find (λ (y : Client). y.number == c) (new_clients (n + 1) fs)) ≡ Some x → (x.resources ≡ []) × (x.queue ≡ [])) [
      | true ↦ λ e. let s : new_client n f.sink ≡ x = some_same (new_client n f.sink) x e in (ap (λ (y : Client). y.resources) (sym s), ap (λ (y : Client). y.queue) (sym s))
      | false ↦ λ e. new_empty (n + 1) c fs x e
    ] h

opening_totals : (c id : ℕ) (x : Client) → x.resources ≡ [] → x.queue ≡ [] → Totals [] [] c id x
unfolding returned_over handed_over mine
opening_totals c id x none empty =
    let lent = ap (λ rs. counted (λ s. s.lent) (resource_in id rs)) none in
    let queued = ap (λ rs. counted (λ s. s.queued) (resource_in id rs)) none in
    let reclaimed = ap (λ rs. counted (λ s. s.reclaimed) (resource_in id rs)) none in
    record {
      lent = lent;
      queued = queued;
      reclaimed = reclaimed;
      in_queue = omega (arith, queued, reclaimed, ap (sum_by (count_of id)) empty);
      paid = omega (arith, queued);
    }

pub opening_accounted : (p : Plan) → Accounted p (opening p) []
unfolding opening
opening_accounted p =
    record {
      numbers = refl;
      rising = λ c x found. subst (Rising id_of) (sym (new_empty 1 c p.files x found).0) tt;
      totals = λ c id x found. let none = new_empty 1 c p.files x found in opening_totals c id x none.0 none.1;
    }

-- so it is after each legal history
pub accounted : (p : Plan) (h : List Entry) → Legal p h → Accounted p (world p h) h
accounted p h l = along p (Accounted p) (steps_accounted p) (opening_accounted p) h l

-- The accounts

held_given : (o : Option Resource) → counted (λ s. s.queued) o ≤ counted (λ s. s.lent) o → counted (λ s. s.lent) o ≡ counted (λ s. s.queued) o + counted (λ s. cond (nat_lt s.queued s.lent) (s.lent - s.queued) 0) o
held_given None h = omega arith
held_given (Some s) h =
    elim (nat_lt s.queued s.lent) as (λ (t : Bool). nat_lt s.queued s.lent ≡ t → s.lent ≡ s.queued + cond t (s.lent - s.queued) 0) [
      | true ↦ λ e. omega arith
      | false ↦ λ e. omega (arith, ltb-false s.queued s.lent e, h)
    ] refl

held_share : (w : World) (c id : ℕ) (x : Client) → Rising number_of w.clients → client_at w c ≡ Some x → Rising id_of x.resources → total_of (λ s. s.queued) id x ≤ total_of (λ s. s.lent) id x
    → total_of (λ s. s.lent) id x ≡ total_of (λ s. s.queued) id x + sum_by (share_of c id) (rest_in w).held
unfolding rest_in
held_share w c id x up found rising paid =
    let out : ℕ → Resource → Bool = λ n s. nat_lt s.queued s.lent in
    let share = share_is size_of out c id w.clients x up found rising in
    held_given (resource_in id x.resources) paid ∙ ap (λ n. total_of (λ s. s.queued) id x + n) (sym share)

-- the accounts of each client of the plan and each resource
pub accounts_are : (p : Plan) (h : List Entry) (c id : ℕ) → Legal p h → NamesClient p (event.Client c) → AreAccounts p h c id
unfolding rest_of
accounts_are p h c id l names =
    let w : World = world p h in
    let i = accounted p h l in
    let there = client_there p w c i.numbers names in
    let x : Client = there.0 in
    let t = i.totals c id x there.1 in
    let of : (Client → ℕ) → Type 0 = λ number. of_client number (client_at w c) ≡ number x in
    let at : (number : Client → ℕ) → of number = λ number. ap (of_client number) there.1 in
    let lent = at (total_of (λ s. s.lent) id) in
    let queued = at (total_of (λ s. s.queued) id) in
    let reclaimed = at (total_of (λ s. s.reclaimed) id) in
    let waiting = at (λ y. sum_by (count_of id) y.queue) in
    let held = held_share w c id x (numbers_rise p w i.numbers) there.1 (i.rising c x there.1) t.paid in
    record {
      lent = lent ∙ (t.lent ∙ borrowed_are_lent p h c id l);
      borrowed = lent ∙ t.lent;
      queued = queued ∙ t.queued;
      reclaimed = reclaimed ∙ t.reclaimed;
      in_queue = omega (arith, queued, reclaimed, waiting, t.in_queue);
      held = omega (arith, lent, queued, held);
    }
