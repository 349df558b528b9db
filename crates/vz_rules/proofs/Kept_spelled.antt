-- The replies of a legal history can be spelled, and so the whole of it with its rest.
use Rattle.std.proofs.Common.{◌≡◌, ℕ, ◌+◌, ◌≤◌, true, ◌&&◌, ◌==◌, List, [], ◌∷◌, refl, ap, sym, ◌∙◌, arith, Contains, count_by, is_some}
use Rattle.std.specs.Prelude.{nat_lt, nat_le}
use Rattle.std.specs.List.{list_all}
use Rattle.std.proofs.lemmas.Bool.{and_from, eq-eqb, le-leb, lt-ltb, cond_both}
use Rattle.vz_ids.specs.declared.LocalSurfaceId.{LocalSurfaceId}
use Rattle.vz_ids.specs.declared.SurfaceId.{SurfaceId}
use Rattle.vz_frame.specs.declared.frame.CompositorFrame.{CompositorFrame}
use Rattle.vz_frame.specs.declared.message.Message.TheVariants.{Submit}
use Rattle.vz_frame.specs.Fits.{fits_file}
use Rattle.vz_rules.specs.declared.entry.Event.{Event}
use Rattle.vz_rules.specs.declared.entry.Event.TheVariants as event
use Rattle.vz_rules.specs.declared.entry.Entry.{Entry}
use Rattle.vz_rules.specs.declared.entry.Reply.TheVariants as reply
use Rattle.vz_rules.specs.declared.entry.Returned.{Returned}
use Rattle.vz_rules.specs.Plan.{Plan, IsPlan}
use Rattle.vz_rules.specs.World.{World, Client, is_on, opening}
use Rattle.vz_rules.specs.Messages.{Answer, says, taking, reclaim, accepted, new_submission, id_of, client_answer}
use Rattle.vz_rules.specs.Step.{next_tick, begin_answer, done_answer, answer_to, accepted_frames, outcome_of, step_in, presented_by, entry_in, world, NamesClient, LegalFrom, Legal}
use Rattle.vz_rules.specs.Log.{is_log_client, is_count, has_text_return, answers_client, answers, has_text_entry, has_text_effects, rest_of, Spellable}
use Rattle.vz_rules.specs.Kept.{KeepsAlways, KeepsPlan, Keeps, is_by}
use Rattle.vz_rules.proofs.Reached.{from_same}
use Rattle.vz_rules.proofs.Members.{at_contains, at_within, contains_at, find_at, all_at, all_from}
use Rattle.vz_rules.proofs.Kept_last.{one_client}
use Rattle.vz_rules.proofs.Kept_steps.{tick_by, always_answer}
use Rattle.vz_rules.proofs.Kept_first.{keeps_first, keeps_world}
use Rattle.vz_rules.proofs.Kept_between.{keeps_step}
use Rattle.vz_rules.proofs.Kept_files.{HasRoom, has_room, file_parts}
use Rattle.vz_rules.proofs.Kept_planned.{plan_first, plan_step, plan_world, plans_answer}
use Rattle.vz_rules.proofs.Kept_small.{at_there, count_weaker, small_return}
use Rattle.vz_rules.proofs.Kept_inside.{damage_text}
use Rattle.vz_rules.proofs.Kept_text.{count_text, return_text, effects_text, rest_text}
use Rattle.vz_rules.proofs.Cases.{client_cases, drawing_cases}

-- A client's reply

abbrev Replies : ℕ → Answer → Type 0
Replies n a = answers_client n a.reply ≡ true

-- a client with one more message took few
few_taken : (p : Plan) (w : World) (c : Client) → IsPlan p → KeepsPlan p w → Contains w.clients c → HasRoom p w c → c.taken + 1 ≤ 4096
few_taken p w c is h q room =
    let n = contains_at w.clients c q in
    let within = at_within w.clients n.0 c n.1 in
    let file = at_there p.files n.0 (omega (arith, within, h.files.as_many)) in
    let few = (file_parts file.0 (all_at fits_file p.files file.0 is.all_fit (at_contains p.files n.0 file.0 file.1))).0 in
    omega (arith, room n.0 c file.0 n.1 refl file.1, few)

-- what is on a surface of its sink is its own
own_submissions : (w : World) (c : Client) (local : LocalSurfaceId) → KeepsAlways w → Contains w.clients c
    → count_by (is_on (id_of c local)) w.subs ≤ count_by (is_by c.number) w.subs
own_submissions w c local a q =
    count_weaker (is_on (id_of c local)) (is_by c.number) w.subs (λ s m e.
    let d = a.numbers.created s m in
    let x = a.surfaces.of_clients d.0 d.1 in
    let sink = x.3 ∙ ap (λ (i : SurfaceId). i.sink) (d.2 ∙ from_same s.submitted.id (id_of c local) e) in
    let one = one_client w.clients x.0 c a.clients x.1 q sink in
    eq-eqb s.submitted.sub.client c.number (sym d.3 ∙ (sym x.2 ∙ ap (λ (y : Client). y.number) one)))

replies_accepted : (p : Plan) (w : World) (n : ℕ) (c : Client) (local : LocalSurfaceId) (frame : CompositorFrame) → IsPlan p → KeepsAlways w → KeepsPlan p w
    → Contains w.clients c
    → HasRoom p w c → Replies n (accepted w c local frame)
unfolding answers_client accepted new_submission
replies_accepted p w n c local frame is a h q room =
    let few = few_taken p w c is h q room in
    let taken = (a.shelves c q).taken in
    let own = own_submissions w c local a q in
    and_from (is_count (count_by (λ s. s.submitted.sub.client == c.number) w.subs + 1)) (is_count (count_by (is_on (id_of c local)) w.subs + 1))
    (count_text (count_by (is_by c.number) w.subs + 1) (omega arith) (omega (arith, few, taken)))
    (count_text (count_by (is_on (id_of c local)) w.subs + 1) (omega arith) (omega (arith, few, taken, own)))

replies_reclaimed : (p : Plan) (w v : World) (n : ℕ) (c : Client) → IsPlan p → KeepsAlways w → KeepsPlan p w → Contains w.clients c → c.number ≡ n
    → Replies n (says (reply.Reclaimed c.queue) v)
unfolding answers_client
replies_reclaimed p w v n c is a h q same =
    all_from (λ (r : Returned). (r.client == n) && has_text_return r) c.queue (λ r m.
    let small = small_return p w is a h c r q m in
    and_from (r.client == n) (has_text_return r) (eq-eqb r.client n (((a.shelves c q).returns r m).client ∙ same))
    (return_text r.client r.id r.count small.client small.id.0 small.id.1 small.count.0 small.count.1))

client_replies : (p : Plan) (w : World) (n : ℕ) → IsPlan p → KeepsAlways w → KeepsPlan p w → Replies n (client_answer p w n)
unfolding answers_client
client_replies p w n is a h =
    client_cases p w n (Replies n) refl (λ c e number.
    let q = (find_at (λ (x : Client). x.number == n) w.clients c e).0 in
    record {
      turned = λ m r timely at. refl;
      not_yet = λ at. refl;
      stored = λ id block free at. refl;
      submitted = λ local frame good at. replies_accepted p w n c local frame is a h q (has_room p w c (Submit frame local) a.clients q at);
      noted = λ k at. refl;
      reclaimed = λ at. replies_reclaimed p w (taking reclaim c w) n c is a h q number;
      rooted = λ local root at. refl;
      joined = λ parent child good at. refl;
      began = λ k d at. le-leb k 4294967295 (omega (arith, a.time.delivered c k q d, a.time.tick));
      over = λ at. refl;
      left = λ at. refl;
    })

-- A reply to an event

abbrev Answers : Event → Answer → Type 0
Answers e a = answers e a.reply ≡ true

event_answers : (p : Plan) (w : World) (e : Event) → IsPlan p → NamesClient p e → KeepsAlways w → KeepsPlan p w → Answers e (answer_to p w e)
unfolding answer_to begin_answer done_answer answers
event_answers p w (event.Client c) is names a h =
    and_from (is_log_client c) _ (and_from (nat_lt 0 c) (nat_le c 16) (lt-ltb 0 c names.0) (le-leb c 16 (omega (arith, names.1, is.few_files)))) (client_replies p w c is a h)
event_answers p w event.Begin is names a h =
    le-leb (next_tick w.tick) 4294967295 (omega (arith, (tick_by (w.tick == 4294967231) w.tick refl a.time.tick).1))
event_answers p w event.Draw is names a h =
    drawing_cases p w (Answers event.Draw) refl refl (λ scene idle e. record { much = refl; unchanged = λ some none. refl; drawn = damage_text p.size w.last (accepted_frames w) scene is.sizes })
event_answers p w event.Done is names a h = cond_both (is_some w.in_flight) _ _ (Answers event.Done) (λ e. refl) (λ e. refl)
event_answers p w event.Over is names a h = refl

-- Histories

entry_text : (p : Plan) (w : World) (e : Event) → IsPlan p → NamesClient p e → KeepsAlways w → KeepsPlan p w → has_text_entry (entry_in p w e) ≡ true
unfolding entry_in step_in outcome_of answer_to
entry_text p w e is names a h =
    and_from (answers e (answer_to p w e).reply) (has_text_effects (outcome_of (presented_by w e) (answer_to p w e)).effects) (event_answers p w e is names a h)
    (effects_text p w e is (always_answer p w e a) (plans_answer p w e is a h))

history_text : (p : Plan) (w : World) (h : List Entry) → IsPlan p → LegalFrom p w h → Keeps w → KeepsPlan p w → list_all has_text_entry h ≡ true
unfolding LegalFrom
history_text p w [] is legal a k = refl
history_text p w (x ∷ h) is legal a k =
    and_from (has_text_entry x) (list_all has_text_entry h) (ap has_text_entry legal.1 ∙ entry_text p w x.event is legal.0 a.always k)
    (history_text p (step_in p w x.event).world h is legal.2 (keeps_step p w x.event a.always) (plan_step p w x.event is a.always k))

-- a legal history can be spelled with its rest
pub legal_spelled : (p : Plan) (h : List Entry) → IsPlan p → Legal p h → Spellable h (rest_of p h)
unfolding Legal Spellable rest_of
legal_spelled p h is legal =
    let always = (keeps_world p h is).always in
    let rest = rest_text p (world p h) is always (plan_world p h is) in
    (history_text p (opening p) h is legal (keeps_first p is) (plan_first p), rest.0, rest.1)
