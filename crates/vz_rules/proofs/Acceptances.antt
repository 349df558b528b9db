-- The submissions of a world are those that the accepting entries took from the files, in order.
use Rattle.std.proofs.Common.{◌≡◌, ℕ, ◌+◌, Bool, false, ◌&&◌, ◌⊎◌, inl, inr, Some, List, [], ◌∷◌, ◌++◌, map, length, refl, ap, sym, ◌∙◌, subst, cond, arith, slice_get, count_by, append_assoc, length-append}
use Rattle.std.proofs.lemmas.List.Sums.{sum_by_push}
use Rattle.vz_ids.specs.declared.LocalSurfaceId.{LocalSurfaceId}
use Rattle.vz_frame.specs.declared.frame.CompositorFrame.{CompositorFrame}
use Rattle.vz_frame.specs.declared.message.Message.TheVariants.{Submit}
use Rattle.vz_rules.specs.Plan.{Plan}
use Rattle.vz_rules.specs.declared.entry.Event.{Event}
use Rattle.vz_rules.specs.declared.entry.Event.TheVariants as event
use Rattle.vz_rules.specs.declared.entry.Entry.{Entry}
use Rattle.vz_rules.specs.declared.entry.Reply.TheVariants as reply
use Rattle.vz_rules.specs.World.{World, Client, FrameData, Submission, client_at, next_message, is_waiting, is_on, opening}
use Rattle.vz_rules.specs.Messages.{Answer, id_of, new_submission, replace_on, accepted, client_answer}
use Rattle.vz_rules.specs.Step.{answer_to, begin_answer, outcome_of, presented_by, step_in, entry_in, world, Legal}
use Rattle.vz_rules.specs.Whole.{mine}
use Rattle.vz_rules.specs.Accounts.{of_client, takes, taken_in, message_at, accepts, IsAcceptance}
use Rattle.vz_rules.proofs.Facts.{length_map, map_at, same_when}
use Rattle.vz_rules.proofs.Prefixes.{Steps, along}
use Rattle.vz_rules.proofs.Follow_ups.{frames_of, frames_kept, outcome_frames}
use Rattle.vz_rules.proofs.Taken.{steps_taken, none_taken}
use Rattle.vz_rules.proofs.Cases.{is_acceptance, DisplayCases, answer_cases, few_cases}
use Rattle.vz_rules.proofs.Members.{at_push}

-- One answer

-- an answer by which a client's submission is accepted
pub record Accepts (p : Plan) (w : World) (e : Event) (a : Answer) : Type 0 where
  pub client : Client
  pub new : FrameData
  pub found : client_at w client.number ≡ Some client
  pub event : e ≡ event.Client client.number
  pub client_is : new.sub.client ≡ client.number
  pub next : next_message p client ≡ Some (Submit new.frame new.id.local)
  pub active : frames_of a.world.subs ≡ frames_of w.subs ++ new ∷ []
  pub reply : a.reply ≡ reply.Accepted new.sub.ordinal new.index

-- one by which none is
pub record AcceptsNone (w : World) (a : Answer) : Type 0 where
  pub active : frames_of a.world.subs ≡ frames_of w.subs
  pub reply : is_acceptance a.reply ≡ false

abbrev pub Either : Plan → World → Event → Answer → Type 0
Either p w e a = AcceptsNone w a ⊎ Accepts p w e a

frames_push : (xs : List Submission) (s : Submission) → frames_of (xs ++ s ∷ []) ≡ frames_of xs ++ s.submitted ∷ []
frames_push [] s = refl
frames_push (x ∷ xs) s = ap (λ l. x.submitted ∷ l) (frames_push xs s)

accepted_one : (p : Plan) (w : World) (n : ℕ) (c : Client) (local : LocalSurfaceId) (frame : CompositorFrame) → client_at w n ≡ Some c → c.number ≡ n → next_message p c ≡ Some (Submit frame local)
    → Accepts p w (event.Client n) (accepted w c local frame)
unfolding accepted new_submission
accepted_one p w n c local frame e number next =
    let replace : Submission → Submission = replace_on (id_of c local) in
    record {
      client = c;
      new = (new_submission w c local frame).submitted;
      found = ap (client_at w) number ∙ e;
      event = ap event.Client (sym number);
      client_is = refl;
      next = next;
      active = frames_push (map replace w.subs) (new_submission w c local frame)
          ∙ ap (λ l. l ++ (new_submission w c local frame).submitted ∷ []) (frames_kept replace w.subs (λ s. same_when (λ (x : Submission). x.submitted) (is_waiting s && is_on (id_of c local) s) _ s refl));
      reply = refl;
    }

client_either : (p : Plan) (w : World) (n : ℕ) → Either p w (event.Client n) (client_answer p w n)
client_either p w n =
    let none : (a : Answer) → frames_of a.world.subs ≡ frames_of w.subs → is_acceptance a.reply ≡ false → Either p w (event.Client n) a = λ a same no. inl (record { active = same; reply = no }) in
    few_cases p w n (Either p w (event.Client n)) (record {
      others = λ r a b clients root relations. none _ refl b;
      submitted = λ c e number local frame good at. inr (accepted_one p w n c local frame e number at);
      left = λ c clients. none _ refl refl;
    })

display_either : (p : Plan) (w : World) → DisplayCases p w (Either p w)
unfolding begin_answer
display_either p w =
    record {
      begins = inl (record { active = refl; reply = refl });
      draws = λ r quiet last in_flight. inl (record { active = refl; reply = quiet });
      dones = λ r quiet in_flight. inl (record { active = refl; reply = quiet });
      overs = inl (record { active = refl; reply = refl });
    }

pub answer_either : (p : Plan) (w : World) (e : Event) → Either p w e (answer_to p w e)
answer_either p w e = answer_cases p w (Either p w) (client_either p w) (display_either p w) e

-- Along a history

record Kept (p : Plan) (w : World) (h : List Entry) : Type 0 where
  taken : (c : ℕ) → taken_in w c ≡ length (takes h c)
  count : length (frames_of w.subs) ≡ count_by accepts h
  each : (n : ℕ) (i : FrameData) → slice_get (frames_of w.subs) n ≡ Some i → IsAcceptance p h n i

longer : (p : Plan) (h : List Entry) (e : Entry) (n : ℕ) (i : FrameData) → IsAcceptance p h n i → IsAcceptance p (h ++ e ∷ []) n i
longer p h e n i a =
    record {
      before = a.before;
      behind = a.behind ++ e ∷ [];
      entry = a.entry;
      stands = ap (λ l. l ++ e ∷ []) a.stands ∙ append_assoc a.before (a.entry ∷ a.behind) (e ∷ []);
      earlier = a.earlier;
      mine = a.mine;
      in_file = a.in_file;
      reply = a.reply;
    }

accepts_more : (h : List Entry) (e : Entry) → count_by accepts (h ++ e ∷ []) ≡ count_by accepts h + cond (is_acceptance e.reply) 1 0
accepts_more h e = sum_by_push (λ x. cond (accepts x) 1 0) h e

module _ (p : Plan) (w : World) (h : List Entry) (e : Entry) (i : Kept p w h) (is : e ≡ entry_in p w e.event) where
  abbrev later : World
  later = (step_in p w e.event).world

  abbrev now : Answer
  now = answer_to p w e.event

  later_frames : frames_of later.subs ≡ frames_of now.world.subs
  unfolding step_in
  later_frames = outcome_frames (presented_by w e.event) now

  same_reply : e.reply ≡ now.reply
  unfolding entry_in step_in outcome_of
  same_reply = ap (λ (x : Entry). x.reply) is

  none_later : AcceptsNone w now → ((c : ℕ) → taken_in later c ≡ length (takes (h ++ e ∷ []) c)) → Kept p later (h ++ e ∷ [])
  none_later a taken =
      let same = later_frames ∙ a.active in
      let plain : ◌≡◌ {A = ℕ} (cond (is_acceptance e.reply) 1 0) 0 = ap {B = ℕ} (λ (b : Bool). cond b 1 0) (ap is_acceptance same_reply ∙ a.reply) in
      record {
        taken = taken;
        count = ap length same ∙ omega (arith, i.count, accepts_more h e, plain);
        each = λ n j at. longer p h e n j (i.each n j (ap (λ l. slice_get l n) (sym same) ∙ at));
      }

  new_here : (a : Accepts p w e.event now) → IsAcceptance p (h ++ e ∷ []) (length (frames_of w.subs)) a.new
  new_here a =
      let c : ℕ = a.client.number in
      let place : length (takes h c) ≡ a.client.taken = sym (i.taken c) ∙ ap (of_client (λ x. x.taken)) a.found in
      record {
        before = h;
        behind = [];
        entry = e;
        stands = refl;
        earlier = sym i.count;
        mine = a.event ∙ ap event.Client (sym a.client_is);
        in_file = ap (λ n. message_at p n (length (takes h n))) a.client_is ∙ (ap (message_at p c) place ∙ a.next);
        reply = same_reply ∙ a.reply;
      }

  one_later : Accepts p w e.event now → ((c : ℕ) → taken_in later c ≡ length (takes (h ++ e ∷ []) c)) → Kept p later (h ++ e ∷ [])
  one_later a taken =
      let same = later_frames ∙ a.active in
      let one : ◌≡◌ {A = ℕ} (cond (is_acceptance e.reply) 1 0) 1 = ap {B = ℕ} (λ (b : Bool). cond b 1 0) (ap is_acceptance (same_reply ∙ a.reply)) in
      record {
        taken = taken;
        count = ap length same ∙ (length-append (frames_of w.subs) (a.new ∷ []) ∙ omega (arith, i.count, accepts_more h e, one));
        each = λ n j at. elim (at_push (frames_of w.subs) a.new n j (ap (λ l. slice_get l n) (sym same) ∙ at)) [
          | inl k ↦ longer p h e n j (i.each n j k.0)
          | inr k ↦ subst (λ x. IsAcceptance p (h ++ e ∷ []) n x) k.1 (subst (λ m. IsAcceptance p (h ++ e ∷ []) m a.new) (sym k.0) (new_here a))
        ];
      }

steps_kept : (p : Plan) → Steps p (Kept p)
steps_kept p w h e i names is =
    let taken : (c : ℕ) → taken_in (step_in p w e.event).world c ≡ length (takes (h ++ e ∷ []) c) = λ c. steps_taken p c w h e (i.taken c) names is in
    elim (answer_either p w e.event) [ inl a ↦ none_later p w h e i is a taken | inr a ↦ one_later p w h e i is a taken ]

opening_kept : (p : Plan) → Kept p (opening p) []
unfolding opening takes mine
opening_kept p = record { taken = λ c. none_taken 1 c p.files; count = refl; each = λ n i at. absurd (cc) }

kept : (p : Plan) (h : List Entry) → Legal p h → Kept p (world p h) h
kept p h l = along p (Kept p) (steps_kept p) (opening_kept p) h l

-- there are as many submissions as entries that accept
pub acceptances_count : (p : Plan) (h : List Entry) → Legal p h → length (world p h).subs ≡ count_by accepts h
acceptances_count p h l = sym (length_map (λ (s : Submission). s.submitted) (world p h).subs) ∙ (kept p h l).count

-- and each is that of the entry at its place
pub acceptances_are : (p : Plan) (h : List Entry) (n : ℕ) (s : Submission) → Legal p h → slice_get (world p h).subs n ≡ Some s → IsAcceptance p h n s.submitted
acceptances_are p h n s l at = (kept p h l).each n s.submitted (map_at (λ (x : Submission). x.submitted) (world p h).subs n s at)
