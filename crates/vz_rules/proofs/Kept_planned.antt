-- What a world keeps of its plan, from the first world on and through each history.
use Rattle.std.proofs.Common.{◌≡◌, ℕ, ◌+◌, Bool, true, false, not, ◌&&◌, ◌==◌, Option, Some, List, [], ◌∷◌, length, refl, ap, sym, ◌∙◌, arith, cond, subst, slice_get, Contains}
use Rattle.vz_frame.specs.declared.message.ClientFile.{ClientFile}
use Rattle.vz_rules.specs.declared.entry.Event.{Event}
use Rattle.vz_rules.specs.declared.entry.Entry.{Entry}
use Rattle.vz_rules.specs.Plan.{Plan, IsPlan}
use Rattle.vz_rules.specs.World.{World, Client, new_clients, opening}
use Rattle.vz_rules.specs.Step.{next_tick, is_attached, deliver, begin_answer, answer_to, outcome_of, step_in, presented_by, world_from, world}
use Rattle.vz_rules.specs.Kept.{KeepsAlways, Keeps, KeepsPlan}
use Rattle.vz_rules.proofs.Members.{contains_none, contains_at}
use Rattle.vz_rules.proofs.Kept_steps.{tick_by}
use Rattle.vz_rules.proofs.Kept_first.{client_at_first, keeps_first}
use Rattle.vz_rules.proofs.Kept_between.{keeps_step}
use Rattle.vz_rules.proofs.Kept_plan.{FollowsFile, files_keep, due_later, plan_end}
use Rattle.vz_rules.proofs.Kept_files.{Plans, plans_client}
use Rattle.vz_rules.proofs.Cases.{answer_cases}

-- The events

delivered_file : (t : Bool) (files : List ClientFile) (n now : ℕ) (c : Client) → FollowsFile files n c (cond t (record c { delivered = Some now }) c)
delivered_file true files n now c = record { sink = refl; taken = λ f r l. l; ids = λ i. i }
delivered_file false files n now c = record { sink = refl; taken = λ f r l. l; ids = λ i. i }

plans_begin : (p : Plan) (w : World) → KeepsAlways w → KeepsPlan p w → Plans p (begin_answer p w)
unfolding begin_answer
plans_begin p w a h =
    let next = next_tick w.tick in
    record {
      files = files_keep p.files w.clients (deliver p w next) (λ n c at. delivered_file (is_attached p w c && not c.closed) p.files n next c) h.files;
      due = due_later w.subs w.tick next (tick_by (w.tick == 4294967231) w.tick refl a.time.tick).0 h.due;
    }

pub plans_answer : (p : Plan) (w : World) (e : Event) → IsPlan p → KeepsAlways w → KeepsPlan p w → KeepsPlan p (answer_to p w e).world
plans_answer p w e is a h =
    answer_cases p w (λ d x. Plans p x) (λ n. plans_client p w n is a h) (record {
      begins = plans_begin p w a h;
      draws = λ r quiet last in_flight. record { files = h.files; due = h.due };
      dones = λ r quiet in_flight. record { files = h.files; due = h.due };
      overs = record { files = h.files; due = h.due };
    }) e

-- Histories

-- a step keeps it
pub plan_step : (p : Plan) (w : World) (e : Event) → IsPlan p → KeepsAlways w → KeepsPlan p w → KeepsPlan p (step_in p w e).world
unfolding step_in outcome_of
plan_step p w e is a h = plan_end p (presented_by w e) (answer_to p w e).world (plans_answer p w e is a h)

new_length : (k : ℕ) (files : List ClientFile) → length (new_clients k files) ≡ length files
new_length k [] = refl
new_length k (f ∷ files) = omega (arith, new_length (k + 1) files)

same_found : (f g : ClientFile) (o : Option ClientFile) → o ≡ Some f → o ≡ Some g → f ≡ g
same_found f g o h k = let e : ◌≡◌ {A = Option ClientFile} (Some f) (Some g) = sym h ∙ k in cc

-- the first world does
pub plan_first : (p : Plan) → KeepsPlan p (opening p)
unfolding opening
plan_first p =
    record {
      files = record {
        as_many = new_length 1 p.files;
        sinks = λ n c f q r.
            let m = client_at_first p.files 1 n c q in
            ap (λ (x : Client). x.sink) m.2 ∙ ap (λ (g : ClientFile). g.sink) (same_found m.0 f (slice_get p.files n) m.1 r);
        taken = λ n c f q r. let m = client_at_first p.files 1 n c q in omega (arith, ap (λ (x : Client). x.taken) m.2);
        ids = λ c q s i.
            let at = contains_at (new_clients 1 p.files) c q in
            let m = client_at_first p.files 1 at.0 c at.1 in
            absurd (contains_none s (subst (λ (x : Client). Contains x.resources s) m.2 i));
      };
      due = λ s c. absurd (contains_none s c);
    }

plan_from : (p : Plan) (w : World) (h : List Entry) → IsPlan p → Keeps w → KeepsPlan p w → KeepsPlan p (world_from p w h)
unfolding world_from
plan_from p w [] is a k = k
plan_from p w (e ∷ h) is a k = plan_from p (step_in p w e.event).world h is (keeps_step p w e.event a.always) (plan_step p w e.event is a.always k)

-- and the world after each history
pub plan_world : (p : Plan) (h : List Entry) → IsPlan p → KeepsPlan p (world p h)
unfolding world
plan_world p h is = plan_from p (opening p) h is (keeps_first p is) (plan_first p)
