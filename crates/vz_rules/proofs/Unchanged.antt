-- A refused message changes nothing but the number of messages taken.
use Rattle.std.proofs.Common.{◌≡◌, ℕ, false, List, [], ◌∷◌, ◌++◌, refl, ap, sym, ◌∙◌, cond}
use Rattle.vz_rules.specs.Plan.{Plan, IsPlan}
use Rattle.vz_rules.specs.declared.entry.Entry.{Entry}
use Rattle.vz_rules.specs.declared.entry.Event.TheVariants as event
use Rattle.vz_rules.specs.declared.entry.Refusal.{Refusal}
use Rattle.vz_rules.specs.declared.entry.Refusal.TheVariants as refusal
use Rattle.vz_rules.specs.declared.entry.Reply.{Reply}
use Rattle.vz_rules.specs.declared.entry.Reply.TheVariants as reply
use Rattle.vz_rules.specs.World.{World}
use Rattle.vz_rules.specs.Messages.{Answer, accepted, client_answer}
use Rattle.vz_rules.specs.Step.{Outcome, answer_to, outcome_of, step_in, entry_in, world, Legal}
use Rattle.vz_rules.specs.Whole.{is_in_time}
use Rattle.vz_rules.specs.Kept.{Keeps, no_effects}
use Rattle.vz_rules.specs.Unchanged.{after_taking, ChangesNothing}
use Rattle.vz_rules.proofs.Kept_answers.{keeps_refused}
use Rattle.vz_rules.proofs.Kept_first.{keeps_world}
use Rattle.vz_rules.proofs.Kept_quiet.{nothing_follows}
use Rattle.vz_rules.proofs.Runs.{world-more}
use Rattle.vz_rules.proofs.Prefixes.{legal-at}
use Rattle.vz_rules.proofs.Cases.{client_cases}

-- what is refused leaves the world, or the message is taken, and it leaves what is kept between steps
record IsLeft (w : World) (c : ℕ) (r : Refusal) (a : Answer) : Type 0 where
  world : a.world ≡ cond (is_in_time (reply.Refused r)) (after_taking c w) w
  keeps : Keeps a.world

abbrev LeavesWorld : World → ℕ → Answer → Type 0
LeavesWorld w c a = (r : Refusal) → a.reply ≡ reply.Refused r → IsLeft w c r a

same_refusal : (r s : Refusal) → ◌≡◌ {A = Reply} (reply.Refused r) (reply.Refused s) → is_in_time (reply.Refused s) ≡ is_in_time (reply.Refused r)
same_refusal r s e = let same : r ≡ s = cc in ap (λ x. is_in_time (reply.Refused x)) (sym same)

stays_left : (w : World) (c : ℕ) (r s : Refusal) → Keeps w → is_in_time (reply.Refused r) ≡ false → ◌≡◌ {A = Reply} (reply.Refused r) (reply.Refused s)
    → IsLeft w c s (record { reply = reply.Refused r; world = w })
stays_left w c r s keeps early e = record { world = ap (λ t. cond t (after_taking c w) w) (sym (same_refusal r s e ∙ early)); keeps = keeps }

refusal_leaves : (p : Plan) (w : World) (c : ℕ) → Keeps w → LeavesWorld w c (client_answer p w c)
unfolding accepted
refusal_leaves p w c keeps =
    client_cases p w c (LeavesWorld w c) (λ s e. stays_left w c refusal.NoMessage s keeps refl e) (λ x found number. record {
      turned = λ m r timely at s e.
          record { world = ap (λ n. after_taking n w) number ∙ ap (λ t. cond t (after_taking c w) w) (sym (same_refusal r s e ∙ timely)); keeps = keeps_refused w x r keeps };
      not_yet = λ at s e. stays_left w c refusal.NotYet s keeps refl e;
      stored = λ id block free at s e. absurd (cc);
      submitted = λ local frame good at s e. absurd (cc);
      noted = λ n at s e. absurd (cc);
      reclaimed = λ at s e. absurd (cc);
      rooted = λ local root at s e. absurd (cc);
      joined = λ parent child good at s e. absurd (cc);
      began = λ n d at s e. absurd (cc);
      over = λ at s e. absurd (cc);
      left = λ at s e. absurd (cc);
    })

-- a refused message changes nothing else, in a world that keeps what is kept between steps
pub refusal_is_all : (p : Plan) (w : World) (c : ℕ) (r : Refusal) → Keeps w → (step_in p w (event.Client c)).reply ≡ reply.Refused r → ChangesNothing w c r (step_in p w (event.Client c))
unfolding step_in answer_to outcome_of
refusal_is_all p w c r keeps e =
    let a : Answer = client_answer p w c in
    let left = refusal_leaves p w c keeps r e in
    let follows = nothing_follows a.reply a.world left.keeps in
    record { effects = ap (λ (o : Outcome). o.effects) follows; world = ap (λ (o : Outcome). o.world) follows ∙ left.world }

-- so does a refused entry of a legal history
pub refused_entry : (p : Plan) (h : List Entry) (e : Entry) (k : List Entry) (c : ℕ) (r : Refusal) → IsPlan p → Legal p (h ++ e ∷ k) → e.event ≡ event.Client c → e.reply ≡ reply.Refused r
    → (e.effects ≡ no_effects) × (world p (h ++ e ∷ []) ≡ cond (is_in_time e.reply) (after_taking c (world p h)) (world p h))
unfolding entry_in
refused_entry p h e k c r plan l mine refused =
    let w : World = world p h in
    let made : e ≡ entry_in p w (event.Client c) = (legal-at p h k e l).1 ∙ ap (entry_in p w) mine in
    let reply_is = ap (λ (x : Entry). x.reply) (sym made) ∙ refused in
    let nothing = refusal_is_all p w c r (keeps_world p h plan) reply_is in (
      ap (λ (x : Entry). x.effects) made ∙ nothing.effects,
      world-more p h e ∙ (ap (λ v. (step_in p w v).world) mine ∙ (nothing.world ∙ ap (λ x. cond (is_in_time x) (after_taking c w) w) (sym refused))),
    )
