-- A submission becomes active at the step after which it has come.
use Rattle.std.proofs.Common.{◌≡◌, ℕ, zero, suc, ◌+◌, ◌≤◌, Bool, true, false, ◌&&◌, ◌||◌, inl, inr, Some, List, [], ◌∷◌, ◌++◌, map, refl, ap, sym, ◌∙◌, subst, cond, arith, slice_get, count_by, append_assoc}
use Rattle.std.specs.List.{list_any, list_all}
use Rattle.std.specs.Prelude.{nat_le}
use Rattle.std.proofs.lemmas.Bool.{and_parts}
use Rattle.vz_ids.specs.declared.LocalSurfaceId.{LocalSurfaceId}
use Rattle.vz_ids.specs.declared.Sub.{Sub}
use Rattle.vz_ids.specs.Ids.{same_sub}
use Rattle.vz_frame.specs.declared.frame.CompositorFrame.{CompositorFrame}
use Rattle.vz_rules.specs.Plan.{Plan, IsPlan}
use Rattle.vz_rules.specs.declared.entry.Entry.{Entry}
use Rattle.vz_rules.specs.declared.entry.Event.{Event}
use Rattle.vz_rules.specs.declared.entry.State.TheVariants.{Dropped}
use Rattle.vz_rules.specs.World.{World, Client, FrameData, Submission, is_waiting, is_active, is_on, sub_of, has_sub}
use Rattle.vz_rules.specs.Settle.{is_met, has_come, is_ready, ready, after_round, round, rounds, settle, activated_in}
use Rattle.vz_rules.specs.Messages.{Answer, id_of, replace_on, accepted}
use Rattle.vz_rules.specs.Step.{answer_to, begin_answer, outcome_of, presented_by, step_in, entry_in, world, Legal}
use Rattle.vz_rules.specs.Accounts.{IsTimely, activations_over}
use Rattle.vz_rules.specs.Kept.{KeepsAlways}
use Rattle.vz_rules.proofs.Facts.{length_map, map_at, same_either}
use Rattle.vz_rules.proofs.Members.{any_at, contains_at, at_contains, at_map, at_same, at_push, at_within}
use Rattle.vz_rules.proofs.Counts.{count_at}
use Rattle.vz_rules.proofs.Kept_facts.{subs_apart, waits_uncome}
use Rattle.vz_rules.proofs.Kept_first.{keeps_world}
use Rattle.vz_rules.proofs.Activated.{activated_are}
use Rattle.vz_rules.proofs.Runs.{world-more}
use Rattle.vz_rules.proofs.Prefixes.{legal-front, legal-at}
use Rattle.vz_rules.proofs.Numbered.{keys_kept}
use Rattle.vz_rules.proofs.Leaves.{after, left, drops, subs_after, dropped_rest, same_come}
use Rattle.vz_rules.proofs.Told.{told_once, activations_more}
use Rattle.vz_rules.proofs.Cases.{answer_cases, few_cases}

-- what its having come depends on
abbrev key : Submission → FrameData × ℕ
key s = (s.submitted, s.due)

rounds_keys : (n : ℕ) (w : World) → map key (rounds n w).subs ≡ map key w.subs
unfolding rounds round
rounds_keys zero w = refl
rounds_keys (suc n) w =
    rounds_keys n (round w)
    ∙ keys_kept key (after_round (is_ready w) (ready w)) w.subs (λ s. same_either key (is_ready w s) (is_active s && list_any (is_on s.submitted.id) (ready w)) _ _ s refl refl)

settle_keys : (w : World) → map key (settle w).subs ≡ map key w.subs
unfolding settle
settle_keys w = rounds_keys _ w

pair_same : (i j : FrameData) (n m : ℕ) → i ≡ j → n ≡ m → ◌≡◌ {A = FrameData × ℕ} (i, n) (j, m)
pair_same i j n m e d = ap (λ (x : FrameData). let y : FrameData × ℕ = (x, n) in y) e ∙ ap (λ (k : ℕ). let y : FrameData × ℕ = (j, k) in y) d

left_keys : (presented : List Sub) (w : World) → map key (after presented w).subs ≡ map key w.subs
left_keys presented w =
    ap (map key) (subs_after presented w)
    ∙ keys_kept key (left presented w) w.subs (λ s. let r = dropped_rest presented w (drops presented w s) s in pair_same _ _ _ _ r.0 r.2)

step_keys : (p : Plan) (w : World) (e : Event) → map key (step_in p w e).world.subs ≡ map key (answer_to p w e).world.subs
unfolding step_in outcome_of
step_keys p w e = left_keys (presented_by w e) (settle (answer_to p w e).world) ∙ settle_keys (answer_to p w e).world

step_come : (p : Plan) (w : World) (e : Event) (s : Submission) → has_come (step_in p w e).world s ≡ has_come (settle (answer_to p w e).world) s
unfolding step_in outcome_of
step_come p w e s = same_come (presented_by w e) (settle (answer_to p w e).world) s

-- What waits behind an answer waited before

abbrev Waited : World → Answer → Type 0
Waited w a =
    (n : ℕ) (s before : Submission) → slice_get a.world.subs n ≡ Some s → is_waiting s ≡ true → slice_get w.subs n ≡ Some before → is_waiting before ≡ true

waited_same : (xs : List Submission) (n : ℕ) (s before : Submission) → slice_get xs n ≡ Some s → is_waiting s ≡ true → slice_get xs n ≡ Some before → is_waiting before ≡ true
waited_same xs n s before at h was = ap is_waiting (at_same xs n n before s was at refl) ∙ h

replaced_waits : (t : Bool) (s : Submission) → is_waiting (cond t (record s { state = Dropped }) s) ≡ true → is_waiting s ≡ true
replaced_waits true s h = absurd (cc)
replaced_waits false s h = h

accepted_waited : (w : World) (c : Client) (local : LocalSurfaceId) (frame : CompositorFrame) → Waited w (accepted w c local frame)
unfolding accepted
accepted_waited w c local frame n s before at h was =
    let replace : Submission → Submission = replace_on (id_of c local) in
    elim (at_push (map replace w.subs) _ n s at) [
      | inl r ↦
          let m = at_map replace w.subs n s r.0 in
          let same : m.0 ≡ before = at_same w.subs n n m.0 before m.1 was refl in
          ap is_waiting (sym same) ∙ replaced_waits (is_waiting m.0 && is_on (id_of c local) m.0) m.0 (ap is_waiting m.2 ∙ h)
      | inr r ↦ absurd (omega (arith, at_within w.subs n before was, r.0, length_map replace w.subs))
    ]

answer_waited : (p : Plan) (w : World) (e : Event) → Waited w (answer_to p w e)
unfolding begin_answer
answer_waited p w e =
    let same : Waited w (record { reply = (answer_to p w e).reply; world = w }) = waited_same w.subs in
    answer_cases p w (λ d a. Waited w a) (λ n. few_cases p w n (Waited w) (record {
      others = λ r a b clients root relations. same;
      submitted = λ c found number local frame good at. accepted_waited w c local frame;
      left = λ c clients. same;
    })) (record { begins = same; draws = λ r quiet last in_flight. same; dones = λ r quiet in_flight. same; overs = same }) e

-- One entry

-- what became active by a step waited behind its own change, and has come in the world that is left
record Came (p : Plan) (w : World) (e : Event) (n : ℕ) (s : Submission) : Type 0 where
  middle : Submission
  at : slice_get (answer_to p w e).world.subs n ≡ Some middle
  waits : is_waiting middle ≡ true
  come : has_come (step_in p w e).world s ≡ true

come_by : (w : World) (s t : Submission) → key s ≡ key t → has_come w s ≡ has_come w t
unfolding has_come
come_by w s t e = ap (λ (k : FrameData × ℕ). list_all (is_met w) k.0.frame.metadata.dependencies || nat_le k.1 w.tick) e

step_came : (p : Plan) (w : World) (e : Event) (n : ℕ) (s : Submission) → KeepsAlways (step_in p w e).world → slice_get (step_in p w e).world.subs n ≡ Some s
    → has_sub (activated_in (answer_to p w e).world) (sub_of s) ≡ true → Came p w e n s
step_came p w e n s keeps at h =
    let a : World = (answer_to p w e).world in
    let v : World = (step_in p w e).world in
    let t = any_at (λ (x : Submission). (is_waiting x && has_come (settle a) x) && same_sub (sub_of s) (sub_of x)) a.subs (sym (activated_are a (sub_of s)) ∙ h) in
    let outer = and_parts (is_waiting t.0 && has_come (settle a) t.0) (same_sub (sub_of s) (sub_of t.0)) t.2 in
    let inner = and_parts (is_waiting t.0) (has_come (settle a) t.0) outer.0 in
    let place = contains_at a.subs t.0 t.1 in
    let keyed : slice_get (map key v.subs) place.0 ≡ Some (key t.0) = ap (λ l. slice_get l place.0) (step_keys p w e) ∙ map_at key a.subs place.0 t.0 place.1 in
    let other = at_map key v.subs place.0 (key t.0) keyed in
    let named : same_sub (sub_of s) (sub_of other.0) ≡ true = ap (λ (k : FrameData × ℕ). same_sub (sub_of s) k.0.sub) other.2 ∙ outer.1 in
    let same : n ≡ place.0 = subs_apart v n place.0 s other.0 keeps at other.1 named in
    let one : s ≡ other.0 = at_same v.subs n place.0 s other.0 at other.1 same in
    record {
      middle = t.0;
      at = ap (slice_get a.subs) same ∙ place.1;
      waits = inner.0;
      come = come_by v s t.0 (ap key one ∙ other.2) ∙ (step_come p w e t.0 ∙ inner.1);
    }

any_count : {A : Type 0} (t : A → Bool) (xs : List A) → list_any t xs ≡ true → 1 ≤ count_by t xs
any_count t xs h =
    let m = any_at t xs h in
    let n = contains_at xs m.0 m.1 in
    omega (arith, count_at t xs n.0 m.0 n.1 m.2)

was_by : (b : Bool) (n m : ℕ) → n ≡ cond b 1 0 → n ≡ m → 1 ≤ m → b ≡ true
was_by true n m e d l = refl
was_by false n m e d l = absurd (omega arith)

-- each activation of a legal history comes at its step
pub activated_timely : (p : Plan) (h : List Entry) (e : Entry) (k : List Entry) (n : ℕ) (s : Submission) → IsPlan p → Legal p (h ++ e ∷ k) → slice_get (world p (h ++ e ∷ [])).subs n ≡ Some s
    → has_sub e.effects.activated (sub_of s) ≡ true → IsTimely p h e n s
unfolding entry_in step_in outcome_of
activated_timely p h e k n s plan l at active =
    let w : World = world p h in
    let more = world-more p h e in
    let made = (legal-at p h k e l).1 in
    let legal : Legal p (h ++ e ∷ []) = legal-front p (h ++ e ∷ []) k (subst (Legal p) (sym (append_assoc h (e ∷ []) k)) l) in
    let came : Came p w e.event n s = step_came p w e.event n s (subst KeepsAlways more (keeps_world p (h ++ e ∷ []) plan).always) (ap (λ (v : World). slice_get v.subs n) (sym more) ∙ at)
    (ap (λ (x : Entry). has_sub x.effects.activated (sub_of s)) (sym made) ∙ active) in
    let told = (told_once p (h ++ e ∷ []) legal).activated n s at in
    let counted = any_count (same_sub (sub_of s)) e.effects.activated active in
    record {
      waited = λ before was. answer_waited p w e.event n came.middle before came.at came.waits was;
      was_active = was_by s.was_active (activations_over (h ++ e ∷ []) (sub_of s)) (activations_over h (sub_of s) + count_by (same_sub (sub_of s)) e.effects.activated) told (activations_more h e (sub_of s)) (omega (arith, counted));
      has_come = ap (λ v. has_come v s) more ∙ came.come;
    }

-- and what waits has not come
pub waiting_uncome : (p : Plan) (h : List Entry) (n : ℕ) (s : Submission) → IsPlan p → slice_get (world p h).subs n ≡ Some s → is_waiting s ≡ true → has_come (world p h) s ≡ false
waiting_uncome p h n s plan at waits = waits_uncome (world p h) s (keeps_world p h plan) (at_contains (world p h).subs n s at) waits
