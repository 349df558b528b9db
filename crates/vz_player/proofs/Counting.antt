-- How many steps each actor has taken.
use Rattle.std.proofs.Common.{◌≡◌, ℕ, ◌+◌, ◌<◌, ◌≤◌, Bool, true, false, ◌==◌, List, [], ◌∷◌, ◌++◌, length, take, drop, get_or, refl, sym, ap, subst, ◌∙◌, arith, zero, suc, cond, replicate}
use Rattle.std.specs.{Prelude.min, Prelude.count_by, Prelude.◌^◌, Prelude.◌-◌, List.All}
use Rattle.std.proofs.{lemmas.List.length-replicate, lemmas.Bool.eqb-true, lemmas.List.take_more, lemmas.Grind.common_steps, lemmas.Bool.Decides.nat_tests}
use Rattle.vz_rules.proofs.Counts.{count_push}
use Rattle.vz_base.specs.declared.limits.TheConstants.{MOST_FILES}
use Rattle.vz_rules.specs.{Plan.Plan, declared.entry.Event.Event}
use Rattle.vz_rules.specs.{World.World, World.opening, declared.entry.Entry.Entry, Step.step_in, Step.NamesClient, Step.LegalFrom, Step.Legal}
use Rattle.vz_rules.specs.declared.entry.Event.TheVariants as event
use Rattle.vz_player.specs.Played.{next_number, actor_in, is_step_of, steps_of, HasCounted}

pub capped : (n : ℕ) → next_number (min n (2 ^ 64 - 1)) ≡ min (n + 1) (2 ^ 64 - 1)
capped n = omega arith

-- one number is put in the place of another
put_here : (taken : List ℕ) (i n : ℕ) → i < length taken → get_or (take i taken ++ n ∷ drop (i + 1) taken) i 0 ≡ n
put_here taken i n here = grind (arith, common_steps)

put_there : (taken : List ℕ) (i n k : ℕ) → i < length taken → (i ≡ k → ⊥) → get_or (take i taken ++ n ∷ drop (i + 1) taken) k 0 ≡ get_or taken k 0
put_there taken i n k here other = grind (arith, common_steps)

put_length : (taken : List ℕ) (i n : ℕ) → i < length taken → length (take i taken ++ n ∷ drop (i + 1) taken) ≡ length taken
put_length taken i n here = grind (arith, common_steps)

eqb_self : (n : ℕ) → (n == n) ≡ true
eqb_self n = grind (arith, nat_tests)

pub count_more : (h : List Entry) (e : Entry) (k : ℕ) → count_by (is_step_of k) (h ++ e ∷ []) ≡ count_by (is_step_of k) h + cond (actor_in e.event == k) 1 0
count_more h e k = count_push (is_step_of k) h e

-- the number of one actor, where the step is its own and where it is not
one_number : (h : List Entry) (e : Entry) (taken new : List ℕ) (n k : ℕ) (t : Bool) → (actor_in e.event == k) ≡ t → actor_in e.event < length taken → n ≡ next_number (get_or taken (actor_in e.event) 0)
    → new ≡ take (actor_in e.event) taken ++ n ∷ drop (actor_in e.event + 1) taken → get_or taken k 0 ≡ steps_of h k → get_or new k 0 ≡ steps_of (h ++ e ∷ []) k
one_number h e taken new n k true is here number counted before =
    let same : actor_in e.event ≡ k = eqb-true (actor_in e.event) k is in
    let more : ◌≡◌ {A = ℕ} (cond (actor_in e.event == k) 1 0) 1 = ap {B = ℕ} (λ (t : Bool). cond t 1 0) is in
    ap (λ l. get_or l k 0) counted
    ∙ (ap (λ i. get_or (take (actor_in e.event) taken ++ n ∷ drop (actor_in e.event + 1) taken) i 0) (sym same)
    ∙ (put_here taken (actor_in e.event) n here
    ∙ (number ∙ (ap (λ i. next_number (get_or taken i 0)) same
    ∙ (ap next_number before ∙ (capped (count_by (is_step_of k) h)
    ∙ ap (λ m. min m (2 ^ 64 - 1)) (sym (count_more h e k ∙ ap (λ m. count_by (is_step_of k) h + m) more))))))))
one_number h e taken new n k false is here number counted before =
    let none : ◌≡◌ {A = ℕ} (cond (actor_in e.event == k) 1 0) 0 = ap {B = ℕ} (λ (t : Bool). cond t 1 0) is in
    let same : count_by (is_step_of k) h ≡ count_by (is_step_of k) (h ++ e ∷ []) = omega (arith, none, count_more h e k) in
    ap (λ l. get_or l k 0) counted
    ∙ (put_there taken (actor_in e.event) n k here (λ at. differ (sym (ap (λ j. actor_in e.event == j) (sym at)) ∙ is))
    ∙ (before ∙ ap (λ m. min m (2 ^ 64 - 1)) same))
  where
    differ : (actor_in e.event == actor_in e.event) ≡ false → ⊥
    differ q = let w : true ≡ false = sym (eqb_self (actor_in e.event)) ∙ q in cc

-- a step more was counted
pub one_counted : (most : ℕ) (h : List Entry) (e : Entry) (taken new : List ℕ) (n : ℕ) → HasCounted most h taken → actor_in e.event < most → n ≡ next_number (get_or taken (actor_in e.event) 0)
    → new ≡ take (actor_in e.event) taken ++ n ∷ drop (actor_in e.event + 1) taken → HasCounted most (h ++ e ∷ []) new
one_counted most h e taken new n before here is counted =
    let within : actor_in e.event < length taken = omega (arith, here, before.all) in
    record {
      all = ap length counted ∙ (put_length taken (actor_in e.event) n within ∙ before.all);
      each = λ actor there. one_number h e taken new n actor (actor_in e.event == actor) refl within is counted (before.each actor there);
    }

-- the next entry of a history was counted
pub next_counted : (most : ℕ) (h : List Entry) (i : ℕ) (d : Entry) (v : Event) (taken new : List ℕ) (a n : ℕ) → i < length h → v ≡ (get_or h i d).event → a ≡ actor_in v → All (λ (e : Entry). actor_in e.event < most) h
    → HasCounted most (take i h) taken → n ≡ next_number (get_or taken a 0) → new ≡ take a taken ++ n ∷ drop (a + 1) taken → HasCounted most (take (i + 1) h) new
next_counted most h i d v taken new a n here own actor within before is counted =
    let e : Entry = get_or h i d in
    let at : a ≡ actor_in e.event = actor ∙ ap actor_in own in
    subst (λ (l : List Entry). HasCounted most l new) (sym (take_more h i d here))
    (one_counted most (take i h) e taken new n before (within i d here) (is ∙ ap (λ j. next_number (get_or taken j 0)) at) (counted ∙ ap (λ j. take j taken ++ n ∷ drop (j + 1) taken) at))

-- each entry of a legal history is a step of the display or of a client of the plan
pub actor_within : (p : Plan) (e : Event) → length p.files ≤ MOST_FILES → NamesClient p e → actor_in e < MOST_FILES + 1
actor_within p (event.Client c) few named = omega (arith, few, named.1)
actor_within p event.Begin few named = omega arith
actor_within p event.Draw few named = omega arith
actor_within p event.Done few named = omega arith
actor_within p event.Over few named = omega arith

legal_within : (p : Plan) (w : World) (h : List Entry) (k : ℕ) (d : Entry) → length p.files ≤ MOST_FILES → LegalFrom p w h → k < length h → actor_in (get_or h k d).event < MOST_FILES + 1
unfolding LegalFrom
legal_within p w [] k d few legal here = absurd (omega (arith, here))
legal_within p w (e ∷ h) zero d few legal here = actor_within p e.event few legal.0
legal_within p w (e ∷ h) (suc k) d few legal here = legal_within p (step_in p w e.event).world h k d few legal.2 (omega (arith, here))

pub all_within : (p : Plan) (h : List Entry) → length p.files ≤ MOST_FILES → Legal p h → All (λ (e : Entry). actor_in e.event < MOST_FILES + 1) h
unfolding Legal
all_within p h few legal k d here = legal_within p (opening p) h k d few legal here

-- no step was counted yet
pub none_counted : (most : ℕ) (h : List Entry) (taken : List ℕ) → taken ≡ replicate most 0 → h ≡ [] → HasCounted most h taken
none_counted most h taken is none = record {
  all = ap length is ∙ length-replicate most 0;
  each = λ actor within. ap (λ (l : List ℕ). get_or l actor 0) is ∙ (zeros most actor ∙ ap (λ (l : List Entry). steps_of l actor) (sym none));
}
  where
    zeros : (n i : ℕ) → ◌≡◌ {A = ℕ} (get_or (replicate {A = ℕ} n 0) i 0) 0
    zeros zero i = refl
    zeros (suc n) zero = refl
    zeros (suc n) (suc i) = zeros n i
