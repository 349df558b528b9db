-- That a tick is no later than so many begin-frames, and so each deadline that is waited for comes.
use Rattle.std.proofs.Common.{◌≡◌, ℕ, zero, suc, ◌+◌, ◌≤◌, Bool, true, false, not, List, [], ◌∷◌, ◌++◌, filter, refl, sym, ap, ◌∙◌, arith, cond}
use Rattle.std.specs.Prelude.{count_by}
use Rattle.std.proofs.{lemmas.List.Sums.sum_by-append, lemmas.Bool.Decides.nat_tests}
use Rattle.vz_base.specs.declared.limits.TheConstants.{LAST_TICK, GREATEST_DEADLINE}
use Rattle.vz_rules.specs.{declared.entry.Event.Event, declared.entry.Entry.Entry, Messages.Answer, Messages.accepted, Messages.client_answer}
use Rattle.vz_rules.specs.declared.entry.Event.TheVariants as event
use Rattle.vz_rules.specs.Plan.{Plan, IsPlan}
use Rattle.vz_rules.specs.{World.World, World.Client, World.opening, Course.is_of_client, Course.is_begin, Course.displayed, Course.AreRounds}
use Rattle.vz_rules.specs.Step.{begin_answer, answer_to, presented_by, step_in, world, Legal}
use Rattle.vz_rules.proofs.{Cases.client_cases, Cases.answer_cases, Cases.DisplayCases, Counts.count_push, Counts.count_cons, Kept_planned.plan_world}
use Rattle.vz_rules.proofs.Prefixes.{Steps, along}
use Rattle.vz_threads.specs.Tails.{AllComeDue}
use Rattle.vz_threads.proofs.Coming_due.{outcome_tick}

-- an event is Begin
abbrev begins : Event → Bool
begins event.Begin = true
begins _ = false

-- an answer leaves the tick, but for Begin
abbrev Ticks : World → Event → Answer → Type 0
Ticks w e a = a.world.tick ≤ w.tick + cond (begins e) 1 0

stays : (n : ℕ) → n ≤ n + 0
stays n = omega arith

ticks_client : (p : Plan) (w : World) (n : ℕ) → Ticks w (event.Client n) (client_answer p w n)
unfolding accepted
ticks_client p w n =
    client_cases p w n (Ticks w (event.Client n)) (stays w.tick) (λ (x : Client) found same.
    record {
      turned = λ m r t e. stays w.tick;
      not_yet = λ e. stays w.tick;
      stored = λ id block u e. stays w.tick;
      submitted = λ local frame u e. stays w.tick;
      noted = λ n e. stays w.tick;
      reclaimed = λ e. stays w.tick;
      rooted = λ local root e. stays w.tick;
      joined = λ parent child u e. stays w.tick;
      began = λ n u e. stays w.tick;
      over = λ e. stays w.tick;
      left = λ e. stays w.tick;
    })

ticks_display : (p : Plan) (w : World) → DisplayCases p w (Ticks w)
unfolding begin_answer
ticks_display p w = grind (arith, nat_tests, stays w.tick)

same_test : (v : Event) → begins v ≡ (elim v [ event.Begin ↦ true | _ ↦ false ])
same_test v = grind (arith, nat_tests)

-- an entry counts where its event is Begin
counted_as : (e : Entry) (v : Event) → e.event ≡ v → ◌≡◌ {A = ℕ} (cond (begins v) 1 0) (cond (is_begin e) 1 0)
counted_as e v is = ap {B = ℕ} (λ (t : Bool). cond t 1 0) (ap begins (sym is) ∙ same_test e.event)

tick_steps : (p : Plan) → Steps p (λ w h. w.tick ≤ count_by is_begin h)
unfolding step_in
tick_steps p w h e i names is =
    let answer : (answer_to p w e.event).world.tick ≤ w.tick + cond (begins e.event) 1 0 = answer_cases p w (Ticks w) (ticks_client p w) (ticks_display p w) e.event in
    omega (arith, i, answer, outcome_tick (presented_by w e.event) (answer_to p w e.event), count_push is_begin h e, counted_as e e.event refl)

-- the tick is no later than so many begin-frames
pub tick_upto : (p : Plan) (h : List Entry) → Legal p h → (world p h).tick ≤ count_by is_begin h
unfolding opening
tick_upto p h legal = along p (λ w g. w.tick ≤ count_by is_begin g) (tick_steps p) (omega arith) h legal

-- so each deadline comes behind fewer begin-frames than there are ticks
pub all_come_due : (p : Plan) (h : List Entry) → IsPlan p → Legal p h → count_by is_begin h + GREATEST_DEADLINE ≤ LAST_TICK → AllComeDue (world p h)
all_come_due p h is legal few s there waits = omega (arith, (plan_world p h is).due s there, tick_upto p h legal, few)

-- How many begin-frames rounds have

-- the display's entries have all
displayed_begins : (h : List Entry) → count_by is_begin (filter (λ (e : Entry). not (is_of_client e.event)) h) ≡ count_by is_begin h
displayed_begins [] = refl
displayed_begins (e ∷ h) = grind (arith, nat_tests, count_cons is_begin e, count_cons is_begin e h, displayed_begins h)

begins_none : (e : Entry) (v : Event) → e.event ≡ v → begins v ≡ false → ◌≡◌ {A = ℕ} (cond (is_begin e) 1 0) 0
begins_none e v is none = sym (counted_as e v is) ∙ ap {B = ℕ} (λ (t : Bool). cond t 1 0) none

rounds_begins : (n : ℕ) (es : List Entry) → AreRounds n es → count_by is_begin es ≡ n
rounds_begins zero es is = ap (count_by is_begin) is
rounds_begins (suc n) es is = grind (arith, nat_tests, counted_as is.0, count_cons is_begin is.0, sum_by-append, begins_none, count_cons, rounds_begins n is.2 is.6)

-- rounds and Over have as many as there are rounds
pub begins_of_rounds : (h first : List Entry) (over : Entry) (rounds : ℕ) → displayed h ≡ first ++ over ∷ [] → AreRounds rounds first → over.event ≡ event.Over → count_by is_begin h ≡ rounds
unfolding displayed
begins_of_rounds h first over rounds all rounded ended = grind (arith, nat_tests, begins_none over, displayed_begins h, count_push is_begin first over, rounds_begins rounds first rounded)

-- so behind few enough rounds each deadline that is waited for comes
pub rounds_come_due : (p : Plan) (h first : List Entry) (over : Entry) (rounds : ℕ) → IsPlan p → Legal p h → displayed h ≡ first ++ over ∷ [] → AreRounds rounds first → over.event ≡ event.Over
    → rounds + GREATEST_DEADLINE ≤ LAST_TICK → AllComeDue (world p h)
rounds_come_due p h first over rounds is legal all rounded ended few = grind (arith, nat_tests, all_come_due p h is legal, begins_of_rounds h first over rounds all rounded ended)
