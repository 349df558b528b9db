-- That begin-frames come to an end: with each the tick is nearer to the latest deadline that is waited for.
use Rattle.std.proofs.Common.{◌≡◌, ℕ, zero, suc, ◌+◌, ◌-◌, ◌<◌, ◌≤◌, ◌&&◌, Bool, true, false, List, [], ◌∷◌, length, map, refl, sym, ap, ◌∙◌, arith, cond, Contains}
use Rattle.std.specs.{Prelude.max, Prelude.nat_le, List.list_all}
use Rattle.std.proofs.{lemmas.Bool.ne_eqb, lemmas.Bool.leb-false, lemmas.Bool.Decides.nat_tests}
use Rattle.vz_base.specs.declared.limits.TheConstants.{LAST_TICK}
use Rattle.vz_ids.specs.declared.Sub.{Sub}
use Rattle.vz_rules.specs.declared.entry.Event.TheVariants as event
use Rattle.vz_rules.specs.{declared.entry.Entry.Entry, Plan.Plan, Reach.naming, Reach.clearing, Reach.collect, Messages.Answer, Course.some_waits}
use Rattle.vz_rules.specs.{World.World, World.Submission, World.opening, World.is_waiting, Returns.give_back, Returns.mark_fed, Returns.feed}
use Rattle.vz_rules.specs.Settle.{is_met, has_come, is_ready, ready, after_round, round, rounds, settle}
use Rattle.vz_rules.specs.Step.{next_tick, begin_answer, answer_to, presented_by, outcome_of, step_in, world_from, world}
use Rattle.vz_rules.proofs.Members.{any_at, contains_cases, contains_here, contains_there, contains_map, contains_none, none_filtered}
use Rattle.vz_rules.proofs.{Activated.none_ready_after, Levels.or_second as or_none}
use Rattle.vz_threads.specs.Tails.{AllComeDue}

-- What waits after a step waited before

-- each submission that waits is one that waited before, with its deadline
pub record WaitsLess (before after : List Submission) : Type 0 where
  pub from : (s : Submission) → Contains after s → is_waiting s ≡ true → (t : Submission) × Contains before t × (is_waiting t ≡ true) × (t.due ≡ s.due)

waits_same : (subs : List Submission) → WaitsLess subs subs
waits_same subs = record { from = λ s there waits. (s, there, waits, refl) }

waits_then : (a b c : List Submission) → WaitsLess a b → WaitsLess b c → WaitsLess a c
waits_then a b c h k = grind (arith, nat_tests)

waits_map : (f : Submission → Submission) (subs : List Submission) → ((s : Submission) → (f s).due ≡ s.due) → ((s : Submission) → is_waiting (f s) ≡ true → is_waiting s ≡ true)
    → WaitsLess subs (map f subs)
waits_map f subs due waiting = record {
  from = λ s there waits.
      let m = contains_map f subs s there in
      (m.0, m.1, waiting m.0 (ap is_waiting m.2 ∙ waits), sym (due m.0) ∙ ap (λ (x : Submission). x.due) m.2);
}

round_waits : (w : World) → WaitsLess w.subs (round w).subs
unfolding round
round_waits w = grind (arith, nat_tests, waits_map (after_round (is_ready w) (ready w)) w.subs)

rounds_waits : (n : ℕ) (w : World) → WaitsLess w.subs (rounds n w).subs
unfolding rounds
rounds_waits zero w = waits_same w.subs
rounds_waits (suc n) w = waits_then w.subs (round w).subs (rounds n (round w)).subs (round_waits w) (rounds_waits n (round w))

settle_waits : (w : World) → WaitsLess w.subs (settle w).subs
unfolding settle
settle_waits w = rounds_waits (length w.subs) w

collect_waits : (w : World) → WaitsLess w.subs (collect w).subs
unfolding collect clearing naming
collect_waits w = grind (arith, nat_tests, waits_map)

-- what waits behind an answer and what followed waited as that was settled
outcome_waits : (presented : List Sub) (a : Answer) → WaitsLess (settle a.world).subs (outcome_of presented a).world.subs
unfolding outcome_of feed give_back
outcome_waits presented a =
    let collected = collect (settle a.world) in
    waits_then (settle a.world).subs collected.subs (map (mark_fed (give_back collected) presented) collected.subs) (collect_waits (settle a.world))
    (waits_map (mark_fed (give_back collected) presented) collected.subs (λ s. refl) (λ s waits. waits))

rounds_tick : (n : ℕ) (w : World) → (rounds n w).tick ≡ w.tick
unfolding rounds round
rounds_tick zero w = refl
rounds_tick (suc n) w = rounds_tick n (round w)

settle_tick : (w : World) → (settle w).tick ≡ w.tick
unfolding settle
settle_tick w = rounds_tick (length w.subs) w

pub outcome_tick : (presented : List Sub) (a : Answer) → (outcome_of presented a).world.tick ≡ a.world.tick
unfolding outcome_of feed give_back collect clearing naming
outcome_tick presented a = settle_tick a.world

-- What waits is not late

-- the deadline of each submission that waits is to come
abbrev pub NoneLate : World → Type 0
NoneLate w = (s : Submission) → Contains w.subs s → is_waiting s ≡ true → w.tick < s.due

and_none : (a b : Bool) → (a && b) ≡ false → a ≡ true → b ≡ false
and_none a b none is = grind (arith, nat_tests)

ready_none : (w : World) (s : Submission) → ready w ≡ [] → Contains w.subs s → is_waiting s ≡ true → w.tick < s.due
unfolding ready has_come is_ready
ready_none w s none there waits =
    let not_ready : is_ready w s ≡ false = none_filtered (is_ready w) w.subs s none there in
    let uncome : has_come w s ≡ false = and_none (is_waiting s) (has_come w s) not_ready waits in
    let early : nat_le s.due w.tick ≡ false = or_none (list_all (is_met w) s.submitted.frame.metadata.dependencies) (nat_le s.due w.tick) uncome in
    leb-false s.due w.tick early

outcome_late : (presented : List Sub) (a : Answer) → NoneLate (outcome_of presented a).world
outcome_late presented a s there waits =
    let m = (outcome_waits presented a).from s there waits in
    let late : (settle a.world).tick < m.0.due = ready_none (settle a.world) m.0 (none_ready_after a.world) m.1 m.2 in
    omega (arith, late, m.3, settle_tick a.world, outcome_tick presented a)

late_from : (p : Plan) (w : World) (h : List Entry) → NoneLate w → NoneLate (world_from p w h)
unfolding world_from step_in
late_from p w [] none = none
late_from p w (e ∷ h) none = late_from p (step_in p w e.event).world h (outcome_late (presented_by w e.event) (answer_to p w e.event))

-- behind a history nothing that waits is late
pub none_late : (p : Plan) (h : List Entry) → NoneLate (world p h)
unfolding opening world
none_late p h = late_from p (opening p) h (λ s there waits. absurd (contains_none s there))

-- The latest deadline

-- how many ticks the latest deadline that is waited for is away
abbrev pub latest : ℕ → List Submission → ℕ
latest tick [] = 0
latest tick (s ∷ subs) = max (cond (is_waiting s) (s.due - tick) 0) (latest tick subs)

latest_at : (tick : ℕ) (subs : List Submission) (s : Submission) → Contains subs s → is_waiting s ≡ true → s.due - tick ≤ latest tick subs
latest_at tick [] s there waits = absurd (contains_none s there)
latest_at tick (t ∷ subs) s there waits = grind (arith, nat_tests, contains_cases t s subs there, latest_at tick subs s)

head_least : (tick rest b : ℕ) (t : Bool) (s : Submission) → (t ≡ true → s.due - tick ≤ b) → rest ≤ b → max (cond t (s.due - tick) 0) rest ≤ b
head_least tick rest b t s h k = grind (arith, nat_tests)

latest_least : (tick b : ℕ) (subs : List Submission) → ((s : Submission) → Contains subs s → is_waiting s ≡ true → s.due - tick ≤ b) → latest tick subs ≤ b
latest_least tick b [] h = omega arith
latest_least tick b (t ∷ subs) h =
    head_least tick (latest tick subs) b (is_waiting t) t (h t (contains_here t subs)) (latest_least tick b subs (λ s there. h s (contains_there t s subs there)))

-- Begin

begin_waits : (p : Plan) (w : World) → WaitsLess w.subs (step_in p w event.Begin).world.subs
unfolding step_in answer_to begin_answer
begin_waits p w =
    let a = begin_answer p w in
    waits_then w.subs (settle a.world).subs (outcome_of [] a).world.subs (settle_waits a.world) (outcome_waits [] a)

begin_tick : (p : Plan) (w : World) → (step_in p w event.Begin).world.tick ≡ next_tick w.tick
unfolding step_in answer_to begin_answer
begin_tick p w = outcome_tick [] (begin_answer p w)

next_is : (tick : ℕ) → tick < LAST_TICK → next_tick tick ≡ tick + 1
next_is tick less = ap (λ (t : Bool). cond t tick (tick + 1)) (ne_eqb tick LAST_TICK (λ same. omega (arith, same, less)))

-- where the ticks come to each deadline, they do so behind Begin
pub begin_comes_due : (p : Plan) (w : World) → AllComeDue w → AllComeDue (step_in p w event.Begin).world
begin_comes_due p w due s there waits = let m = (begin_waits p w).from s there waits in omega (arith, due m.0 m.1 m.2, m.3)

-- and the latest is nearer
pub begin_nears : (p : Plan) (w : World) → NoneLate w → AllComeDue w → some_waits w ≡ true
    → latest (step_in p w event.Begin).world.tick (step_in p w event.Begin).world.subs < latest w.tick w.subs
begin_nears p w none due waits =
    let t = any_at is_waiting w.subs waits in
    let late : w.tick < t.0.due = none t.0 t.1 t.2 in
    let some : t.0.due - w.tick ≤ latest w.tick w.subs = latest_at w.tick w.subs t.0 t.1 t.2 in
    let tick : (step_in p w event.Begin).world.tick ≡ w.tick + 1 = begin_tick p w ∙ next_is w.tick (omega (arith, late, due t.0 t.1 t.2)) in
    let all : latest (step_in p w event.Begin).world.tick (step_in p w event.Begin).world.subs ≤ latest w.tick w.subs - 1 =
    latest_least (step_in p w event.Begin).world.tick (latest w.tick w.subs - 1) (step_in p w event.Begin).world.subs (λ s there is.
    let m = (begin_waits p w).from s there is in
    let before : m.0.due - w.tick ≤ latest w.tick w.subs = latest_at w.tick w.subs m.0 m.1 m.2 in
    omega (arith, before, m.3, tick)) in
    omega (arith, all, some, late)
