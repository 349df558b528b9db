-- From what a command left, and how it was told, to what a call answers.
use Rattle.std.proofs.Common.{rules, ◌≡◌, ◌≢◌, ℕ, ◌+◌, ◌≤◌, ◌⊎◌, Bool, true, false, nat_lt, Some, None, Result, Ok, Err, IsErrOf, IsTrue, List, [], ◌∷◌, take, inl, inr, refl, sym, ap, ◌∙◌, subst, arith}
use Rattle.std.proofs.lemmas.Bool.{ltb-true, ltb-false}
use Rattle.vz_base.specs.declared.limits.TheConstants.{MOST_FILE_BYTES, MOST_EVENTS, MOST_LOG_BYTES}
use Rattle.vz_outside.specs.{Faults.one_more, Faults.CountRose, Shelved.Shelved, Shelved.Name, Sunk.Sunk, Sunk.Takes, Sunk.TakesFront}
use Rattle.vz_outside.proofs.Rises.{one_more_least, one_more_rose}
use Rattle.vz_outside.specs.Sunk as sinks
use Rattle.vz_player.specs.Written.{Output, AreWhole, AreBegun}
use Rattle.viz_run.specs.{Read.IsReadUpto, Read.AreReadUpto, Lines.words_line, Lines.refused_line, Stops.Behaves, Stops.IsRefusal, Stops.due_line}
use Rattle.viz_run.specs.{declared.refused.Refused.Refused, declared.stop.Stop.Stop}
use Rattle.vz_rules.specs.Command.{Word, Command, Run, Step, Check, Gen, Demo, Hit, Turns}
use Rattle.vz_words.proofs.One.{same_command}
use Rattle.vz_rules.specs.declared.entry.Entry.{Entry}
use Rattle.viz_run.specs.{Commands.Asks, Commands.AsksNothing, Commands.frame_names, Ends.IsAsked, Ends.IsPart, Ends.IsUnbegun, Ends.outputs_of}
use Rattle.viz_run.specs.Inputs.{Inputs, AreHeld, AreRead, AreAccepted, AreRefused, first_refused, plan_of, events_for}
use Rattle.viz_run.specs.Causes.{DoesAll, RefusesOne, LeavesFront, IsDue, MissesLine, PrintsFront, RefusesWords, RefusesInput}
use Rattle.viz_run.specs.Site.{Site, site, outside, CountsNoFault, CountsOneFault, IsFaultless, KeepsFaultless, IsCalled}
use Rattle.viz_run.proofs.Demonstrated.{all_played}
use Rattle.viz_run.specs.declared.stop.Stop.TheVariants as stop

-- What is read is read once

-- where bytes are known, two readings of a name are the same
read_once : (limit : ℕ) (name : Name) (x y : List ℕ) (s : Shelved) → IsTrue s.is_known → IsReadUpto limit name x s → IsReadUpto limit name y s → x ≡ y
read_once limit name x y s known one other =
    let a = one known in
    let b = other known in
    a.2 ∙ (ap (take (limit + 1)) (some_is (sym a.1 ∙ b.1)) ∙ sym b.2)
  where
    some_is : {p q : List ℕ} → Some p ≡ Some q → p ≡ q
    some_is h = search rules

-- so are two readings of several
reads_once :
    (limit : ℕ) (names : List Name) (xs ys : List (List ℕ)) (s : Shelved) → IsTrue s.is_known
    → AreReadUpto limit names xs s → AreReadUpto limit names ys s → xs ≡ ys
reads_once limit [] [] [] s known one other = refl
reads_once limit [] [] (y ∷ ys) s known one other = absurd other
reads_once limit [] (x ∷ xs) ys s known one other = absurd one
reads_once limit (n ∷ ns) [] ys s known one other = absurd one
reads_once limit (n ∷ ns) (x ∷ xs) [] s known one other = absurd other
reads_once limit (n ∷ ns) (x ∷ xs) (y ∷ ys) s known one other =
    ap (λ z. z ∷ xs) (read_once limit n x y s known one.0 other.0) ∙ ap (λ zs. y ∷ zs) (reads_once limit ns xs ys s known one.1 other.1)

-- so are the bytes that several hold
held_once : (names : List Name) (xs ys : List (List ℕ)) (s : Shelved) → IsTrue s.is_known → AreHeld names xs s → AreHeld names ys s → xs ≡ ys
held_once [] [] [] s known one other = refl
held_once [] [] (y ∷ ys) s known one other = absurd other
held_once [] (x ∷ xs) ys s known one other = absurd one
held_once (n ∷ ns) [] ys s known one other = absurd one
held_once (n ∷ ns) (x ∷ xs) [] s known one other = absurd other
held_once (n ∷ ns) (x ∷ xs) (y ∷ ys) s known one other =
    ap (λ z. z ∷ xs) (some_is (sym (one.0 known) ∙ other.0 known)) ∙ ap (λ zs. y ∷ zs) (held_once ns xs ys s known one.1 other.1)
  where
    some_is : Some x ≡ Some y → x ≡ y
    some_is h = search rules

-- and so the inputs of a command
inputs_once : (s : Shelved) (c : Command) (i j : Inputs) → IsTrue s.is_known → AreRead s c i → AreRead s c j → i ≡ j
inputs_once s c i j known one other =
    ap (λ files. record { files = files; schedules = i.schedules; logs = i.logs; frames = i.frames })
    (reads_once MOST_FILE_BYTES _ i.files j.files s known one.files other.files)
    ∙ (ap (λ schedules. record { files = j.files; schedules = schedules; logs = i.logs; frames = i.frames })
    (reads_once MOST_EVENTS _ i.schedules j.schedules s known one.schedules other.schedules)
    ∙ (ap (λ logs. record { files = j.files; schedules = j.schedules; logs = logs; frames = i.frames })
    (reads_once MOST_LOG_BYTES _ i.logs j.logs s known one.logs other.logs)
    ∙ ap (λ frames. record { files = j.files; schedules = j.schedules; logs = j.logs; frames = frames })
    (held_once (frame_names c) i.frames j.frames s known one.frames other.frames)))

-- inputs are not accepted and refused at once
pub not_both :
    (words : List Word) (s : Shelved) (c d : Command) (i j : Inputs) (r : Refused) → IsTrue s.is_known
    → Asks words c → AreAccepted s c i → Asks words d → AreRefused s d j r → ⊥
not_both words s c d i j r known asks accepted others refused =
    let same = same_command words d c others asks in
    let there = subst (λ (x : Command). AreRefused s x j r) same refused in
    apart (sym accepted.good ∙ (ap (first_refused c) (inputs_once s c i j known accepted.read there.read) ∙ there.first))
  where
    apart : None ≡ Some r → ⊥
    apart h = search rules

-- Of what was done, a front part was

-- whole files are begun
whole_begun : (outputs : List Output) (a b : Shelved) → AreWhole outputs b → AreBegun outputs a b
whole_begun [] a b whole = tt
whole_begun (o ∷ more) a b whole = inl (whole.0, whole_begun more a b whole.1)

-- what is asked for is a part of it
asked_part : (c : Command) (i : Inputs) (h : List Entry) → IsAsked c i h → IsPart c i h
asked_part (Run paced buffers pipe w t ticks f l names) i h is = is.legal
asked_part (Step w t s f l names) i h is = all_played (plan_of (Step w t s f l names) i) (events_for (Step w t s f l names) i) h is
asked_part (Check w t f l names) i h is = all_played (plan_of (Check w t f l names) i) [] h is
asked_part (Gen n first second third) i h is = all_played (plan_of (Gen n first second third) i) [] h is
asked_part (Demo n) i h is = all_played (plan_of (Demo n) i) (events_for (Demo n) i) h is
asked_part (Hit w t s x y names) i h is = all_played (plan_of (Hit w t s x y names) i) (events_for (Hit w t s x y names) i) h is
asked_part (Turns w t ticks names) i h is = is.legal

-- what was done was done in part
pub done_front : (words : List Word) (h : List Entry) (before after : Site) (line : List ℕ) (status : ℕ) → DoesAll words h before after line status → LeavesFront words h before after
done_front words h before after line status done =
    let c = done.0 in
    let i = done.2.0 in
    let is = done.2.2 in
    inr (
      c,
      done.1,
      inr (
        i,
        done.2.1,
        record {
          history = asked_part c i h is.history;
          outputs = whole_begun (outputs_of c (plan_of c i) h) before.shelf after.shelf is.outputs;
        },
      ),
    )

-- Of a stop

-- the error that a stop is
is_err : {T : Type 0} {a b : Stop} → a ≡ b → IsErrOf {T = T} (Err a) b
is_err same = search rules

err_is : {T : Type 0} (a b : Stop) → IsErrOf {T = T} (Err a) b → a ≡ b
err_is a b at = search rules

-- a stop for words or an input is none for a fault
refusal_is_none : (s : Stop) → IsRefusal s → s ≡ stop.Fault → ⊥
refusal_is_none stop.Words refusal is = search rules
refusal_is_none (stop.Input r) refusal is = search rules
refusal_is_none stop.Fault refusal is = refusal
refusal_is_none stop.Memory refusal is = refusal

-- the line that is due at a stop
pub due_at :
    {T : Type 0} (words : List Word) (h : List Entry) (before after : Site) (s : Stop)
    → (IsErrOf {T = T} (Err s) stop.Words → AsksNothing words)
    → ((r : Refused) → IsErrOf {T = T} (Err s) (stop.Input r) → RefusesOne words before.shelf r)
    → IsDue words h before after (due_line s)
due_at words h before after stop.Words nothing refused = inr (inl (nothing (is_err refl), refl))
due_at words h before after (stop.Input r) nothing refused = inr (inr (inl (r, refused r (is_err refl), refl)))
due_at words h before after stop.Fault nothing refused = inl refl
due_at words h before after stop.Memory nothing refused = inl refl

-- a stop that is a refusal misses the line alone
pub misses_at :
    {T : Type 0} (words : List Word) (h : List Entry) (before after : Site) (s : Stop)
    → (IsErrOf {T = T} (Err s) stop.Words → AsksNothing words)
    → ((r : Refused) → IsErrOf {T = T} (Err s) (stop.Input r) → RefusesOne words before.shelf r)
    → IsRefusal s → MissesLine words h before after
misses_at words h before after stop.Words nothing refused is = inl (nothing (is_err refl))
misses_at words h before after (stop.Input r) nothing refused is = inr (inl (r, refused r (is_err refl)))
misses_at words h before after stop.Fault nothing refused is = absurd is
misses_at words h before after stop.Memory nothing refused is = absurd is

-- Of statuses

-- 2, 3 or more
two_three_more : (n : ℕ) → 2 ≤ n → (n ≡ 2) ⊎ (n ≡ 3) ⊎ (4 ≤ n)
two_three_more n low = by_test (nat_lt n 3) refl (nat_lt n 4) refl
  where
    by_test : (small : Bool) → nat_lt n 3 ≡ small → (next : Bool) → nat_lt n 4 ≡ next → (n ≡ 2) ⊎ (n ≡ 3) ⊎ (4 ≤ n)
    by_test true is next then = let few = ltb-true n 3 is in inl (omega (arith, few, low))
    by_test false is true then =
        let more = ltb-false n 3 is in
        let few = ltb-true n 4 then in inr (inl (omega (arith, few, more)))
    by_test false is false then = inr (inr (ltb-false n 4 then))

-- 4 or not
four_or_not : (n : ℕ) → (n ≡ 4) ⊎ (n ≢ 4)
four_or_not n = by_test (nat_lt n 4) refl (nat_lt 4 n) refl
  where
    by_test : (small : Bool) → nat_lt n 4 ≡ small → (great : Bool) → nat_lt 4 n ≡ great → (n ≡ 4) ⊎ (n ≢ 4)
    by_test true is great then = let few = ltb-true n 4 is in inr (λ same. omega (arith, few, same))
    by_test false is true then = let more = ltb-true 4 n then in inr (λ same. omega (arith, more, same))
    by_test false is false then =
        let low = ltb-false n 4 is in
        let high = ltb-false 4 n then in inl (omega (arith, low, high))

-- Of a call that did all

-- with a status of 0 or 1, which is told, or 4 or 5 comes

-- no status is greater than 5
pub status_of : (n status : ℕ) → status ≤ 1 → (n ≡ status) ⊎ (n ≡ 4) ⊎ (n ≡ 5) → n ≤ 5
status_of n status low (inl done) = omega (arith, done, low)
status_of n status low (inr (inl fault)) = omega (arith, fault)
status_of n status low (inr (inr memory)) = omega (arith, memory)

-- 0 and 1 are those that are told
pub told_status : (n status : ℕ) → n ≤ 1 → (n ≡ status) ⊎ (n ≡ 4) ⊎ (n ≡ 5) → n ≡ status
told_status n status few (inl done) = done
told_status n status few (inr (inl fault)) = absurd (omega (arith, few, fault))
told_status n status few (inr (inr memory)) = absurd (omega (arith, few, memory))

-- it is none of a refusal
pub none_refused : (n status k : ℕ) (P : Type 0) → status ≤ 1 → (n ≡ status) ⊎ (n ≡ 4) ⊎ (n ≡ 5) → 2 ≤ k → k ≤ 3 → n ≡ k → P
none_refused n status k P few (inl done) low high same = absurd (omega (arith, few, done, low, same))
none_refused n status k P few (inr (inl fault)) low high same = absurd (omega (arith, fault, high, same))
none_refused n status k P few (inr (inr memory)) low high same = absurd (omega (arith, memory, high, same))

-- it is at most 1 or more than 3
pub done_or_more : (n status : ℕ) → status ≤ 1 → (n ≡ status) ⊎ (n ≡ 4) ⊎ (n ≡ 5) → (n ≤ 1) ⊎ (4 ≤ n)
done_or_more n status few (inl done) = inl (omega (arith, few, done))
done_or_more n status few (inr (inl fault)) = inr (omega (arith, fault))
done_or_more n status few (inr (inr memory)) = inr (omega (arith, memory))

-- no fault is counted in telling but one at status 4
pub told_least : (n : ℕ) (a b : ℕ) → (n ≡ 4 → b ≡ one_more a) → (n ≢ 4 → b ≡ a) → a ≤ b
told_least n a b fault quiet = elim (four_or_not n) [
  | inl four ↦ subst (λ (k : ℕ). a ≤ k) (sym (fault four)) (one_more_least a)
  | inr other ↦ (let same = quiet other in omega (arith, same))
]

-- what was done was asked for
pub done_asked : (words : List Word) (h : List Entry) (before after : Site) (line : List ℕ) (status : ℕ) (P : Type 0) → DoesAll words h before after line status → AsksNothing words → P
done_asked words h before after line status P done nothing = absurd (nothing done.0 done.1)

-- and its inputs are not refused
pub done_unrefused :
    (words : List Word) (h : List Entry) (before after : Site) (line : List ℕ) (status : ℕ) (P : Type 0) → DoesAll words h before after line status
    → (c : Command) (i : Inputs) (r : Refused) → Asks words c → IsTrue before.shelf.is_known → AreRefused before.shelf c i r → P
done_unrefused words h before after line status P done c i r asks known refused =
    absurd (not_both words before.shelf done.0 c done.2.0 i r known done.1 done.2.1 asks refused)

-- an answer is no stop for a fault
answer_is_none : {T : Type 0} (x : T) → IsErrOf (Ok x) stop.Fault → ⊥
answer_is_none x at = search rules

module _ {T : Type 0} {Q : Type 0} (x : T) (s t : Shelved) (m n : ℕ) (a b : Sunk) (behaves : Behaves Q s t (Ok x)) where
  pub done_fault : b.faults ≡ one_more a.faults → CountsOneFault (outside s a m) (outside t b n)
  done_fault more = inr (record { shelf = behaves.quiet (answer_is_none x); sink = more })

  pub done_quiet : b.faults ≡ a.faults → CountsNoFault (outside s a m) (outside t b n)
  done_quiet same = record { shelf = behaves.quiet (answer_is_none x); sink = same }

  pub done_sound :
      (IsTrue a.is_faultless → sinks.StaysFaultless a b) → IsFaultless (outside s a m) → KeepsFaultless (outside s a m) (outside t b n)
  done_sound stays faultless = record { shelf = behaves.stays faultless.shelf (answer_is_none x); sink = stays faultless.sink }

-- what every call keeps
pub called :
    {T Q : Type 0} (r : Result T Stop) (s t : Shelved) (m n : ℕ) (a b : Sunk) → Behaves Q s t r
    → b.is_known ≡ a.is_known → a.faults ≤ b.faults → IsCalled (outside s a m) (outside t b n)
called r s t m n a b behaves known least = record { shelf = behaves.call; known = known; faults = least }

-- Of a call that stopped

-- words that ask for nothing
pub nothing_asked :
    {T : Type 0} (words : List Word) (s : Shelved) (e : Stop) (status : ℕ) (b a : Sunk)
    → ((r : Refused) → IsErrOf {T = T} (Err e) (stop.Input r) → RefusesOne words s r)
    → (status ≡ 3 → (r : Refused) × (e ≡ stop.Input r) × Takes (refused_line r) b a)
    → 2 ≤ status → AsksNothing words → (status ≡ 2) ⊎ (4 ≤ status)
nothing_asked words s e status b a refused told low nothing = elim (two_three_more status low) [
  | inl two ↦ inl two
  | inr (inl three) ↦
      (let t = told three in
      let one = refused t.0 (is_err t.1) in
      absurd (nothing one.0 one.1))
  | inr (inr more) ↦ inr more
]

module _
    {T : Type 0} (words : List Word) (h : List Entry) (s t : Shelved) (m n : ℕ) (e : Stop) (status : ℕ) (a b : Sunk)
    (nothing : IsErrOf {T = T} (Err e) stop.Words → AsksNothing words)
    (refused : (r : Refused) → IsErrOf {T = T} (Err e) (stop.Input r) → RefusesOne words s r)
  where
    module _ (unbegun : IsRefusal e → IsUnbegun h (site s m) (site t n)) where
      -- for its words
      pub stopped_words : (e ≡ stop.Words) × Takes words_line a b → RefusesWords words h (outside s a m) (outside t b n)
      stopped_words told = record {
        nothing = nothing (is_err told.0);
        told = told.1;
        unbegun = unbegun (subst IsRefusal (sym told.0) tt);
      }

      -- for an input
      pub stopped_input : (r : Refused) × (e ≡ stop.Input r) × Takes (refused_line r) a b → RefusesInput words h (outside s a m) (outside t b n)
      stopped_input told = record {
        input = told.0;
        refused = refused told.0 (is_err told.1);
        told = told.2;
        unbegun = unbegun (subst IsRefusal (sym told.1) tt);
      }

    module _
        (low : 2 ≤ status)
        (at_words : status ≡ 2 → (e ≡ stop.Words) × Takes words_line a b)
        (at_input : status ≡ 3 → (r : Refused) × (e ≡ stop.Input r) × Takes (refused_line r) a b)
      where
        -- a refused input
        pub stopped_refused :
            (c : Command) (i : Inputs) (r : Refused) → Asks words c → IsTrue s.is_known → AreRefused s c i r → (status ≡ 3) ⊎ (4 ≤ status)
        stopped_refused c i r asks known is = elim (two_three_more status low) [
          | inl two ↦ (let told = at_words two in absurd (nothing (is_err told.0) c asks))
          | inr rest ↦ rest
        ]

        -- accepted inputs
        pub stopped_accepted :
            (c : Command) (i : Inputs) → Asks words c → IsTrue s.is_known → AreAccepted s c i → (status ≤ 1) ⊎ (4 ≤ status)
        stopped_accepted c i asks known is = elim (two_three_more status low) [
          | inl two ↦ (let told = at_words two in absurd (nothing (is_err told.0) c asks))
          | inr (inl three) ↦
              (let told = at_input three in
              let one = refused told.0 (is_err told.1) in
              absurd (not_both words s c one.0 i one.2.0 told.0 known asks is one.1 one.2.1))
          | inr (inr more) ↦ inr more
        ]

    module _ {Q : Type 0} (behaves : Behaves {T = T} Q s t (Err e)) where
      -- at a fault of the shelf, or of the sink behind a refusal
      pub stopped_fault :
          ((e ≡ stop.Fault) ⊎ (e ≡ stop.Memory) → b ≡ a)
          → (e ≡ stop.Fault) ⊎ (IsRefusal e × (b.faults ≡ one_more a.faults)) → CountsOneFault (outside s a m) (outside t b n)
      stopped_fault silent (inl is) = inl (record { shelf = behaves.fault (is_err is); sink = ap (λ (u : Sunk). u.faults) (silent (inl is)) })
      stopped_fault silent (inr more) =
          inr (record { shelf = behaves.quiet (λ at. refusal_is_none e more.0 (err_is e stop.Fault at)); sink = more.1 })

      -- without one
      pub stopped_quiet : (e ≡ stop.Fault → status ≡ 4) → status ≢ 4 → b.faults ≡ a.faults → CountsNoFault (outside s a m) (outside t b n)
      stopped_quiet at_fault other same =
          record { shelf = behaves.quiet (λ at. other (at_fault (err_is e stop.Fault at))); sink = same }

      -- only the line is missing
      pub stopped_line :
          (e ≡ stop.Fault) ⊎ (IsRefusal e × (b.faults ≡ one_more a.faults))
          → (CountRose s.faults t.faults → ⊥) → MissesLine words h (site s m) (site t n)
      stopped_line (inl is) still =
          absurd (still (subst (λ (k : ℕ). CountRose s.faults k) (sym (behaves.fault (is_err is))) (one_more_rose s.faults)))
      stopped_line (inr more) still = misses_at words h (site s m) (site t n) e nothing refused more.0

    -- a front part of what was due was printed
    pub stopped_printed : TakesFront (due_line e) a b → PrintsFront words h (outside s a m) (outside t b n)
    stopped_printed begun = (due_line e, due_at words h (site s m) (site t n) e nothing refused, begun)

-- no count of the sink falls
pub stopped_least :
    (e : Stop) (status : ℕ) (a b : Sunk)
    → (status ≡ 4 → (e ≡ stop.Fault) ⊎ (IsRefusal e × (b.faults ≡ one_more a.faults)))
    → ((e ≡ stop.Fault) ⊎ (e ≡ stop.Memory) → b ≡ a) → (status ≢ 4 → b.faults ≡ a.faults) → a.faults ≤ b.faults
stopped_least e status a b fault silent quiet = elim (four_or_not status) [
  | inl four ↦ by_cause (fault four)
  | inr other ↦ (let same = quiet other in omega (arith, same))
]
  where
    by_cause : (e ≡ stop.Fault) ⊎ (IsRefusal e × (b.faults ≡ one_more a.faults)) → a.faults ≤ b.faults
    by_cause (inl is) = let same = ap (λ (u : Sunk). u.faults) (silent (inl is)) in omega (arith, same)
    by_cause (inr more) = subst (λ (k : ℕ). a.faults ≤ k) (sym more.1) (one_more_least a.faults)

-- a faultless shelf on which the inputs are stays so
pub stopped_sound :
    {T Q : Type 0} (e : Stop) (s t : Shelved) (m n : ℕ) (a b : Sunk) → Behaves {T = T} (Q → ⊥) s t (Err e)
    → (IsTrue a.is_faultless → sinks.StaysFaultless a b) → IsFaultless (outside s a m) → Q → KeepsFaultless (outside s a m) (outside t b n)
stopped_sound e s t m n a b behaves stays faultless finds = record {
  shelf = behaves.stays faultless.shelf (λ at. behaves.works faultless.shelf at finds);
  sink = stays faultless.sink;
}
