-- When the inputs of a command with a schedule are accepted, and when one is refused.
use Rattle.std.proofs.Common.{rules, ◌≡◌, ℕ, Option, Some, None, Result, Ok, Err, IsErrOf, IsErrAnd, IsTrue, pos, List, [], ◌∷◌, ◌++◌, refl, sym, ap, ◌∙◌, subst, inl, inr}
use Rattle.std.proofs.lemmas.List.{append-nil}
use Rattle.std.specs.List.{flat_map}
use Rattle.vz_base.specs.declared.limits.TheConstants.{MOST_FILE_BYTES, MOST_EVENTS}
use Rattle.vz_outside.specs.Shelved.{Shelved, SameFiles, IsMissing, Name}
use Rattle.vz_outside.proofs.Calls.{Ran}
use Rattle.viz_run.specs.{Read.IsReadUpto, Read.AreReadUpto, Read.MissesOne, Inputs.Inputs, Inputs.AreRead, Inputs.AreAccepted, Inputs.first_some}
use Rattle.viz_run.specs.{Refusals.file_refused, Refusals.plan_read, declared.refused.InputError.InputError, Stepped.refused_of, Stepped.Makes}
use Rattle.viz_run.specs.{Schedule.events_of, Schedule.schedule_refused, Scheduled.AreTaken, Scheduled.AreGiven, Scheduled.refused_among}
use Rattle.viz_run.specs.{declared.refused.Refused.Refused, Causes.RefusesFor, Stops.stop_for, declared.stop.Stop.Stop}
use Rattle.viz_run.specs.declared.refused.InputError.TheVariants as input_error
use Rattle.vz_rules.specs.{Command.Word, Command.Step, Command.Hit, Plan.Plan, declared.entry.Event.Event}
use Rattle.viz_run.specs.declared.stop.Stop.TheVariants as stop
use Rattle.vz_geom.specs.declared.Size.{Size}

-- what was read of a name before calls that kept the bytes
pub read_first : (limit : ℕ) (name : Name) (bytes : List ℕ) (a b : Shelved) → Ran a b → SameFiles a b → IsReadUpto limit name bytes b → IsReadUpto limit name bytes a
read_first limit name bytes a b ran same read known =
    let found = read (subst IsTrue (sym ran.call.known) known) in
    (found.0, sym (same known name) ∙ found.1, found.2)

-- the inputs, as they were read
abbrev pub inputs_with : List (List ℕ) → List ℕ → Inputs
inputs_with files schedule = record { files = files; schedules = schedule ∷ []; logs = []; frames = [] }

-- they were read
pub are_taken :
    (s : Word) (names : List Word) (files : List (List ℕ)) (schedule : List ℕ) (a b : Shelved) → Ran a b → SameFiles a b
    → AreReadUpto MOST_FILE_BYTES names files a → IsReadUpto MOST_EVENTS s schedule b → AreTaken a s names (inputs_with files schedule)
are_taken s names files schedule a b ran same first then = record {
  files = first;
  schedules = (read_first MOST_EVENTS s schedule a b ran same then, tt);
  logs = tt;
  frames = tt;
}

-- the first that is refused
pub first_of : (size : Size) (files : List (List ℕ)) (schedule : List ℕ) → refused_among size (inputs_with files schedule) ≡ refused_of size files schedule
first_of size files schedule = by_files (file_refused files) (schedule_refused (plan_read size files) schedule)
  where
    by_schedule : (o : Option Refused) → first_some (elim o [ Some r ↦ Some r | None ↦ None ]) None ≡ o
    by_schedule None = refl
    by_schedule (Some r) = refl

    by_files : (o told : Option Refused) → ◌≡◌ {A = Option Refused}
        (first_some o (first_some (elim told [ Some r ↦ Some r | None ↦ None ]) None)) (elim o [ Some r ↦ Some r | None ↦ told ])
    by_files None told = by_schedule told
    by_files (Some r) told = refl

-- What was given is what the command reads

module _ (w h : ℕ) (s f l : Word) (names : List Word) (size : Size) (a : Shelved) (is : size ≡ record { w = pos w; h = pos h }) where
  step_read : (i : Inputs) → AreTaken a s names i → AreRead a (Step w h s f l names) i
  step_read i taken = record { files = taken.files; schedules = taken.schedules; logs = taken.logs; frames = taken.frames }

  pub step_given :
      (p : Plan) (es : List Event) → (i : Inputs) × AreGiven a size s names i p es
      → (i : Inputs) × AreAccepted a (Step w h s f l names) i × Makes (Step w h s f l names) i p es
  step_given p es given =
      let i = given.0 in
      let all = given.1 in (
        i,
        record { read = step_read i all.read; good = ap (λ (z : Size). refused_among z i) (sym is) ∙ all.good },
        (all.plan ∙ ap (λ (z : Size). plan_read z i.files) is, all.events),
      )

  pub step_refused : (r : Refused) → (i : Inputs) × AreTaken a s names i × (refused_among size i ≡ Some r) → RefusesFor (Step w h s f l names) a r
  step_refused r found =
      let i = found.0 in (i, record { read = step_read i found.1; first = ap (λ (z : Size). refused_among z i) (sym is) ∙ found.2 })

module _ (w h : ℕ) (s : Word) (x y : ℕ) (names : List Word) (size : Size) (a : Shelved) (is : size ≡ record { w = pos w; h = pos h }) where
  hit_read : (i : Inputs) → AreTaken a s names i → AreRead a (Hit w h s x y names) i
  hit_read i taken = record { files = taken.files; schedules = taken.schedules; logs = taken.logs; frames = taken.frames }

  pub hit_given :
      (p : Plan) (es : List Event) → (i : Inputs) × AreGiven a size s names i p es
      → (i : Inputs) × AreAccepted a (Hit w h s x y names) i × Makes (Hit w h s x y names) i p es
  hit_given p es given =
      let i = given.0 in
      let all = given.1 in (
        i,
        record { read = hit_read i all.read; good = ap (λ (z : Size). refused_among z i) (sym is) ∙ all.good },
        (all.plan ∙ ap (λ (z : Size). plan_read z i.files) is, all.events),
      )

  pub hit_refused : (r : Refused) → (i : Inputs) × AreTaken a s names i × (refused_among size i ≡ Some r) → RefusesFor (Hit w h s x y names) a r
  hit_refused r found =
      let i = found.0 in (i, record { read = hit_read i found.1; first = ap (λ (z : Size). refused_among z i) (sym is) ∙ found.2 })

-- the events of one schedule
pub one_schedule : (bytes : List ℕ) → flat_map events_of (bytes ∷ []) ≡ events_of bytes
one_schedule bytes = append-nil (events_of bytes)

-- a stop for an input is one for a refusal
pub input_of : {T V : Type 0} (e : InputError) (r : Result T Stop) (P : Refused → Type 0) → IsErrAnd r (λ s. s ≡ stop_for e)
    → ((x : Refused) → IsErrOf {T = V} (Err e) (input_error.Refused x) → P x) → (x : Refused) → IsErrOf r (stop.Input x) → P x
input_of e (Ok v) P is said x this = absurd is
input_of {T = T} {V = V} (input_error.Refused y) (Err s) P is said x this = said x (same (input_is (sym is ∙ stop_is s this)))
  where
    stop_is : (s : Stop) → IsErrOf {T = T} (Err s) (stop.Input x) → s ≡ stop.Input x
    stop_is s h = search rules

    input_is : stop.Input y ≡ stop.Input x → y ≡ x
    input_is h = search rules

    same : y ≡ x → IsErrOf {T = V} (Err (input_error.Refused y)) (input_error.Refused x)
    same h = search rules
input_of {T = T} input_error.Memory (Err s) P is said x this = absurd (apart (sym is ∙ stop_is s this))
  where
    stop_is : (s : Stop) → IsErrOf {T = T} (Err s) (stop.Input x) → s ≡ stop.Input x
    stop_is s h = search rules

    apart : stop.Memory ≡ stop.Input x → ⊥
    apart h = search rules

-- a stop for an input or for want of memory is none for a fault
pub input_no_fault : {T : Type 0} (e : InputError) (r : Result T Stop) → IsErrAnd r (λ s. s ≡ stop_for e) → IsErrOf r stop.Fault → ⊥
input_no_fault e (Ok v) is this = is
input_no_fault {T = T} e (Err s) is this = apart e (sym is ∙ stop_is s this)
  where
    stop_is : (s : Stop) → IsErrOf {T = T} (Err s) stop.Fault → s ≡ stop.Fault
    stop_is s h = search rules

    apart : (e : InputError) → stop_for e ≡ stop.Fault → ⊥
    apart (input_error.Refused r) h = search rules
    apart input_error.Memory h = search rules

-- a name that is missing among some is missing among more
pub misses_left : (names more : List Name) (s : Shelved) → MissesOne names s → MissesOne (names ++ more) s
misses_left [] more s missing = absurd missing
misses_left (name ∷ names) more s (inl missing) = inl missing
misses_left (name ∷ names) more s (inr missing) = inr (misses_left names more s missing)

pub misses_right : (names : List Name) (name : Name) (s : Shelved) → IsMissing name s → MissesOne (names ++ name ∷ []) s
misses_right [] name s missing = inl missing
misses_right (first ∷ names) name s missing = inr (misses_right names name s missing)

pub misses_behind : (names more : List Name) (s : Shelved) → MissesOne more s → MissesOne (names ++ more) s
misses_behind [] more s missing = missing
misses_behind (first ∷ names) more s missing = inr (misses_behind names more s missing)
