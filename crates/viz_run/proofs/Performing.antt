-- From what a command does to what the words that ask for it do.
use Rattle.std.proofs.Common.{rules, ◌≡◌, ℕ, ◌+◌, ◌≤◌, Result, Ok, Err, IfOk, IfErr, OnErr, IsErrOf, IsErrAnd, IsTrue, List, [], ◌∷◌, take, inr, refl, sym, subst, ◌∙◌, arith}
use Rattle.vz_base.specs.declared.limits.TheConstants.{DEFAULT_BUFFERS, MOST_ROUNDS}
use Rattle.vz_gen.specs.Make.{make}
use Rattle.viz_run.specs.{Read.MissesOne, Refusals.refused_behind, Demo.demo_events, Site.site, declared.stop.Stop.Stop}
use Rattle.vz_outside.specs.{Shelved.Shelved, declared.shelf.ShelfError.ShelfError}
use Rattle.vz_outside.specs.declared.shelf.ShelfError.TheVariants as shelf_error
use Rattle.vz_player.specs.Written.{AreWhole, AreBegun, KeepsAllBut}
use Rattle.vz_rules.proofs.Chained.{written_is}
use Rattle.vz_rules.specs.Command.{Word, Command, Check, Gen, Demo, fits_command, IsCommand, IsNoCommand}
use Rattle.vz_rules.specs.Frames.{frames, written, painted, written_of, painted_of, drawn_frames, drawn_frames_from}
use Rattle.vz_rules.specs.{Plan.Plan, Plan.IsPlan, Step.Legal, Step.LegalFrom, declared.entry.Entry.Entry}
use Rattle.vz_words.specs.{Words.command_of, declared.commands.Command.Command as Found}
use Rattle.viz_run.specs.Commands.{Asks, AsksNothing, buffers_of, input_names, output_names}
use Rattle.viz_run.specs.{Inputs.Inputs, Inputs.no_inputs, Inputs.AreAccepted, Inputs.plan_of, Planned.demo_plan, Lines.made_line, Lines.end_line}
use Rattle.viz_run.specs.{Causes.DoesFor, Causes.LeavesFor, Causes.KeepsOthers, Causes.FindsInputs, Stops.Behaves, Stops.IsRefusal, Stops.stop_of}
use Rattle.viz_run.specs.Ends.{IsHistory, IsAsked, IsDone, TellsEnd, outputs_of, points_of, named_files}
use Rattle.viz_run.specs.declared.stop.Stop.TheVariants as stop

-- Of answers

-- what follows of an answer
pub if_ok : {T E : Type 0} (r : Result T E) (P Q : T → Type 0) → ((x : T) → P x → Q x) → IfOk r P → IfOk r Q
if_ok (Ok x) P Q follows is = follows x is
if_ok (Err e) P Q follows is = tt

-- what follows at an error
pub at_err : {T E : Type 0} (r : Result T E) (P Q : Type 0) → (P → Q) → OnErr r P → OnErr r Q
at_err (Ok x) P Q follows is = tt
at_err (Err e) P Q follows is = follows is

-- a call behaves for one reason more
pub behaves_for :
    {T P Q : Type 0} (r : Result T Stop) (a b : Shelved) → (P → Q) → Behaves P a b r → Behaves Q a b r
behaves_for r a b reason behaves = record {
  call = behaves.call;
  fault = behaves.fault;
  quiet = behaves.quiet;
  works = λ faultless at. reason (behaves.works faultless at);
  stays = behaves.stays;
}

-- what is said of an answer holds at an error
pub ok_at_err : {T E : Type 0} (Q : E → Type 0) (r : Result T E) (P : T → Type 0) → IsErrAnd r Q → IfOk r P
ok_at_err Q (Ok x) P is = absurd is
ok_at_err Q (Err e) P is = tt

-- what an error of a shelf stops a call for is no refusal
no_refusal : (e : ShelfError) → IsRefusal (stop_of e) → ⊥
no_refusal shelf_error.Failed is = is
no_refusal shelf_error.Memory is = is

pub unrefused : {T : Type 0} (e : ShelfError) (r : Result T Stop) (P : Stop → Type 0) → IsErrAnd r (λ s. s ≡ stop_of e) → IfErr r (λ s. IsRefusal s → P s)
unrefused e (Ok x) P is = tt
unrefused e (Err s) P is = λ refusal. absurd (no_refusal e (subst IsRefusal is refusal))

err_is : {T : Type 0} (s t : Stop) → IsErrOf {T = T} (Err s) t → s ≡ t
err_is s t is = search rules

-- so no error of a shelf is
pub none_refused : {T : Type 0} (e : ShelfError) (r : Result T Stop) (t : Stop) → IsErrAnd r (λ s. s ≡ stop_of e) → IsRefusal t → IsErrOf r t → ⊥
none_refused e (Ok x) t is refusal at = is
none_refused e (Err s) t is refusal at = no_refusal e (subst IsRefusal (sym (err_is s t at) ∙ is) refusal)

-- want of memory is no fault
pub memory_no_fault : {T : Type 0} (r : Result T Stop) → IsErrAnd r (λ s. s ≡ stop.Memory) → IsErrOf r stop.Fault → ⊥
memory_no_fault (Ok x) is at = is
memory_no_fault (Err s) is at = differ (sym (err_is s stop.Fault at) ∙ is)
  where
    differ : stop.Fault ≡ stop.Memory → ⊥
    differ same = search rules

-- Of words that ask for a command

module _ (words : List Word) (c : Command) (asks : Asks words c) where
  pub others_of : (a b : Shelved) → KeepsAllBut (output_names c) a b → KeepsOthers words a b
  others_of a b kept told name none = kept told name (none c asks)

  pub misses_of : (a : Shelved) → MissesOne (input_names c) a → FindsInputs words a → ⊥
  misses_of a misses finds = finds c asks misses

-- Of no event

none_of : (p : Plan) → IsHistory p [] []
unfolding Legal LegalFrom
none_of p = record { legal = tt; all = refl }

none_painted : (p : Plan) (k : ℕ) → painted p [] k ≡ 0
unfolding painted painted_of drawn_frames drawn_frames_from
none_painted p k = refl

none_written : (p : Plan) (k : ℕ) → written p [] k ≡ frames p []
unfolding written written_of frames drawn_frames drawn_frames_from
none_written p k = refl

-- nothing happened, and nothing is written
done_nothing :
    (c : Command) (i : Inputs) (a b : Shelved) (steps : ℕ) → points_of c (plan_of c i) [] ≡ 0 → IsAsked c i [] → AreWhole (outputs_of c (plan_of c i) []) b
    → IsDone c i [] (site a steps) (site b steps)
done_nothing c i a b steps none asked whole = record {
  history = asked;
  outputs = whole;
  counted = omega (arith, none);
  whole = λ honest. none_written (plan_of c i) (buffers_of c);
}

-- Of `check`

-- it was judged, and this is the line
pub check_does :
    (w h : ℕ) (frames log : Word) (files : List Word) (history : List Entry) (a b : Shelved) (steps : ℕ) (line : List ℕ) (status : ℕ)
    → history ≡ [] → (i : Inputs) → AreAccepted a (Check w h frames log files) i → TellsEnd (Check w h frames log files) i [] line status
    → DoesFor (Check w h frames log files) history (site a steps) (site b steps) line status
check_does w h frames log files history a b steps line status empty i accepted tells =
    subst (λ (h' : List Entry). DoesFor (Check w h frames log files) h' (site a steps) (site b steps) line status) (sym empty) (
      i,
      accepted,
      done_nothing (Check w h frames log files) i a b steps (none_painted (plan_of (Check w h frames log files) i) DEFAULT_BUFFERS)
          (none_of (plan_of (Check w h frames log files) i)) tt,
      tells,
    )

-- Of `gen`

module _ (n : ℕ) (first second third : Word) where
  gen_accepted : (s : Shelved) → AreAccepted s (Gen n first second third) no_inputs
  unfolding refused_behind
  gen_accepted s = record { read = record { files = tt; schedules = tt; logs = tt; frames = tt }; good = refl }

  -- the files stand, and this is the line
  pub gen_does :
      (h : List Entry) (a b : Shelved) (steps : ℕ) (line : List ℕ) → h ≡ []
      → AreWhole (named_files (first ∷ second ∷ third ∷ []) (make n)) b → line ≡ made_line
      → DoesFor (Gen n first second third) h (site a steps) (site b steps) line 0
  gen_does h a b steps line empty whole is =
      subst (λ (h : List Entry). DoesFor (Gen n first second third) h (site a steps) (site b steps) line 0) (sym empty) (
        no_inputs,
        gen_accepted a,
        done_nothing (Gen n first second third) no_inputs a b steps (none_painted (demo_plan n) DEFAULT_BUFFERS) (none_of (demo_plan n)) whole,
        (is, refl),
      )

  -- or they are begun
  pub gen_leaves :
      (h : List Entry) (a b : Shelved) (steps : ℕ) → h ≡ []
      → AreBegun (named_files (first ∷ second ∷ third ∷ []) (make n)) a b
      → LeavesFor (Gen n first second third) h (site a steps) (site b steps)
  gen_leaves h a b steps empty begun =
      subst (λ (h : List Entry). LeavesFor (Gen n first second third) h (site a steps) (site b steps)) (sym empty)
      (inr (no_inputs, gen_accepted a, record { history = (0, none_of (demo_plan n)); outputs = begun }))

-- Of `demo`

module _ (n : ℕ) (plan : IsPlan (demo_plan n)) where
  demo_accepted : (s : Shelved) → AreAccepted s (Demo n) no_inputs
  unfolding refused_behind
  demo_accepted s = record { read = record { files = tt; schedules = tt; logs = tt; frames = tt }; good = refl }

  -- it was played to its end, and this is the line
  pub demo_does :
      (h : List Entry) (s : Shelved) (before after : ℕ) (line : List ℕ)
      → IsHistory (demo_plan n) (demo_events n) h → line ≡ end_line (Demo n) (demo_plan n) h
      → after ≡ before + painted (demo_plan n) h DEFAULT_BUFFERS
      → DoesFor (Demo n) h (site s before) (site s after) line 0
  demo_does h s before after line history is counted = (
    no_inputs,
    demo_accepted s,
    record {
      history = history;
      outputs = tt;
      counted = counted;
      whole = λ honest. written_is (demo_plan n) h DEFAULT_BUFFERS plan history.legal honest (omega arith);
    },
    (is, refl),
  )

  -- or a front part of it
  pub demo_leaves :
      (h : List Entry) (s : Shelved) (before after : ℕ)
      → (k : ℕ) × IsHistory (demo_plan n) (take k (demo_events n)) h
      → LeavesFor (Demo n) h (site s before) (site s after)
  demo_leaves h s before after front =
      inr (no_inputs, demo_accepted s, record { history = front; outputs = tt })

-- a command of the demonstration has few rounds
pub demo_few : (words : List Word) (n : ℕ) → IsCommand words (Demo n) → n ≤ MOST_ROUNDS
unfolding IsCommand fits_command
demo_few words n is = let fits = is.0 in grind arith

-- what fits of a command that is asked for
pub asked_fits : (words : List Word) (c : Command) → IsCommand words c → IsTrue (fits_command c)
unfolding IsCommand
asked_fits words c is = is.0

-- the words of a command of the code ask for it
pub asks_for : (words : List Word) (found same : Found) → found ≡ same → IsCommand words (command_of found) → Asks words (command_of same)
asks_for words found same is command = subst (λ (x : Found). IsCommand words (command_of x)) is command

-- Words of no command
pub unasked : (words : List Word) → IsNoCommand words → AsksNothing words
unasked words none c asks = none c asks
