-- A run whose frames went through a pipe: what the display sent is what was written.
use Rattle.std.proofs.Common.{◌≡◌, ℕ, ◌≤◌, Bool, List, [], ◌∷◌, ◌++◌, length, take, Option, Some, Result, Ok, Err, All, IsTrue, refl, sym, ap, ◌∙◌, subst, arith, append-nil, append_assoc, take_all}
use Rattle.std.specs.Prelude.{unwrap_or, None, IfSome, IfNone}
use Rattle.vz_buffers.specs.Canvas.{Canvas}
use Rattle.std.proofs.{lemmas.Grind.flat_map-append, lemmas.Bool.Decides.nat_tests}
use mathlib.Core.List.{IsPrefix}
use Rattle.vz_outside.specs.Told.{Call}
use Rattle.vz_outside.specs.Shelved.{Shelved, Writing, KeepsOthers, Appends, AppendsFront, Behaves}
use Rattle.vz_outside.specs.declared.shelf.ShelfError.{ShelfError}
use Rattle.vz_outside.specs.declared.shelf.ShelfError.TheVariants.{Failed, Memory}
use Rattle.vz_outside.proofs.{Calls.Ran, Calls.ran_one, Calls.ran_behaves, Behaving.memory_behaves, Behaving.then_behaves}
use Rattle.vz_rules.specs.{declared.entry.Entry.Entry, Plan.Plan, Step.Legal}
use Rattle.atomic_table.specs.Seated.{TableId}
use Rattle.vz_desk.specs.{declared.totals.Totals.Totals, Totals.DisplayTotals, Owners.Owner, Gathering.IsGatheredClient, Gathering.IsGatheredDisplay}
use Rattle.vz_player.proofs.Adding.{HasAdded, more_added, front_added, others_kept}
use Rattle.vz_threads.specs.{Courses.frames_of, Outlets.Outlook, Outlets.Fixed, Outlets.file_of, Rounds.Setup, Rounds.AreShown}
use Rattle.vz_pipe.specs.Ends.{PipeId, Taking}
use Rattle.vz_threads.specs.Pipes.{canvas_bytes, bytes_of, paper, Wrote, BeginsLeft, IsWrittenOn}
use Rattle.vz_threads.specs.Told.{nothing}
use Rattle.vz_threads.specs.Runs.{IsReady, IsOpened, IsUpToTail, IsCutThere, HasRun}
use Rattle.vz_threads.proofs.{Crewing.crew_same, Gathered.has_run, Finished.whole_front}
use Rattle.vz_threads.proofs.{Following.same_self, Following.cut_at, Papers.sent_is, Papers.front_is, Papers.front_of_front, Papers.front_longer}

-- the same, of a receiver and a shelf that were lent and came back
pub wrote_there : {F : Type 0} (shelved : F → Shelved) (r s : Taking Canvas) (x y : F) (slot : ℕ) (a : Shelved) (result : Result (Unit {0}) ShelfError) → r ≡ s → x ≡ y → Wrote (bytes_of s.taken) slot a (shelved y) result → Wrote (bytes_of r.taken) slot a (shelved x) result
wrote_there shelved r s x y slot a result e f w = grind (arith, nat_tests)

pub bytes_then_bytes : (taken more sent : List Canvas) → sent ≡ taken ++ more → bytes_of sent ≡ bytes_of taken ++ bytes_of more
bytes_then_bytes taken more sent is = ap bytes_of is ∙ flat_map-append canvas_bytes taken more

-- an error of the display is want of memory, as nothing else fails there
memory_alone : (e : ShelfError) (v w a b : Shelved) → IsTrue v.is_faultless → Behaves {T = Unit {0}} v w (Err e) → Ran a b → Behaves {T = Unit {0}} a b (Err e)
memory_alone Failed v w a b faultless behaves ran = absurd (behaves.works faultless refl)
memory_alone Memory v w a b faultless behaves ran = memory_behaves a b ran

module _ (told : Call → Type 0) (k : Setup) (rounds : ℕ) (paced : Bool) (start now first last : Outlook) (h : List Entry) (taken sent : List Canvas) (b : Shelved) where
  abbrev frames : List ℕ
  frames = frames_of k.plan h k.buffers

  -- what was sent is a front part of the frames
  abbrev IsFront : Type 0
  IsFront = (n : ℕ) × (n ≤ length frames) × (bytes_of sent ≡ take n frames)

  module _ (opened : start.shelf.mode start.fixed.slot ≡ Some Writing) (empty : first.shelf ≡ paper []) (full : last.shelf ≡ paper (bytes_of sent)) (fixed : now.fixed ≡ start.fixed) (display : now.display ≡ last.display) (before : start.steps ≡ first.steps) (after : now.steps ≡ last.steps) where
    whole_frames : AreShown k first last h → bytes_of sent ≡ frames
    whole_frames are = grind (arith, nat_tests, sent_is)

    front_frames : (r : Result (Unit {0}) ShelfError) → IsCutThere k first last h r → IsFront
    front_frames r cut = grind (arith, nat_tests, front_is)

    either_front : (r : Result (Unit {0}) ShelfError) → HasRun told k rounds paced first last h r → IsFront
    either_front (Ok x) run = (length frames, omega arith, whole_frames run.whole.shown ∙ sym (take_all (length frames) frames (omega arith)))
    either_front (Err e) run = front_frames (Err e) run.cut

    up_to : IsUpToTail k rounds paced first last h → HasAdded (bytes_of sent) start.fixed.slot start.shelf now.shelf → IsUpToTail k rounds paced start now h
    up_to w added = grind (arith, nat_tests, whole_frames w.shown, ran_behaves)

    there : (r : Result (Unit {0}) ShelfError) → IsFront → AppendsFront (bytes_of sent) (file_of start) start.shelf now.shelf → KeepsOthers (file_of start) start.shelf now.shelf → Behaves start.shelf now.shelf r → IsCutThere k start now h r
    there r front begun others behaves = grind (arith, nat_tests, front_of_front front.0)

    wrote_taken : (x : Unit {0}) → Wrote (bytes_of taken) start.fixed.slot start.shelf b (Ok x) → HasAdded (bytes_of taken) start.fixed.slot start.shelf b
    wrote_taken x w = record { opened = opened; ran = ran_one x start.shelf b w.behaves; appended = w.written; others = w.others }

    -- if the writer or the display failed, nothing more was written
    stopped : (e : ShelfError) → IsFront → IsPrefix taken sent → now.shelf ≡ b → AppendsFront (bytes_of taken) (file_of start) start.shelf b → KeepsOthers (file_of start) start.shelf b → Behaves {T = Unit {0}} start.shelf b (Err e) → IsCutThere k start now h (Err e)
    stopped e front prefix same begun others behaves =
        there (Err e) front
        (front_longer (bytes_of taken) (bytes_of prefix.0) (bytes_of sent) (file_of start) start.shelf now.shelf (bytes_then_bytes taken prefix.0 sent (sym prefix.1)) (subst (λ (s : Shelved). AppendsFront (bytes_of taken) (file_of start) start.shelf s) (sym same) begun))
        (subst (λ (s : Shelved). KeepsOthers (file_of start) start.shelf s) (sym same) others)
        (subst (λ (s : Shelved). Behaves {T = Unit {0}} start.shelf s (Err e)) (sym same) behaves)

    pub piped_run : (wrote played result : Result (Unit {0}) ShelfError) → HasRun told k rounds paced first last h played → Wrote (bytes_of taken) start.fixed.slot start.shelf b wrote → IsWrittenOn wrote played result taken sent start.fixed.slot b now.shelf → HasRun told k rounds paced start now h result
    piped_run (Err e) played result run w rest =
        subst (HasRun told k rounds paced start now h) (sym rest.1)
        (record { legal = run.legal; gated = run.gated; whole = tt; cut = stopped e (either_front played run) rest.0 rest.2 w.begun w.others w.behaves })
    piped_run (Ok x) (Err e) result run w rest =
        subst (HasRun told k rounds paced start now h) (sym rest.1) (record {
          legal = run.legal;
          gated = run.gated;
          whole = tt;
          cut = stopped e (either_front (Err e) run) rest.0 rest.2 (whole_front (bytes_of taken) (file_of start) start.shelf b w.written) w.others
              (memory_alone e first.shelf last.shelf start.shelf b (subst (λ (s : Shelved). IsTrue s.is_faultless) (sym empty) refl) run.cut.behaves (ran_one x start.shelf b w.behaves));
        })
    piped_run (Ok x) (Ok y) (Ok z) run w rest = record {
      legal = run.legal;
      gated = run.gated;
      whole = up_to run.whole
          (more_added start.fixed.slot (bytes_of taken) start.shelf b now.shelf (wrote_taken x w) (bytes_of rest.0.0) (bytes_of sent) rest.0.2 rest.2 (ran_one z b now.shelf rest.3)
          (bytes_then_bytes taken rest.0.0 sent rest.0.1));
      cut = tt;
    }
    piped_run (Ok x) (Ok y) (Err e) run w rest = record {
      legal = run.legal;
      gated = run.gated;
      whole = tt;
      cut = there (Err e) (either_front (Ok y) run)
          (front_added start.fixed.slot (bytes_of taken) start.shelf b now.shelf (wrote_taken x w) (bytes_of rest.1.0) [] (bytes_of sent) rest.1.2
          (bytes_then_bytes taken rest.1.0 sent rest.1.1 ∙ sym (append-nil (bytes_of taken ++ bytes_of rest.1.0))))
          (others_kept start.fixed.slot (bytes_of taken) start.shelf b now.shelf (wrote_taken x w) rest.2)
          (then_behaves (Err e) start.shelf b now.shelf (ran_one x start.shelf b w.behaves) rest.3 (λ no. no));
    }

-- The frames that are left

-- the frames that were taken since were written
pub record HasWrittenLeft (before now : List Canvas) (slot : ℕ) (a b : Shelved) : Type 0 where
  pub more : List Canvas
  pub all : now ≡ before ++ more
  pub added : HasAdded (bytes_of more) slot a b

one_more_frame : (frames : List Canvas) (x : Canvas) → bytes_of (frames ++ x ∷ []) ≡ bytes_of frames ++ (canvas_bytes x)
one_more_frame frames x = flat_map-append canvas_bytes frames (x ∷ []) ∙ ap (λ (l : List ℕ). bytes_of frames ++ l) (append-nil (canvas_bytes x))

-- one more frame was taken and written
pub frame_added : (taken new : List Canvas) (x : Canvas) (slot : ℕ) (a b c : Shelved) → HasAdded (bytes_of taken) slot a b → new ≡ taken ++ x ∷ [] → Appends (canvas_bytes x) (b.name slot) b c → KeepsOthers (b.name slot) b c → Behaves {T = Unit {0}} b c (Ok tt)
    → HasAdded (bytes_of new) slot a c
frame_added taken new x slot a b c before is written others behaves = grind (arith, nat_tests, more_added, ran_one, one_more_frame)

-- or begun
pub frame_begun : (taken new : List Canvas) (x : Canvas) (slot : ℕ) (a b c : Shelved) → HasAdded (bytes_of taken) slot a b → new ≡ taken ++ x ∷ [] → AppendsFront (canvas_bytes x) (b.name slot) b c → AppendsFront (bytes_of new) (a.name slot) a c
frame_begun taken new x slot a b c before is begun =
    front_added slot (bytes_of taken) a b c before (canvas_bytes x) [] (bytes_of new) begun (ap bytes_of is ∙ one_more_frame taken x ∙ sym (append-nil (bytes_of taken ++ (canvas_bytes x))))

pub left_added : (start taken new : List Canvas) (x : Canvas) (slot : ℕ) (a b c : Shelved) → HasWrittenLeft start taken slot a b → new ≡ taken ++ x ∷ [] → Appends (canvas_bytes x) (b.name slot) b c → KeepsOthers (b.name slot) b c → Behaves {T = Unit {0}} b c (Ok tt)
    → HasWrittenLeft start new slot a c
left_added start taken new x slot a b c before is written others behaves = record {
  more = before.more ++ x ∷ [];
  all = is ∙ ap (λ l. l ++ x ∷ []) before.all ∙ append_assoc start before.more (x ∷ []);
  added = frame_added before.more (before.more ++ x ∷ []) x slot a b c before.added refl written others behaves;
}

pub left_begun : (start taken new sent : List Canvas) (x : Canvas) (slot : ℕ) (a b c : Shelved) → HasWrittenLeft start taken slot a b → new ≡ taken ++ x ∷ [] → IsPrefix new sent → AppendsFront (canvas_bytes x) (b.name slot) b c
    → BeginsLeft start sent (a.name slot) a c
left_begun start taken new sent x slot a b c before is prefix begun =
    let more : List Canvas = before.more ++ x ∷ [] in (
      more ++ prefix.0,
      sym prefix.1 ∙ ap (λ (l : List Canvas). l ++ prefix.0) (is ∙ ap (λ (l : List Canvas). l ++ x ∷ []) before.all ∙ append_assoc start before.more (x ∷ [])) ∙ append_assoc start more prefix.0,
      front_longer (bytes_of more) (bytes_of prefix.0) (bytes_of (more ++ prefix.0)) (a.name slot) a c (bytes_then_bytes more prefix.0 (more ++ prefix.0) refl)
          (frame_begun before.more more x slot a b c before.added refl begun),
    )

-- A run that is given up before it begins

pub given_up : (told : Call → Type 0) (k : Setup) (rounds : ℕ) (paced : Bool) (start : Outlook) (id : TableId) (callers : ℕ) (q : Plan) (messages : List ℕ) (ends : List (Owner Totals)) (d : Owner DisplayTotals) (h : List Entry)
    → IsReady k start → IsOpened k.plan messages id callers ends d → Legal q h → All (IsGatheredClient q h) ends → IsGatheredDisplay q h d → HasRun told k rounds paced start start h (Err Memory)
given_up told k rounds paced start id callers q messages ends d h ready opened legal clients display =
    has_run told k rounds paced start start id callers q messages ends ends d d h ready opened (same_self d) (Err Memory) (Err Memory) tt
    (λ k' begin played. (played.history, cut_at k' begin start d played.history played.at)) refl tt (crew_same told ends) (λ own. own.all) legal clients display

-- Before the threads

-- a run may begin with a display whose frames go through a pipe
pub ready_piped : (k : Setup) (start first : Outlook) → IsReady k start → first.display ≡ start.display → first.fixed.size ≡ start.fixed.size → first.shelf ≡ paper [] → IsReady k first
ready_piped k start first ready display size empty = grind (arith, nat_tests)

-- What is sent

-- Once the threads have ended

-- what an outlet borrows stays, and the pipe of its frames
pub fixed_stays : (told : Call → Type 0) (k : Setup) (rounds : ℕ) (paced : Bool) (start now : Outlook) (h : List Entry) (r : Result (Unit {0}) ShelfError) → HasRun told k rounds paced start now h r → now.fixed ≡ start.fixed
fixed_stays told k rounds paced start now h r run = grind (arith, nat_tests)

pub pipe_stays : (a b : Fixed) (x y : PipeId Canvas) → a ≡ b → a.pipe ≡ Some x → b.pipe ≡ Some y → x ≡ y
pipe_stays a b x y same is was = ap (λ (o : Option (PipeId Canvas)). unwrap_or o x) (sym is ∙ ap (λ (f : Fixed). f.pipe) same ∙ was)

-- a gate that was told nothing was told of each entry, so any gate was
any_gate : (told : Call → Type 0) (k : Setup) (rounds : ℕ) (paced : Bool) (start now : Outlook) (h : List Entry) (r : Result (Unit {0}) ShelfError) → HasRun nothing k rounds paced start now h r → HasRun told k rounds paced start now h r
any_gate told k rounds paced start now h r run =
    record { legal = run.legal; gated = λ actor n first upto. absurd ((run.gated actor n first upto).before); whole = run.whole; cut = run.cut }

-- a run that was given up before it began, told of the display that was given back
pub given_up_is : (told : Call → Type 0) (k : Setup) (rounds : ℕ) (paced : Bool) (start now : Outlook) (h : List Entry) (r : Result (Unit {0}) ShelfError) → HasRun nothing k rounds paced start start h (Err Memory) → now ≡ start → r ≡ Err Memory → HasRun told k rounds paced start now h r
given_up_is told k rounds paced start now h r run same is =
    subst (λ (s : Outlook). HasRun told k rounds paced start s h r) (sym same) (subst (HasRun told k rounds paced start start h) (sym is) (any_gate told k rounds paced start start h (Err Memory) run))

-- what a pipe's taker has begins what it has after it took one more, or none
pub longer_taken : (r : Option Canvas) (first old new : List Canvas) → IfSome r (λ x. new ≡ old ++ x ∷ []) → IfNone r (new ≡ old) → IsPrefix first old → IsPrefix first new
longer_taken (Some x) first old new some none begins = (begins.0 ++ x ∷ [], sym (some ∙ (ap (λ l. l ++ x ∷ []) (sym begins.1) ∙ append_assoc first begins.0 (x ∷ []))))
longer_taken None first old new some none begins = (begins.0, begins.1 ∙ sym none)
