-- The end of a run: what its tail adds to the history and to the file.
use Rattle.std.proofs.Common.{◌≡◌, ℕ, ◌+◌, ◌≤◌, Bool, List, [], ◌++◌, length, ap, sym, ◌∙◌, subst, append-nil, arith, take_all, Some, Result, Ok, Err, OnOk, OnErr}
use Rattle.vz_base.specs.declared.limits.TheConstants.{MOST_TICKS}
use Rattle.vz_geom.specs.declared.Size.{Size}
use Rattle.vz_pixels.specs.Colour.{Colour}
use Rattle.vz_outside.specs.Told.{Call}
use Rattle.vz_outside.specs.Shelved.{Shelved, Name, Writing, KeepsOthers, Appends, AppendsFront, Behaves, with_more}
use Rattle.vz_outside.specs.declared.shelf.ShelfError.{ShelfError}
use Rattle.vz_outside.proofs.{Calls.Ran, Calls.ran_one, Behaving.then_behaves, Behaving.behaves_as}
use Rattle.vz_rules.specs.{Plan.Plan, Plan.IsPlan, declared.entry.Entry.Entry, Step.Legal, Step.world}
use Rattle.vz_rules.specs.Frames.{written, painted, frames_bytes, drawn_frames, drawn_frames_from}
use Rattle.vz_display.specs.Displayed.{first_displayed, display_at}
use Rattle.vz_display.proofs.Drawings.{first_is}
use Rattle.vz_player.specs.{Gated.IsGated, Played.Played, Played.played_at, Taken.AddsFrames}
use Rattle.vz_player.proofs.{Adding.HasAdded, Adding.more_added, Adding.front_added, Adding.others_kept, Growing.frames_then_frames}
use Rattle.vz_threads.specs.{Courses.IsRun, Courses.frames_of, Outlets.Outlook, Outlets.file_of, Tails.AddsTail, Tails.AllComeDue}
use Rattle.vz_threads.specs.Rounds.{Setup, MayBegin}
use Rattle.vz_threads.specs.Runs.{IsReady, IsUpToTail, IsCutThere, HasRun, EndsWithTail, WritesMore, WritesMoreFront}
use Rattle.vz_threads.proofs.{Counted_ticks.rounds_come_due, Taken_all.run_is}
pub use Rattle.vz_outside.proofs.Behaving.{on_err as err_any}
use Rattle.std.proofs.{lemmas.Bool.Decides.nat_tests, lemmas.Grind.common_steps}

pub ok_then : {T E : Type 0} (r : Result T E) (A P : Type 0) → OnOk r A → (A → P) → OnOk r P
ok_then r _ _ a f = grind (arith, nat_tests)

pub ok_both : {T E : Type 0} (r : Result T E) (A B P : Type 0) → OnOk r A → OnOk r B → (A → B → P) → OnOk r P
ok_both r _ _ _ a b f = grind (arith, nat_tests)

pub err_then : {T E : Type 0} (r : Result T E) (A P : Type 0) → OnErr r A → (A → P) → OnErr r P
err_then r _ _ a f = grind (arith, nat_tests)

-- all of it is a front part
pub whole_front : (all : List ℕ) (name : Name) (a b : Shelved) → Appends all name a b → AppendsFront all name a b
whole_front all name a b added told = (length all, omega arith, added told ∙ ap (with_more (a.bytes name)) (sym (take_all (length all) all (omega arith))))

-- the frames that a tail writes are a front part of them, where what is out could not be told
pub tail_front : (p : Plan) (n : ℕ) (h hist : List Entry) (old new : Played) (name : Name) (a b : Shelved) → old ≡ played_at p h n → AddsTail old new → AddsFrames old new name a b → hist ≡ new.history
    → WritesMoreFront p n name h hist a b
tail_front p n h hist old new name a b is tail adds same = grind (arith, nat_tests, common_steps)

-- Before the threads

first_at : (p : Plan) (n : ℕ) → first_displayed p.size n ≡ display_at p [] n
unfolding display_at drawn_frames drawn_frames_from
first_at p n = sym (first_is p.size n)

pub is_ready : (k : Setup) (start : Outlook) → MayBegin k start → start.display ≡ first_displayed start.fixed.size k.buffers → IsReady k start
is_ready k start begins is = record { begins = begins; display = is ∙ ap (λ (s : Size). first_displayed s k.buffers) (sym begins.size) ∙ first_at k.plan k.buffers }

-- Once they have ended

pub whole_of : (told : Call → Type 0) (k : Setup) (rounds : ℕ) (paced : Bool) (start now : Outlook) (h : List Entry) (r : Result (Unit {0}) ShelfError) (x : Unit {0}) → HasRun told k rounds paced start now h r → r ≡ Ok x → IsUpToTail k rounds paced start now h
whole_of told k rounds paced start now h r x run is = subst (λ (s : Result (Unit {0}) ShelfError). OnOk s (IsUpToTail k rounds paced start now h)) is run.whole

pub cut_of : (told : Call → Type 0) (k : Setup) (rounds : ℕ) (paced : Bool) (start now : Outlook) (h : List Entry) (r : Result (Unit {0}) ShelfError) (e : ShelfError) → HasRun told k rounds paced start now h r → r ≡ Err e → IsCutThere k start now h (Err e)
cut_of told k rounds paced start now h r e run is = subst (λ (s : Result (Unit {0}) ShelfError). OnErr s (IsCutThere k start now h s)) is run.cut

module _ (k : Setup) (rounds : ℕ) (paced : Bool) (start now : Outlook) (h : List Entry) (begins : MayBegin k start) (legal : Legal k.plan h) (w : IsUpToTail k rounds paced start now h) where
  -- each deadline is a tick that comes
  pub comes_due : IsPlan k.plan → rounds ≤ MOST_TICKS → AllComeDue (world k.plan h)
  comes_due is few = rounds_come_due k.plan h w.first w.over rounds is legal w.all w.made w.is_over (omega (arith, few))

  -- the file is open still
  pub open_still : now.shelf.mode start.fixed.slot ≡ Some Writing
  open_still = w.shown.behaves.call.slots start.fixed.slot Writing begins.opened

  -- with a tail it is a run
  pub run_whole : (hist : List Entry) → Legal k.plan hist → EndsWithTail k.plan h hist → IsRun k.plan rounds paced hist
  run_whole hist good t = grind (arith, nat_tests, run_is k.plan rounds paced h t.begins t.last w.first w.over (subst (Legal k.plan) t.all good) t.tail w.all w.made w.is_over w.pace w.took)

  added : HasAdded (frames_of k.plan h k.buffers) start.fixed.slot start.shelf now.shelf
  added = record { opened = begins.opened; ran = ran_one tt start.shelf now.shelf w.shown.behaves; appended = w.shown.written; others = w.shown.others }

  more_bytes : (hist : List Entry) (more : List (List Colour)) → written k.plan hist k.buffers ≡ written k.plan h k.buffers ++ more → frames_of k.plan hist k.buffers ≡ frames_of k.plan h k.buffers ++ frames_bytes more
  more_bytes hist more is = ap frames_bytes is ∙ frames_then_frames (written k.plan h k.buffers) more

  -- all frames are written
  pub all_written : (hist : List Entry) (final : Shelved) → Ran now.shelf final → KeepsOthers (now.shelf.name start.fixed.slot) now.shelf final → WritesMore k.plan k.buffers (now.shelf.name start.fixed.slot) h hist now.shelf final
      → Appends (frames_of k.plan hist k.buffers) (file_of start) start.shelf final
  all_written hist final ran others m = grind (arith, nat_tests, more_added, added, more_bytes)

  -- or a front part of them
  pub front_written : (hist : List Entry) (final : Shelved) → WritesMoreFront k.plan k.buffers (now.shelf.name start.fixed.slot) h hist now.shelf final → AppendsFront (frames_of k.plan hist k.buffers) (file_of start) start.shelf final
  front_written hist final m =
      front_added start.fixed.slot (frames_of k.plan h k.buffers) start.shelf now.shelf final added (frames_bytes m.0) [] (frames_of k.plan hist k.buffers) m.2
      (more_bytes hist m.0 m.1 ∙ sym (append-nil (frames_of k.plan h k.buffers ++ frames_bytes m.0)))

  pub others_written : (final : Shelved) → KeepsOthers (now.shelf.name start.fixed.slot) now.shelf final → KeepsOthers (file_of start) start.shelf final
  others_written final kept = others_kept start.fixed.slot (frames_of k.plan h k.buffers) start.shelf now.shelf final added kept

  pub behaves_then : {T : Type 0} (r : Result T ShelfError) (final : Shelved) → Behaves now.shelf final r → Behaves start.shelf final r
  behaves_then r final behaves = then_behaves r start.shelf now.shelf final (ran_one tt start.shelf now.shelf w.shown.behaves) behaves (λ no. no)

  pub all_counted : (hist : List Entry) (final : ℕ) → final + painted k.plan h k.buffers ≡ now.steps + painted k.plan hist k.buffers → final ≡ start.steps + painted k.plan hist k.buffers
  all_counted hist final is = omega (arith, is, w.shown.counted)

-- an answer that is well behaves as one that went through
pub ok_ran : {T : Type 0} (r : Result T ShelfError) (a b : Shelved) → Behaves a b r → OnOk r (Ran a b)
ok_ran r a b behaves = grind (arith, nat_tests, ran_one)

-- an error of the threads' part is one of the run
pub cut_behaves : {T : Type 0} (e : ShelfError) (a b : Shelved) → Behaves {T = Unit {0}} a b (Err e) → Behaves {T = T} a b (Err e)
cut_behaves e a b behaves = behaves_as e a b behaves (λ no. no)

-- a gate was told of what a tail adds
pub tail_gated : (told : Call → Type 0) (p : Plan) (n : ℕ) (h hist : List Entry) (old new : Played) → old ≡ played_at p h n → hist ≡ new.history → IsGated told old.history new.history → IsGated told h hist
tail_gated told p n h hist old new is same gated =
    subst (λ (x : List Entry × List Entry). IsGated told x.0 x.1) (λ i. (ap (λ (o : Played). o.history) is i, sym same i)) gated
