-- What stands as a player takes events by several calls, and its frames are written.
use Rattle.std.proofs.Common.{◌≡◌, ℕ, ◌+◌, ◌<◌, Bool, true, false, Some, List, [], ◌∷◌, ◌++◌, take, inl, inr, refl, sym, ap, subst, ◌∙◌, append_assoc, append-nil, arith}
use Rattle.std.proofs.{lemmas.Bool.and_from, lemmas.Bool.cases_order, lemmas.List.length-append, lemmas.List.take_all, lemmas.List.take-append-le}
use Rattle.std.proofs.{lemmas.List.Folds.list_all-append, lemmas.Bool.Decides.nat_tests, lemmas.Grind.common_steps}
use Rattle.vz_pixels.specs.Colour.{Colour}
use Rattle.vz_outside.proofs.Calls.{Ran}
use Rattle.vz_outside.specs.Shelved.{Shelved, Writing, KeepsOthers}
use Rattle.vz_rules.specs.{Plan.Plan, World.World, Frames.frames_bytes}
use Rattle.vz_rules.specs.{declared.entry.Event.Event, declared.entry.Entry.Entry, Step.step_in, Step.world, Course.is_drawn, Course.some_waits}
use Rattle.vz_rules.specs.declared.entry.Event.TheVariants as event
use Rattle.vz_rules.proofs.Runs.{world-more}
use Rattle.vz_player.specs.Played.{Played, played_on, next_entry, frames_of, painted_by}
use Rattle.vz_player.specs.Taken.{played_all, StopsAmong, AddsFrames, AddsFramesFront}
use Rattle.vz_player.proofs.{Adding.HasAdded, Adding.none_added, Adding.more_added, Adding.front_added, Growing.frames_then_frames, Growing.no_frame}
use Rattle.vz_threads.specs.Tails.{AreAwaited, AddsTail, AddsShow, GoesOn, AllComeDue}
use Rattle.vz_threads.proofs.Coming_due.{latest, none_late, begin_comes_due, begin_nears}
use Rattle.vz_desk.proofs.Displaying.{event_is as event_of}

-- Frames

-- the frames that a player writes more were added to the file of a slot, and the points that were painted were counted
pub record HasWritten (slot : ℕ) (old : Played) (counted : ℕ) (before : Shelved) (new : Played) (count : ℕ) (after : Shelved) : Type 0 where
  pub more : List (List Colour)
  pub written : frames_of new ≡ frames_of old ++ more
  pub added : HasAdded (frames_bytes more) slot before after
  pub painted : count + painted_by old ≡ counted + painted_by new

-- none yet
pub none_written : (slot : ℕ) (old : Played) (count : ℕ) (s : Shelved) → s.mode slot ≡ Some Writing → HasWritten slot old count s old count s
none_written slot old count s opened = grind (arith, nat_tests, common_steps, no_frame, none_added slot s opened)

module _ (slot : ℕ) (old mid : Played) (counted count : ℕ) (a b : Shelved) (before : HasWritten slot old counted a mid count b) where
  -- those of a call more
  pub then_written :
      (new : Played) (next : ℕ) (c : Shelved) → AddsFrames mid new (b.name slot) b c → KeepsOthers (b.name slot) b c → Ran b c → next + painted_by mid ≡ count + painted_by new
      → HasWritten slot old counted a new next c
  then_written new next c adds kept ran painted = record {
    more = before.more ++ adds.0;
    written = adds.1 ∙ (ap (λ l. l ++ adds.0) before.written ∙ append_assoc (frames_of old) before.more adds.0);
    added = more_added slot (frames_bytes before.more) a b c before.added (frames_bytes adds.0) (frames_bytes (before.more ++ adds.0)) adds.2 kept ran (frames_then_frames before.more adds.0);
    painted = omega (arith, painted, before.painted);
  }

  -- or a front part of them
  pub front_written : (new : Played) (c : Shelved) → AddsFramesFront mid new (b.name slot) b c → AddsFramesFront old new (a.name slot) a c
  front_written new c adds = grind (arith, nat_tests, common_steps, front_added slot (frames_bytes before.more) a b c before.added (frames_bytes adds.0) [], frames_then_frames before.more adds.0)

  -- what was written in all
  pub all_written : AddsFrames old mid (a.name slot) a b
  all_written = (before.more, before.written, before.added.appended)

-- The history

-- the history goes on by events
goes_by : (p : Played) (events : List Event) → GoesOn p (played_all p events)
unfolding played_all played_on
goes_by p [] = record { more = []; history = sym (append-nil p.history); plan = refl; buffers = refl }
goes_by p (e ∷ events) = grind (arith, nat_tests, common_steps, goes_by (played_on p e) events)

-- also where the player stopped among them
pub stopped_goes : (old new : Played) (events : List Event) → StopsAmong old events new → GoesOn old new
stopped_goes old new events stops =
    let r = goes_by old (take stops.0 events) in
    elim stops.2 [
      | inl is ↦ record {
        more = r.more;
        history = ap (λ (p : Played). p.history) is ∙ r.history;
        plan = ap (λ (p : Played). p.plan) is ∙ r.plan;
        buffers = ap (λ (p : Played). p.buffers) is ∙ r.buffers;
      }
      | inr is ↦ record {
        more = r.more;
        history = ap (λ (p : Played). p.history) is ∙ r.history;
        plan = ap (λ (p : Played). p.plan) is ∙ r.plan;
        buffers = ap (λ (p : Played). p.buffers) is ∙ r.buffers;
      }
    ]

-- behind entries that came before
pub then_goes : (old mid new : Played) (first : List Entry) → mid ≡ record old { history = old.history ++ first } → GoesOn mid new → GoesOn old new
then_goes old mid new first is r = grind (arith, nat_tests, common_steps)

-- one event was taken
pub one_played : (old new : Played) (v : Event) → new ≡ played_all old (v ∷ []) → new ≡ record old { history = old.history ++ next_entry old v ∷ [] }
unfolding played_all played_on
one_played old new v is = is

-- Begin-frames

-- begin-frames behind the history of a player, each of which comes where some submission waits
pub record HasBegun (old new : Played) : Type 0 where
  pub begins : List Entry
  pub grown : new ≡ record old { history = old.history ++ begins }
  pub begun : AreAwaited old.plan old.history begins

-- none yet
pub none_begun : (old : Played) → HasBegun old old
none_begun old = grind (arith, nat_tests, common_steps)

-- one more
more_begun : (p : Plan) (h begins : List Entry) (e : Entry) → e.event ≡ event.Begin → AreAwaited p h begins → some_waits (world p (h ++ begins)) ≡ true → AreAwaited p h (begins ++ e ∷ [])
more_begun p h begins e is before waits = grind (arith, nat_tests, list_all-append, and_from, take-append-le, cases_order, take_all, length-append)

-- a player took one more
pub next_begun : (old mid new : Played) → HasBegun old mid → new ≡ played_all mid (event.Begin ∷ []) → some_waits (world mid.plan mid.history) ≡ true → HasBegun old new
next_begun old mid new before is waits = grind (arith, nat_tests, common_steps, one_played mid new, more_begun old.plan old.history before.begins, event_of mid.plan (world mid.plan mid.history))

-- the world of a player that took one more
begun_world : (mid new : Played) → new ≡ played_all mid (event.Begin ∷ []) → world new.plan new.history ≡ (step_in mid.plan (world mid.plan mid.history) event.Begin).world
begun_world mid new is = grind (arith, nat_tests, one_played mid new, world-more mid.plan mid.history, event_of mid.plan (world mid.plan mid.history))

pub next_due : (mid new : Played) → new ≡ played_all mid (event.Begin ∷ []) → AllComeDue (world mid.plan mid.history) → AllComeDue (world new.plan new.history)
next_due mid new is due = subst AllComeDue (sym (begun_world mid new is)) (begin_comes_due mid.plan (world mid.plan mid.history) due)

-- how many ticks the latest deadline is away in a world
abbrev pub latest_in : World → ℕ
latest_in w = latest w.tick w.subs

pub next_nears : (mid new : Played) → new ≡ played_all mid (event.Begin ∷ []) → AllComeDue (world mid.plan mid.history) → some_waits (world mid.plan mid.history) ≡ true
    → latest_in (world new.plan new.history) < latest_in (world mid.plan mid.history)
next_nears mid new is due waits =
    let near : latest_in (step_in mid.plan (world mid.plan mid.history) event.Begin).world < latest_in (world mid.plan mid.history) =
    begin_nears mid.plan (world mid.plan mid.history) (none_late mid.plan mid.history) due waits in
    subst (λ (w : World). latest_in w < latest_in (world mid.plan mid.history)) (sym (begun_world mid new is)) near

-- The last drawing

draw_of : (old : Played) → (next_entry old event.Draw).event ≡ event.Draw
draw_of old = event_of old.plan (world old.plan old.history) event.Draw

-- nothing was drawn
pub show_alone : (old new : Played) (drawn : Bool) → new ≡ played_all old (event.Draw ∷ []) → ((h : List Entry) (e : Entry) → new.history ≡ h ++ e ∷ [] → drawn ≡ is_drawn e.reply) → drawn ≡ false → AddsShow old new
show_alone old new drawn is told none = grind (arith, nat_tests, one_played old new, draw_of old)

-- or it was, and then Done was told
pub show_done : (old mid new : Played) (drawn : Bool) → mid ≡ played_all old (event.Draw ∷ []) → ((h : List Entry) (e : Entry) → mid.history ≡ h ++ e ∷ [] → drawn ≡ is_drawn e.reply) → drawn ≡ true
    → new ≡ played_all mid (event.Done ∷ []) → AddsShow old new
show_done old mid new drawn is told some then = grind (arith, nat_tests, common_steps, one_played old mid, one_played mid new, draw_of old, event_of mid.plan (world mid.plan mid.history))

-- the history has one entry more
pub one_goes : (old mid new : Played) (v : Event) → mid ≡ played_all old (v ∷ []) → GoesOn mid new → GoesOn old new
one_goes old mid new v is goes = then_goes old mid new (next_entry old v ∷ []) (one_played old mid v is) goes

-- The whole tail

-- a drawing behind the begin-frames is the tail
pub tail_added : (old mid new : Played) → HasBegun old mid → some_waits (world mid.plan mid.history) ≡ false → AddsShow mid new → AddsTail old new
tail_added old mid new b rests s = record {
  begins = b.begins;
  last = s.last;
  grown = s.grown ∙ ap (λ (p : Played). record p { history = p.history ++ s.last }) b.grown ∙ ap (λ (l : List Entry). record old { history = l }) (append_assoc old.history b.begins s.last);
  tail = record { begun = b.begun; none_waits = subst (λ (p : Played). some_waits (world p.plan p.history) ≡ false) b.grown rests; is_show = s.is_show };
}

-- The begin-frames of a player

-- frames were begun while a submission waited, all deadlines are to come, and the frames that were drawn were written
pub record Begins (slot : ℕ) (old : Played) (counted : ℕ) (before : Shelved) (new : Played) (count : ℕ) (after : Shelved) : Type 0 where
  pub begun : HasBegun old new
  pub due : AllComeDue (world new.plan new.history)
  pub written : HasWritten slot old counted before new count after

pub first_begins : (slot : ℕ) (old : Played) (count : ℕ) (s : Shelved) → AllComeDue (world old.plan old.history) → s.mode slot ≡ Some Writing → Begins slot old count s old count s
first_begins slot old count s due opened = record { begun = none_begun old; due = due; written = none_written slot old count s opened }

-- one more was begun
pub next_begins : (slot : ℕ) (old mid new : Played) (counted count next : ℕ) (a b c : Shelved) → Begins slot old counted a mid count b → some_waits (world mid.plan mid.history) ≡ true
    → new ≡ played_all mid (event.Begin ∷ []) → AddsFrames mid new (b.name slot) b c → KeepsOthers (b.name slot) b c → Ran b c → next + painted_by mid ≡ count + painted_by new
    → Begins slot old counted a new next c
next_begins slot old mid new counted count next a b c before waits is adds kept ran painted = record {
  begun = next_begun old mid new before.begun is waits;
  due = next_due mid new is before.due;
  written = then_written slot old mid counted count a b before.written new next c adds kept ran painted;
}
