-- What stands as a player takes events, and its frames are written.
use Rattle.std.proofs.Common.{◌≡◌, ℕ, ◌+◌, ◌<◌, ◌⊎◌, Bool, true, false, List, [], ◌∷◌, ◌++◌, length, map, take, get_or, suc, Option, Some, None, inl, inr, refl, sym, ap, subst, ◌∙◌, append_assoc, append-nil, arith}
use Rattle.std.specs.List.{flat_map}
use Rattle.std.proofs.{Math.Seq.take-suc, lemmas.List.map-append}
use Rattle.vz_geom.specs.{declared.Size.Size, Display.IsDisplaySize}
use Rattle.vz_pixels.specs.Colour.{Colour}
use Rattle.vz_buffers.specs.Canvas.{Canvas, pixel_count}
use Rattle.vz_outside.proofs.Calls.{Ran, append_nothing, with_more-nil}
use Rattle.vz_outside.specs.Shelved.{Shelved, Name, Writing, KeepsOthers, Appends, AppendsFront}
use Rattle.vz_rules.specs.{declared.entry.Event.Event, Frames.frames_bytes, Frames.pixel_bytes, declared.entry.Entry.Entry, Step.entry_in}
use Rattle.vz_display.specs.Displayed.{Displayed, current, buffer_with}
use Rattle.vz_player.specs.Played.{Played, played_on, next_entry, frames_of, painted_by, Writes, StopsAt}
use Rattle.vz_player.specs.Shown.{ShowsFrame, frame_on}
use Rattle.vz_player.specs.Taken.{played_all, StopsAmong, StopsWriting, AddsFrames, AddsFramesFront}
use Rattle.vz_player.proofs.Adding.{HasAdded, none_added, more_added, front_added}
use Rattle.vz_player.proofs.Growing.{event_more, frames_then_frames, no_frame, one_frame}

-- One event

-- the plan stays, and so does whether the player is stopped
pub plan_on : (old new : Played) (event : Event) → new ≡ played_on old event → new.plan ≡ old.plan
unfolding played_on
plan_on old new event is = ap (λ (p : Played). p.plan) is

pub stopped_on : (old new : Played) (event : Event) → new ≡ played_on old event → new.stopped ≡ old.stopped
unfolding played_on
stopped_on old new event is = ap (λ (p : Played). p.stopped) is

-- nothing was written
nothing_added : (old new : Played) (name : Name) (s : Shelved) → (more : List (List Colour)) × (frames_of new ≡ frames_of old ++ more) → AddsFramesFront old new name s s
nothing_added old new name s grows = (grows.0, grows.1, λ told. (0, omega arith, sym (with_more-nil (s.bytes name))))

-- where want of memory stopped the player
pub turn_stopped : (old new : Played) (event : Event) (name : Name) (s : Shelved) → StopsAt old event new → AddsFramesFront old new name s s
unfolding StopsAt
turn_stopped old new event name s stops =
    nothing_added old new name s
    (elim stops [
      | inl same ↦ ([], ap frames_of same ∙ sym (append-nil (frames_of old)))
      | inr taken ↦ (let grows = event_more old event in (grows.0, ap frames_of taken ∙ grows.1))
    ])

-- where no frame more comes about
pub none_written : (old new : Played) (name : Name) (s : Shelved) (drawn : Bool) → Writes old new drawn → drawn ≡ false → AddsFrames old new name s s
none_written old new name s true writes none = absurd (differ none)
  where
    differ : true ≡ false → ⊥
    differ e = cc
none_written old new name s false same none =
    ([], same ∙ sym (append-nil (frames_of old)), subst (λ (l : List ℕ). Appends l name s s) (sym no_frame) (append_nothing name s))

-- the frame that comes about
pub written_frame : (old new : Played) (drawn : Bool) → Writes old new drawn → drawn ≡ true → (frame : List Colour) × (frames_of new ≡ frames_of old ++ frame ∷ [])
written_frame old new true writes is = writes
written_frame old new false writes is = absurd (differ is)
  where
    differ : false ≡ true → ⊥
    differ e = cc

-- the frame that a display shows
pub frame_is : (d : Displayed) (size : Size) (frame : List Colour) → current d ≡ buffer_with size frame → frame_on d ≡ frame
frame_is d size frame is = ap (λ (o : Option Canvas). elim o [ Some buffer ↦ buffer.pixels | None ↦ [] ]) is

-- a display shows it
pub shows_written :
    (d : Displayed) (p : Played) (size : Size) (frame : List Colour) → IsDisplaySize size → p.plan.size ≡ size → d.turns.size ≡ p.plan.size →
    current d ≡ buffer_with p.plan.size frame → length frame ≡ pixel_count p.plan.size → ShowsFrame d
shows_written d p size frame sides same own is whole =
    let shown : frame_on d ≡ frame = frame_is d p.plan.size frame is in
    record {
      sides = subst IsDisplaySize (sym (own ∙ same)) sides;
      current = is ∙ (ap (λ s. buffer_with s frame) (sym own) ∙ ap (buffer_with d.turns.size) (sym shown));
      whole = ap length shown ∙ (whole ∙ ap pixel_count (sym own));
    }

module _ (old new : Played) (d : Displayed) (frame : List Colour) (name : Name) (a b : Shelved) where
  frame_bytes_are : frame_on d ≡ frame → flat_map pixel_bytes (frame_on d) ≡ frames_bytes (frame ∷ [])
  frame_bytes_are shown = ap (flat_map pixel_bytes) shown ∙ sym (one_frame frame)

  -- it was written
  pub frame_added : frames_of new ≡ frames_of old ++ frame ∷ [] → frame_on d ≡ frame → Appends (flat_map pixel_bytes (frame_on d)) name a b → AddsFrames old new name a b
  frame_added more shown added = (frame ∷ [], more, subst (λ (l : List ℕ). Appends l name a b) (frame_bytes_are shown) added)

  -- or a front part of it
  pub frame_begun : frames_of new ≡ frames_of old ++ frame ∷ [] → frame_on d ≡ frame → AppendsFront (flat_map pixel_bytes (frame_on d)) name a b → AddsFramesFront old new name a b
  frame_begun more shown begun = (frame ∷ [], more, subst (λ (l : List ℕ). AppendsFront l name a b) (frame_bytes_are shown) begun)

-- All events

-- these events were taken, their frames were written, and the points that were painted were counted
pub record HasPlayed (slot : ℕ) (events : List Event) (old : Played) (counted : ℕ) (before : Shelved) (new : Played) (count : ℕ) (after : Shelved) : Type 0 where
  pub played : new ≡ played_all old events
  pub more : List (List Colour)
  pub written : frames_of new ≡ frames_of old ++ more
  pub added : HasAdded (frames_bytes more) slot before after
  pub painted : count + painted_by old ≡ counted + painted_by new

-- none yet
pub none_played : (slot : ℕ) (old : Played) (count : ℕ) (s : Shelved) → s.mode slot ≡ Some Writing → HasPlayed slot [] old count s old count s
unfolding played_all
none_played slot old count s opened = record {
  played = refl;
  more = [];
  written = sym (append-nil (frames_of old));
  added = subst (λ (l : List ℕ). HasAdded l slot s s) (sym no_frame) (none_added slot s opened);
  painted = refl;
}

-- an event more was taken
pub all_then_on : (p : Played) (events : List Event) (event : Event) → played_all p (events ++ event ∷ []) ≡ played_on (played_all p events) event
unfolding played_all
all_then_on p [] event = refl
all_then_on p (first ∷ events) event = all_then_on (played_on p first) events event

pub plan_all : (p : Played) (events : List Event) → (played_all p events).plan ≡ p.plan
unfolding played_all played_on
plan_all p [] = refl
plan_all p (event ∷ events) = plan_all (played_on p event) events

pub stopped_all : (p : Played) (events : List Event) → (played_all p events).stopped ≡ p.stopped
unfolding played_all played_on
stopped_all p [] = refl
stopped_all p (event ∷ events) = stopped_all (played_on p event) events

pub buffers_all : (p : Played) (events : List Event) → (played_all p events).buffers ≡ p.buffers
unfolding played_all played_on
buffers_all p [] = refl
buffers_all p (event ∷ events) = buffers_all (played_on p event) events

-- the history has these events more
pub events_all : (p : Played) (events : List Event) → map (λ (e : Entry). e.event) (played_all p events).history ≡ map (λ (e : Entry). e.event) p.history ++ events
unfolding played_all played_on entry_in
events_all p [] = sym (append-nil (map (λ (e : Entry). e.event) p.history))
events_all p (event ∷ events) =
    events_all (played_on p event) events
    ∙ (ap (λ l. l ++ events) (map-append (λ (e : Entry). e.event) p.history (next_entry p event ∷ [])) ∙ append_assoc (map (λ (e : Entry). e.event) p.history) (event ∷ []) events)

-- one more of the first events
next_taken : (events : List Event) (i : ℕ) (d : Event) → i < length events → take (i + 1) events ≡ take i events ++ get_or events i d ∷ []
next_taken events i d here =
    let next : i + 1 ≡ suc i = omega arith in
    ap (λ n. take n events) next ∙ take-suc events i d here

module _ (slot : ℕ) (events : List Event) (i : ℕ) (d : Event) (here : i < length events) (old player : Played) (counted count : ℕ) (a b : Shelved) (before : HasPlayed slot (take i events) old counted a player count b) where
  pub plan_stays : player.plan ≡ old.plan
  plan_stays = ap (λ (p : Played). p.plan) before.played ∙ plan_all old (take i events)

  pub stopped_stays : player.stopped ≡ old.stopped
  stopped_stays = ap (λ (p : Played). p.stopped) before.played ∙ stopped_all old (take i events)

  next_played : played_on player (get_or events i d) ≡ played_all old (take (i + 1) events)
  next_played =
      ap (λ (p : Played). played_on p (get_or events i d)) before.played
      ∙ (sym (all_then_on old (take i events) (get_or events i d)) ∙ ap (played_all old) (sym (next_taken events i d here)))

  -- the next one was taken
  pub more_played :
      (new : Played) (next : ℕ) (c : Shelved) → new ≡ played_on player (get_or events i d) → AddsFrames player new (b.name slot) b c → KeepsOthers (b.name slot) b c → Ran b c → next + painted_by player ≡ count + painted_by new
      → HasPlayed slot (take (i + 1) events) old counted a new next c
  more_played new next c is adds kept ran painted = record {
    played = is ∙ next_played;
    more = before.more ++ adds.0;
    written = adds.1 ∙ (ap (λ l. l ++ adds.0) before.written ∙ append_assoc (frames_of old) before.more adds.0);
    added = more_added slot (frames_bytes before.more) a b c before.added (frames_bytes adds.0) (frames_bytes (before.more ++ adds.0)) adds.2 kept ran (frames_then_frames before.more adds.0);
    painted = omega (arith, painted, before.painted);
  }

  stops_cases :
      (new : Played) → ((new ≡ player) ⊎ (new ≡ record (played_on player (get_or events i d)) { stopped = true })) ⊎ (new ≡ played_on player (get_or events i d)) → StopsAmong old events new
  stops_cases new (inl (inl same)) = (i, omega (arith, here), inl (same ∙ before.played))
  stops_cases new (inl (inr taken)) = (i + 1, omega (arith, here), inr (taken ∙ ap (λ (p : Played). record p { stopped = true }) next_played))
  stops_cases new (inr taken) = (i + 1, omega (arith, here), inl (taken ∙ next_played))

  -- or the player stopped
  pub stops_there : (new : Played) → StopsWriting player (get_or events i d) new → StopsAmong old events new
  unfolding StopsAt
  stops_there new stops = stops_cases new stops

  -- and a front part of the frames was written
  pub front_there : (new : Played) (c : Shelved) → AddsFramesFront player new (b.name slot) b c → AddsFramesFront old new (a.name slot) a c
  front_there new c adds = (
    before.more ++ adds.0,
    adds.1 ∙ (ap (λ l. l ++ adds.0) before.written ∙ append_assoc (frames_of old) before.more adds.0),
    front_added slot (frames_bytes before.more) a b c before.added (frames_bytes adds.0) [] (frames_bytes (before.more ++ adds.0)) adds.2
        (frames_then_frames before.more adds.0 ∙ sym (append-nil (frames_bytes before.more ++ frames_bytes adds.0))),
  )
