-- A player goes on by an event.
use Rattle.std.proofs.Common.{◌≡◌, ℕ, Bool, true, false, Option, List, [], ◌∷◌, ◌++◌, map, refl, sym, ap, subst, ◌∙◌, ◌+◌, add-zero, arith}
use Rattle.std.specs.{Prelude.IsSome, Prelude.IfSome, List.flat_map}
use Rattle.std.proofs.lemmas.List.{map-append}
use Rattle.vz_pixels.specs.Colour.{Colour}
use Rattle.vz_buffers.specs.Canvas.{Canvas}
use Rattle.vz_rules.specs.{Plan.Plan, World.World, declared.entry.Event.Event, declared.entry.Entry.Entry, Step.entry_in}
use Rattle.vz_rules.specs.Frames.{pixel_bytes, frames_bytes, written, written_of, painted, painted_of, drawn_frames, drawn_frames_from}
use Rattle.vz_display.specs.Displayed.{Displayed, current, buffer_with}
use Rattle.vz_player.specs.Played.{Played, first_played, next_entry, played_on, frames_of, painted_by, Writes}
use Rattle.vz_player.specs.Puts.{PutsFrame}
use Rattle.vz_player.proofs.Bytes.{frames_more}

pub same_plan : (old new : Played) (v : Event) → new ≡ played_on old v → new.plan ≡ old.plan
unfolding played_on
same_plan old new v is = ap (λ (p : Played). p.plan) is

pub same_buffers : (old new : Played) (v : Event) → new ≡ played_on old v → new.buffers ≡ old.buffers
unfolding played_on
same_buffers old new v is = ap (λ (p : Played). p.buffers) is

pub still_going : (old new : Played) (v : Event) → new ≡ played_on old v → old.stopped ≡ false → new.stopped ≡ false
unfolding played_on
still_going old new v is going = ap (λ (p : Played). p.stopped) is ∙ going

event_is : (p : Plan) (w : World) (v : Event) → (entry_in p w v).event ≡ v
unfolding entry_in
event_is p w v = refl

-- the events of a history with an entry more
pub events_more : (old new : Played) (v : Event) (events : List Event) → new ≡ played_on old v → map (λ (e : Entry). e.event) old.history ≡ events → map (λ (e : Entry). e.event) new.history ≡ events ++ v ∷ []
unfolding played_on
events_more old new v events is so_far =
    ap (λ (p : Played). map (λ (e : Entry). e.event) p.history) is
    ∙ (map-append (λ (e : Entry). e.event) old.history (next_entry old v ∷ [])
    ∙ (ap (λ x. map (λ (e : Entry). e.event) old.history ++ x ∷ []) (event_is old.plan _ v) ∙ ap (λ l. l ++ v ∷ []) so_far))

-- a frame was drawn, so the display shows one
pub is_shown : (old new : Played) (b : Bool) (d : Displayed) → b ≡ true → Writes old new b
    → ((earlier : List (List Colour)) (frame : List Colour) → frames_of new ≡ earlier ++ frame ∷ [] → current d ≡ buffer_with new.plan.size frame) → IsSome (current d)
is_shown old new false d some writes shown = absurd (cc)
is_shown old new true d some writes shown = subst (λ (o : Option Canvas). IsSome o) (sym (shown (frames_of old) writes.0 writes.1)) refl

-- a frame was drawn, and its bytes were put behind those before
pub frames_put : (old new : Played) (b : Bool) (d : Displayed) (bytes more : List ℕ) → b ≡ true → Writes old new b → bytes ≡ frames_bytes (frames_of old)
    → ((earlier : List (List Colour)) (frame : List Colour) → frames_of new ≡ earlier ++ frame ∷ [] → current d ≡ buffer_with new.plan.size frame)
    → PutsFrame d bytes more → more ≡ frames_bytes (frames_of new)
frames_put old new false d bytes more some writes before shown puts = absurd (cc)
frames_put old new true d bytes more some writes before shown puts =
    frames_more (frames_of old) (frames_of new) writes.0 bytes more before writes.1
    (subst (λ (o : Option Canvas). IfSome o (λ b. more ≡ bytes ++ flat_map pixel_bytes b.pixels)) (shown (frames_of old) writes.0 writes.1) puts)

-- before the first event
pub starts : (first : Played) (p : Plan) (count start : ℕ) → first ≡ first_played p count
    → (first.plan ≡ p) × (first.buffers ≡ count) × (first.stopped ≡ false) × (map (λ (e : Entry). e.event) first.history ≡ []) × ([] ≡ frames_bytes (frames_of first)) × (start ≡ start + painted_by first)
unfolding frames_bytes written written_of drawn_frames drawn_frames_from painted painted_of
starts first p count start is = subst Starts (sym is) (refl, refl, refl, refl, refl, sym (add-zero start))
  where
    Starts : Played → Type 0
    Starts x = (x.plan ≡ p) × (x.buffers ≡ count) × (x.stopped ≡ false) × (map (λ (e : Entry). e.event) x.history ≡ []) × ([] ≡ frames_bytes (frames_of x)) × (start ≡ start + painted_by x)

-- the steps so far
pub steps_more : (start before after old new : ℕ) → before ≡ start + old → after + old ≡ before + new → after ≡ start + new
steps_more start before after old new so_far counted = omega (arith, so_far, counted)
