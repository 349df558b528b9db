-- The frames that a history writes stay as it goes on.
use Rattle.std.proofs.Common.{◌≡◌, ℕ, List, [], ◌∷◌, ◌++◌, reverse, append-nil, refl, ap, ◌∙◌}
use Rattle.std.specs.{List.flat_map, Prelude.slice_get, Prelude.◌-◌}
use Rattle.std.proofs.{lemmas.List.reverse-append, lemmas.Grind.flat_map-append}
use Rattle.vz_geom.specs.declared.Size.{Size}
use Rattle.vz_pixels.specs.Colour.{Colour}
use Rattle.vz_rules.specs.{Plan.Plan, World.opening, declared.entry.Event.Event, declared.entry.Entry.Entry, Step.world_from}
use Rattle.vz_rules.specs.Frames.{DrawnFrame, drawn_frames, drawn_frames_from, pixel_bytes, repainted, stale, written_of, written, frames_bytes}
use Rattle.vz_rules.proofs.Runs.{drawn_frames_from-append}
use Rattle.vz_player.specs.Played.{Played, first_played, played_on, next_entry, frames_of}

-- newer drawings leave the frames of the earlier ones
newer : (size : Size) (n : ℕ) (more before : List DrawnFrame) → (new : List (List Colour)) × (written_of size n (more ++ before) ≡ new ++ written_of size n before)
unfolding written_of
newer size n [] before = ([], refl)
newer size n (s ∷ more) before =
    let rest = newer size n more before in
    let frame = repainted size (stale size n (s ∷ more ++ before)) s.scene (slice_get (written_of size n (more ++ before)) (n - 1)) in
    (frame ∷ rest.0, ap (λ l. frame ∷ l) rest.1)

-- and so an entry more leaves the frames of a history
pub entry_more : (p : Plan) (h : List Entry) (e : Entry) (n : ℕ) → (more : List (List Colour)) × (written p (h ++ e ∷ []) n ≡ written p h n ++ more)
unfolding written drawn_frames
entry_more p h e n =
    let after = drawn_frames_from p (world_from p (opening p) h) (e ∷ []) in
    let before = drawn_frames p h in
    let all = newer p.size n (reverse after) (reverse before) in (
      reverse all.0,
      ap (λ l. reverse (written_of p.size n (reverse l))) (drawn_frames_from-append p (opening p) h (e ∷ []))
          ∙ (ap (λ l. reverse (written_of p.size n l)) (reverse-append before after)
          ∙ (ap reverse all.1 ∙ reverse-append all.0 (written_of p.size n (reverse before)))),
    )

-- an event more leaves the frames of a player
pub event_more : (p : Played) (event : Event) → (more : List (List Colour)) × (frames_of (played_on p event) ≡ frames_of p ++ more)
unfolding played_on
event_more p event = entry_more p.plan p.history (next_entry p event) p.buffers

-- the bytes of frames, and of more
pub frames_then_frames : (first then : List (List Colour)) → frames_bytes (first ++ then) ≡ frames_bytes first ++ frames_bytes then
unfolding frames_bytes
frames_then_frames first then = flat_map-append (flat_map pixel_bytes) first then

-- no frame has no bytes
pub no_frame : frames_bytes [] ≡ []
unfolding frames_bytes
no_frame = refl

-- the bytes of one frame
pub one_frame : (frame : List Colour) → frames_bytes (frame ∷ []) ≡ flat_map pixel_bytes frame
unfolding frames_bytes
one_frame frame = append-nil (flat_map pixel_bytes frame)

-- before the first event there is none
pub no_frames : (p : Plan) (count : ℕ) → frames_bytes (frames_of (first_played p count)) ≡ []
unfolding frames_bytes written drawn_frames drawn_frames_from written_of
no_frames p count = refl
