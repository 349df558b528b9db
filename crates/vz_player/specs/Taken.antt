-- Events that a player takes one after the other, and the frames that this writes.
use Rattle.std.specs.Prelude.{◌≡◌, ℕ, ◌≤◌, ◌⊎◌, true, List, [], ◌∷◌, ◌++◌, length, take}
use Rattle.vz_pixels.specs.Colour.{Colour}
use Rattle.vz_outside.specs.Shelved.{Shelved, Name, Appends, AppendsFront}
use Rattle.vz_rules.specs.declared.entry.Event.{Event}
use Rattle.vz_rules.specs.Frames.{frames_bytes}
use Rattle.vz_player.specs.Played.{Played, played_on, frames_of, StopsAt}

-- the player after it takes these events one after the other
unfoldable pub played_all : Played → List Event → Played
played_all p [] = p
played_all p (event ∷ more) = played_all (played_on p event) more

-- the player took the first of these events, and then want of memory may have stopped it
abbrev pub StopsAmong : Played → List Event → Played → Type 0
StopsAmong old events new =
    (n : ℕ) × (n ≤ length events)
    × ((new ≡ played_all old (take n events)) ⊎ (new ≡ record (played_all old (take n events)) { stopped = true }))

-- the bytes of a name end with the frames that the player has written in addition
abbrev pub AddsFrames : Played → Played → Name → Shelved → Shelved → Type 0
AddsFrames old new name before after =
    (more : List (List Colour)) × (frames_of new ≡ frames_of old ++ more) × Appends (frames_bytes more) name before after

-- the bytes of a name end with a front part of these frames
abbrev pub AddsFramesFront : Played → Played → Name → Shelved → Shelved → Type 0
AddsFramesFront old new name before after =
    (more : List (List Colour)) × (frames_of new ≡ frames_of old ++ more) × AppendsFront (frames_bytes more) name before after

-- an event was taken or not, and then want of memory may have stopped the player, or an error the
-- writing of its frame
abbrev pub StopsWriting : Played → Event → Played → Type 0
StopsWriting old event new = StopsAt old event new ⊎ (new ≡ played_on old event)
