-- A piece of a frame, read and compared.
use Rattle.std.proofs.Common.{◌≡◌, ℕ, ◌+◌, ◌*◌, ◌≤◌, Bool, true, false, List, length, take, drop, sym, subst, ◌∙◌}
use Rattle.vz_outside.specs.Shelved.{Shelved, Consumes, ReadsOnly, IsFront}
use Rattle.vz_outside.proofs.Calls.{Ran}
use Rattle.vz_pixels.specs.Colour.{Colour}
use Rattle.vz_check.specs.Judged.{Lacks, IsAnswer, IsFrameRead}
use Rattle.vz_check.proofs.Giving.{HasRead, more_read, lacks_before, other_piece}
use Rattle.vz_check.proofs.Pieces.{bytes_in, bytes_long, then_piece, in_three}

-- what was read is the piece, or is not
pub piece_read :
    (slot : ℕ) (a b : Shelved) (pixels : List Colour) (own piece : List ℕ) (limit : ℕ) (same : Bool) → own ≡ bytes_in pixels → limit + 1 ≡ 4 * length pixels → IsFront (limit + 1) piece slot a → length piece ≤ limit + 1
    → Consumes piece slot a b → IsAnswer same (piece ≡ own) → IsFrameRead (bytes_in pixels) slot a b same
piece_read slot a b pixels own piece limit true is long front few moved so = subst (λ (l : List ℕ). Consumes l slot a b) (so ∙ is) moved
piece_read slot a b pixels own piece limit false is long front few moved other =
    let all : limit + 1 ≡ length (bytes_in pixels) = long ∙ sym (bytes_long pixels) in
    other_piece slot a piece (bytes_in pixels) (subst (λ (n : ℕ). IsFront n piece slot a) all front) (subst (λ (n : ℕ). length piece ≤ n) all few) (λ e. other (e ∙ sym is))

-- a piece more was read
pub next_read :
    (slot : ℕ) (a b c : Shelved) (pixels : List Colour) (at count size : ℕ) (found : Bool) → size ≡ count → found ≡ true → HasRead (bytes_in (take at pixels)) slot a b → IsFrameRead (bytes_in (take size (drop at pixels))) slot b c found
    → ReadsOnly slot b c → Ran b c → HasRead (bytes_in (take (at + count) pixels)) slot a c
next_read slot a b c pixels at count size true many is before found kept ran =
    subst (λ (l : List ℕ). HasRead l slot a c) (sym (then_piece at count pixels)) (more_read slot (bytes_in (take at pixels)) a b before c (bytes_in (take count (drop at pixels))) (subst (λ (n : ℕ). Consumes (bytes_in (take n (drop at pixels))) slot b c) many found) kept ran)
next_read slot a b c pixels at count size false many is before found kept ran = absurd (cc)

-- a piece is lacked, and with it the frame
pub next_lacked :
    (slot : ℕ) (a b c : Shelved) (pixels : List Colour) (at count size : ℕ) (found : Bool) → size ≡ count → found ≡ false → HasRead (bytes_in (take at pixels)) slot a b → IsFrameRead (bytes_in (take size (drop at pixels))) slot b c found
    → Lacks (bytes_in pixels) slot a
next_lacked slot a b c pixels at count size true many is before found = absurd (cc)
next_lacked slot a b c pixels at count size false many is before found =
    lacks_before slot (bytes_in (take at pixels)) a b before (bytes_in (take count (drop at pixels))) (bytes_in pixels) (bytes_in (drop (at + count) pixels)) (subst (λ (n : ℕ). Lacks (bytes_in (take n (drop at pixels))) slot b) many found) (in_three at count pixels)
