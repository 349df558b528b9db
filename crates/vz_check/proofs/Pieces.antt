-- The bytes of a frame, piece by piece.
use Rattle.std.proofs.Common.{◌≡◌, ℕ, ◌+◌, ◌*◌, List, [], ◌∷◌, ◌++◌, length, take, drop, take-add, refl, sym, ap, ◌∙◌, arith}
use Rattle.std.specs.List.{flat_map}
use Rattle.std.proofs.{lemmas.List.take-append-drop, lemmas.Grind.flat_map-append}
use Rattle.vz_pixels.specs.Colour.{Colour}
use Rattle.vz_rules.specs.Frames.{pixel_bytes}

abbrev pub bytes_in : List Colour → List ℕ
bytes_in pixels = flat_map pixel_bytes pixels

pub bytes_long : (pixels : List Colour) → length (bytes_in pixels) ≡ 4 * length pixels
bytes_long [] = refl
bytes_long (c ∷ cs) = let more = bytes_long cs in omega (arith, more)

-- the bytes of a front and of the next piece
pub then_piece : (at count : ℕ) (pixels : List Colour) → bytes_in (take (at + count) pixels) ≡ bytes_in (take at pixels) ++ bytes_in (take count (drop at pixels))
then_piece at count pixels = ap bytes_in (take-add at count pixels) ∙ flat_map-append pixel_bytes (take at pixels) (take count (drop at pixels))

-- and of what follows
pub in_three : (at count : ℕ) (pixels : List Colour) → bytes_in pixels ≡ (bytes_in (take at pixels) ++ bytes_in (take count (drop at pixels))) ++ bytes_in (drop (at + count) pixels)
in_three at count pixels =
    ap bytes_in (sym (take-append-drop (at + count) pixels))
    ∙ (flat_map-append pixel_bytes (take (at + count) pixels) (drop (at + count) pixels) ∙ ap (λ l. l ++ bytes_in (drop (at + count) pixels)) (then_piece at count pixels))
