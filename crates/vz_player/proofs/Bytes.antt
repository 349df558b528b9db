-- The bytes of frames, one after the other.
use Rattle.std.proofs.Common.{◌≡◌, ℕ, List, [], ◌∷◌, ◌++◌, sym, ap, ◌∙◌, append-nil}
use Rattle.std.specs.List.{flat_map}
use Rattle.std.proofs.lemmas.Grind.{flat_map-append}
use Rattle.vz_pixels.specs.Colour.{Colour}
use Rattle.vz_rules.specs.Frames.{pixel_bytes, frames_bytes}

-- the bytes of frames with one more
pub frames_more : (frames more : List (List Colour)) (frame : List Colour) (bytes bytes' : List ℕ) → bytes ≡ frames_bytes frames → more ≡ frames ++ frame ∷ [] → bytes' ≡ bytes ++ flat_map pixel_bytes frame → bytes' ≡ frames_bytes more
unfolding frames_bytes
frames_more frames more frame bytes bytes' before all put =
    put ∙ (ap (λ l. l ++ flat_map pixel_bytes frame) before
    ∙ (ap (λ l. flat_map (flat_map pixel_bytes) frames ++ l) (sym (append-nil (flat_map pixel_bytes frame)))
    ∙ (sym (flat_map-append (flat_map pixel_bytes) frames (frame ∷ [])) ∙ ap (flat_map (flat_map pixel_bytes)) (sym all))))
