-- Frames that are appended to other bytes.
use Rattle.std.specs.Prelude.{◌≡◌, ℕ, List, ◌++◌, IfSome}
use Rattle.std.specs.List.{flat_map}
use Rattle.vz_rules.specs.Frames.{pixel_bytes}
use Rattle.vz_display.specs.Displayed.{Displayed, current}

-- the new bytes are the old ones followed by those of the frame in a display's current buffer
abbrev pub PutsFrame : Displayed → List ℕ → List ℕ → Type 0
PutsFrame d old new = IfSome (current d) (λ b. new ≡ old ++ flat_map pixel_bytes b.pixels)
