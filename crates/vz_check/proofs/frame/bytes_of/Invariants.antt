use Rattle.std.proofs.Common.{◌≡◌, take}
use Rattle.std.specs.List.{flat_map}
use Rattle.vz_rules.specs.Frames.{pixel_bytes}
use Rattle.vz_check.proofs.frame.bytes_of.Given as goal

-- the bytes so far
abbrev pub invariant-loop-pixel : goal.invariant-loop-pixel
invariant-loop-pixel l = l.bytes.items ≡ flat_map pixel_bytes (take l.pixel-index l.pixels)
