use Rattle.std.proofs.Common.{◌≡◌, take}
use Rattle.std.specs.List.{flat_map}
use Rattle.vz_codec.specs.Spelling.{file_bytes}
use Rattle.viz_c.specs.Making.{lengths_of}
use Rattle.viz_c.proofs.rounds.encode_all.Given as goal

-- the first files are encoded
abbrev pub invariant-loop-place : goal.invariant-loop-place
invariant-loop-place l =
    (l.bytes.items ≡ flat_map file_bytes (take l.place l.files)) × (l.lengths.items ≡ lengths_of (take l.place l.files))
