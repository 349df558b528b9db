-- The test of a submission against the local id and the size of its client's last surface.
use Rattle.std.specs.Prelude.{Bool, false, not, ◌&&◌, Option, Some, None}
use Rattle.vz_geom.specs.declared.Size.{Size}
use Rattle.vz_ids.specs.declared.LocalSurfaceId.{LocalSurfaceId}
use Rattle.vz_ids.specs.Ids.{same_local, is_raised}
use Rattle.vz_frame.specs.Frame.{same_size}
use Rattle.vz_rules.specs.World.{Surface}

-- a local id with a size
abbrev pub NameAndSize : Type 0
NameAndSize = LocalSurfaceId × Size

-- the local id and the size of a surface that was created
abbrev pub name_and_size : Surface → NameAndSize
name_and_size c = (c.id.local, c.size)

-- the local id is not the last one, and is not raised above it
abbrev pub violates_named : Option NameAndSize → LocalSurfaceId → Bool
violates_named None local = false
violates_named (Some last) local = not (same_local last.0 local) && not (is_raised last.0 local)

-- the local id is the last one
abbrev pub is_last_named : Option NameAndSize → LocalSurfaceId → Bool
is_last_named None local = false
is_last_named (Some last) local = same_local last.0 local

-- the local id is the last one, and its surface has another size
abbrev pub has_other_size_named : Option NameAndSize → LocalSurfaceId → Size → Bool
has_other_size_named None local size = false
has_other_size_named (Some last) local size = same_local last.0 local && not (same_size last.1 size)
