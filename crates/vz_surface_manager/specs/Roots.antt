-- The surfaces of a store from which reaching starts.
use Rattle.std.specs.Prelude.{Option, Some, None, if◌then◌else◌}
use Rattle.vz_ids.specs.declared.SurfaceId.{SurfaceId}
use Rattle.vz_surfaces.specs.Stored.{Stored}
use Rattle.vz_surfaces.specs.Reading.{stands}

-- a surface, if there is one and the store has it
abbrev pub if_stands : Stored → Option SurfaceId → Option SurfaceId
if_stands st None = None
if_stands st (Some id) = if stands st id then Some id else None
