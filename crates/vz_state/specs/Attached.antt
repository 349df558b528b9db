-- Which clients are attached, by the sinks that the first client's sink reaches.
use Rattle.std.specs.Prelude.{ℕ, ◌&&◌, not, Option, Some, None, List, [], ◌∷◌, length, if◌then◌else◌}
use Rattle.vz_ids.specs.declared.FrameSinkId.{FrameSinkId}
use Rattle.vz_ids.specs.Ids.{same_sink}
use Rattle.vz_rules.specs.Plan.{Plan, has_sink}
use Rattle.vz_rules.specs.World.{World, Client, first_sink}
use Rattle.vz_rules.specs.Closure.{closure}
use Rattle.vz_rules.specs.Messages.{children}

-- the sinks that a sink reaches, if there is a sink
abbrev pub sinks_from : List (FrameSinkId × FrameSinkId) → Option FrameSinkId → List FrameSinkId
sinks_from relations None = []
sinks_from relations (Some sink) = closure same_sink (children relations) (length relations) (sink ∷ [])

-- the sinks that the first client's sink reaches
abbrev pub attached_sinks : Plan → World → List FrameSinkId
attached_sinks p w = sinks_from w.relations (first_sink p)

-- a begin-frame is delivered to a client that is attached and not closed
abbrev pub deliver_by : List FrameSinkId → ℕ → Client → Client
deliver_by sinks tick c = if has_sink sinks c.sink && not c.closed then record c { delivered = Some tick } else c
