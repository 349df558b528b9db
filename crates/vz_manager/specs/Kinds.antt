-- What kind of message a client sends next.
use Rattle.std.specs.Prelude.{ℕ, Bool, Option, Some, None, if◌then◌else◌}
use Rattle.vz_ids.specs.declared.FrameSinkId.{FrameSinkId}
use Rattle.vz_ids.specs.declared.LocalSurfaceId.{LocalSurfaceId}
use Rattle.vz_pixels.specs.Block.{Block}
use Rattle.vz_frame.specs.declared.frame.CompositorFrame.{CompositorFrame}
use Rattle.vz_frame.specs.declared.message.Message.{Message}
use Rattle.vz_frame.specs.declared.message.Message.TheVariants as message
use Rattle.vz_support.specs.Supporting.{Supported, IsNext}
use Rattle.vz_manager.specs.declared.kind.Kind.{Kind}
use Rattle.vz_manager.specs.declared.kind.Kind.TheVariants as kind

-- the kind of a message
abbrev pub sent_as : Message → Kind
sent_as (message.Upload id block) = kind.Upload
sent_as (message.Submit frame local) = kind.Submit
sent_as (message.DidNotProduce n) = kind.DidNotProduce
sent_as message.Reclaim = kind.Reclaim
sent_as (message.SetRoot local) = kind.SetRoot
sent_as (message.Hierarchy parent child) = kind.Hierarchy
sent_as message.Await = kind.Await
sent_as message.Close = kind.Close

-- the kind of message that a client sends next, by whether it is closed and by its next message,
-- if there is one
abbrev pub kind_of : Bool → Option Message → Kind
kind_of closed None = kind.Nothing
kind_of closed (Some m) = if closed then kind.Closed else sent_as m

-- the client's next message is of this kind
abbrev pub Comes : Supported → ℕ → Kind → Type 0
Comes v c kind.Nothing = Unit {0}
Comes v c kind.Closed = (m : Message) × IsNext v c m
Comes v c kind.Upload = (id : ℕ) × (block : Block) × IsNext v c (message.Upload id block)
Comes v c kind.Submit = (local : LocalSurfaceId) × (frame : CompositorFrame) × IsNext v c (message.Submit frame local)
Comes v c kind.DidNotProduce = (n : ℕ) × IsNext v c (message.DidNotProduce n)
Comes v c kind.Reclaim = IsNext v c message.Reclaim
Comes v c kind.SetRoot = (local : LocalSurfaceId) × IsNext v c (message.SetRoot local)
Comes v c kind.Hierarchy = (parent : FrameSinkId) × (child : FrameSinkId) × IsNext v c (message.Hierarchy parent child)
Comes v c kind.Await = IsNext v c message.Await
Comes v c kind.Close = IsNext v c message.Close
