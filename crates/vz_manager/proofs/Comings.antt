-- What the kind of a client's next message says of the client.
use Rattle.std.proofs.Common.{◌≡◌, ℕ, Bool, true, false, Option, Some, None, Result, Ok, Err, OnErr, refl, sym, subst}
use Rattle.vz_ids.specs.{declared.FrameSinkId.FrameSinkId, declared.LocalSurfaceId.LocalSurfaceId}
use Rattle.vz_pixels.specs.Block.{Block}
use Rattle.vz_frame.specs.{declared.frame.CompositorFrame.CompositorFrame, declared.message.Message.Message}
use Rattle.vz_frame.specs.declared.message.Message.TheVariants as message
use Rattle.vz_rules.specs.{Plan.Plan, World.World, World.Client, World.client_at, World.next_message}
use Rattle.vz_manager.specs.{declared.kind.Kind.Kind, Kinds.sent_as, Kinds.kind_of}
use Rattle.vz_manager.specs.declared.kind.Kind.TheVariants as kind
use Rattle.vz_manager.specs.Serving.{Served, Serves, IsSending, HasNone, IsClosed}

-- what a kind says of the client of a number
abbrev pub Found : Plan → World → ℕ → Client → Kind → Type 0
Found p w c x kind.Nothing = HasNone p w c x
Found p w c x kind.Closed = (m : Message) × IsClosed p w c x m
Found p w c x kind.Upload = (id : ℕ) × (block : Block) × IsSending p w c x (message.Upload id block)
Found p w c x kind.Submit =
    (local : LocalSurfaceId) × (frame : CompositorFrame) × IsSending p w c x (message.Submit frame local)
Found p w c x kind.DidNotProduce = (n : ℕ) × IsSending p w c x (message.DidNotProduce n)
Found p w c x kind.Reclaim = IsSending p w c x message.Reclaim
Found p w c x kind.SetRoot = (local : LocalSurfaceId) × IsSending p w c x (message.SetRoot local)
Found p w c x kind.Hierarchy =
    (parent : FrameSinkId) × (child : FrameSinkId) × IsSending p w c x (message.Hierarchy parent child)
Found p w c x kind.Await = IsSending p w c x message.Await
Found p w c x kind.Close = IsSending p w c x message.Close

-- of a message that is sent next
found_as : (p : Plan) (w : World) (c : ℕ) (x : Client) (m : Message) → IsSending p w c x m → Found p w c x (sent_as m)
found_as p w c x (message.Upload id block) h = (id, block, h)
found_as p w c x (message.Submit frame local) h = (local, frame, h)
found_as p w c x (message.DidNotProduce n) h = (n, h)
found_as p w c x message.Reclaim h = h
found_as p w c x (message.SetRoot local) h = (local, h)
found_as p w c x (message.Hierarchy parent child) h = (parent, child, h)
found_as p w c x message.Await h = h
found_as p w c x message.Close h = h

-- of what is left, and whether the client is closed
found_by : (p : Plan) (w : World) (c : ℕ) (x : Client) (t : Bool) (o : Option Message) → client_at w c ≡ Some x → x.closed ≡ t
    → next_message p x ≡ o → Found p w c x (kind_of t o)
found_by p w c x t None here closed next = record { here = here; none = next }
found_by p w c x true (Some m) here closed next = (m, record { here = here; closed = closed; next = next })
found_by p w c x false (Some m) here closed next = found_as p w c x m (record { here = here; stays = closed; next = next })

-- the kind that was found says so
pub found : (p : Plan) (w : World) (c : ℕ) (x : Client) (k : Kind) → client_at w c ≡ Some x
    → k ≡ kind_of x.closed (next_message p x) → Found p w c x k
found p w c x k here is =
    subst (Found p w c x) (sym is) (found_by p w c x x.closed (next_message p x) here refl refl)

-- a step that wanted memory changed nothing, and so the parts stand for the same state
pub stays_at_want : {A E : Type 0} (p : Plan) (w : World) (old new : Served) (r : Result A E) → Serves p w old → OnErr r (new ≡ old)
    → OnErr r (Serves p w new)
stays_at_want p w old new (Ok a) h same = tt
stays_at_want p w old new (Err e) h same = subst (Serves p w) (sym same) h
