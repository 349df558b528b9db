-- What a store represents, and how each call changes it.
use Rattle.std.specs.Prelude.{ℕ, ◌+◌, true, false, ◌&&◌, ◌||◌, Option, Some, None, List, [], ◌∷◌, ◌++◌, map, find, count_by, if◌then◌else◌}
use Rattle.vz_ids.specs.declared.FrameSinkId.{FrameSinkId}
use Rattle.vz_ids.specs.declared.LocalSurfaceId.{LocalSurfaceId}
use Rattle.vz_ids.specs.declared.SurfaceId.{SurfaceId}
use Rattle.vz_ids.specs.declared.Sub.{Sub}
use Rattle.vz_ids.specs.Ids.{same_surface, same_sub}
use Rattle.vz_pixels.specs.Block.{Block}
use Rattle.vz_frame.specs.declared.frame.CompositorFrame.{CompositorFrame}
use Rattle.vz_frame.specs.Frame.{frame_size}
use Rattle.vz_rules.specs.declared.entry.State.TheVariants.{Waiting, Dropped}
use Rattle.vz_rules.specs.World.{World, FrameData, Surface, Submission, is_waiting, is_active, is_on, sub_of}
use Rattle.vz_rules.specs.Settle.{marked_by}
use Rattle.vz_rules.specs.Messages.{is_last, replace_on, mark_of}
use Rattle.vz_rules.specs.Singly.{as_one_rises}
use Rattle.vz_rules.specs.Kept.{is_by, is_surface_of, last_in}

-- all created surfaces and all accepted submissions; fields that a store does not have are 0 or
-- false
pub record Stored : Type 0 where
  pub surfaces : List Surface
  pub subs : List Submission

-- a surface without the tick of its creation and without whether it was named
abbrev pub bare_surface : Surface → Surface
bare_surface c = record c { born = 0; named = false }

-- a submission without its deadline and without whether it had feedback
abbrev pub bare_sub : Submission → Submission
bare_sub s = record s { due = 0; fed = false }

-- the part of a world that a store represents
unfoldable pub stored_of : World → Stored
stored_of w = record { surfaces = map bare_surface w.surfaces; subs = map bare_sub w.subs }

-- the empty store
unfoldable pub nothing_stored : Stored
nothing_stored = record { surfaces = []; subs = [] }

-- the surface with this sink and this local id
abbrev pub surface_of : FrameSinkId → LocalSurfaceId → SurfaceId
surface_of sink local = record { sink = sink; local = local }

-- a new surface of a client, in the size of its first frame
abbrev pub new_surface : ℕ → SurfaceId → CompositorFrame → List Surface → Surface
new_surface c id frame surfaces =
    record {
      client = c;
      number = count_by (is_surface_of c) surfaces + 1;
      id = id;
      size = frame_size frame;
      born = 0;
      named = false;
      marked = false;
      destroyed = false;
    }

-- the surfaces, with a new one unless the local id is that of the client's last surface
abbrev pub creating : ℕ → FrameSinkId → LocalSurfaceId → CompositorFrame → List Surface → List Surface
creating c sink local frame surfaces =
    if is_last (last_in surfaces c) local then surfaces
    else surfaces ++ new_surface c (surface_of sink local) frame surfaces ∷ []

-- the frame data with which a submission is accepted
abbrev pub accepted_as : ℕ → SurfaceId → CompositorFrame → List Block → List Submission → FrameData
accepted_as c id frame blocks subs =
    record {
      id = id;
      sub = record { client = c; ordinal = count_by (is_by c) subs + 1 };
      index = count_by (is_on id) subs + 1;
      frame = frame;
      blocks = blocks;
    }

-- a submission with this frame data that waits
abbrev pub waiting_with : FrameData → Submission
waiting_with i = record { submitted = i; due = 0; state = Waiting; was_active = false; fed = false }

-- a submission is accepted and waits, and it replaces the waiting one of its surface
unfoldable pub storing : ℕ → FrameSinkId → LocalSurfaceId → CompositorFrame → List Block → Stored → Stored
storing c sink local frame blocks st =
    let id = surface_of sink local in
    record {
      surfaces = creating c sink local frame st.surfaces;
      subs = map (replace_on id) st.subs ++ waiting_with (accepted_as c id frame blocks st.subs) ∷ [];
    }

-- the submission with this name
abbrev pub named_in : Sub → List Submission → Option Submission
named_in sub subs = find (λ s. same_sub (sub_of s) sub) subs

-- a submission becomes active, and the earlier surfaces of its client are marked
unfoldable pub raising : Submission → Stored → Stored
raising s st = record { surfaces = map (marked_by st.surfaces (s ∷ [])) st.surfaces; subs = map (as_one_rises s) st.subs }

-- the submission with this name becomes active
unfoldable pub activating : Sub → Stored → Stored
activating sub st = elim (named_in sub st.subs) [ Some s ↦ raising s st | None ↦ st ]

-- the surfaces of a client are marked
unfoldable pub marking : ℕ → Stored → Stored
marking c st = record st { surfaces = map (mark_of c) st.surfaces }

-- a surface is destroyed if it has this id
abbrev pub ended_at : SurfaceId → Surface → Surface
ended_at id c = if same_surface c.id id then record c { destroyed = true } else c

-- a waiting or active submission on the surface with this id is dropped
abbrev pub dropped_at : SurfaceId → Submission → Submission
dropped_at id s = if (is_waiting s || is_active s) && is_on id s then record s { state = Dropped } else s

-- the surface with this id is destroyed, and its waiting and its active submission are dropped
unfoldable pub destroying : SurfaceId → Stored → Stored
destroying id st = record { surfaces = map (ended_at id) st.surfaces; subs = map (dropped_at id) st.subs }
