-- What counts a change leaves: what room was made for before it is no more behind it, but for one surface that is created.
use Rattle.std.proofs.Common.{◌≡◌, ℕ, ◌+◌, ◌≤◌, Bool, not, List, length, ap, ◌∙◌, arith, nat_lt}
use Rattle.vz_ids.specs.{declared.FrameSinkId.FrameSinkId, declared.LocalSurfaceId.LocalSurfaceId, Ids.same_sink}
use Rattle.vz_pixels.specs.Block.{Block}
use Rattle.vz_frame.specs.declared.frame.CompositorFrame.{CompositorFrame}
use Rattle.vz_rules.specs.{World.Surface, Messages.mark_of}
use Rattle.vz_rules.proofs.Counts.{count_same, count_push}
use Rattle.vz_refs.specs.Referring.{Temporary, lasting, of_others}
use Rattle.vz_surfaces.specs.{Stored.Stored, Stored.storing, Stored.marking, Reading.existing_count}
use Rattle.vz_surface_manager.proofs.Set_counts.{fewer}
use Rattle.std.proofs.lemmas.Bool.Decides.{nat_tests}

-- none more is temporary once a tick began
pub none_begins : (tick : ℕ) (old new : List Temporary) → new ≡ lasting tick old → length new ≤ length old
unfolding lasting
none_begins tick old new e = omega (arith, ap length e, fewer (λ (t : Temporary). nat_lt tick t.until) old)

-- none more is temporary once the client of a sink is closed
pub none_joins : (sink : FrameSinkId) (old new : List Temporary) → new ≡ of_others sink old → length new ≤ length old
unfolding of_others
none_joins sink old new e = omega (arith, ap length e, fewer (λ (t : Temporary). not (same_sink t.id.sink sink)) old)

-- a surface that exists
abbrev is_there : Surface → Bool
is_there c = not c.destroyed

mark_stays : (client : ℕ) (c : Surface) → is_there (mark_of client c) ≡ is_there c
mark_stays client c = grind (arith, nat_tests)

-- as many surfaces exist once those of a client are marked
pub as_many_marked : (client : ℕ) (old new : Stored) → new ≡ marking client old → existing_count new ≡ existing_count old
unfolding existing_count marking
as_many_marked client old new e = ap existing_count e ∙ count_same (mark_of client) is_there is_there old.surfaces (mark_stays client)

-- at most one surface more exists once a submission is accepted
one_more : (client : ℕ) (sink : FrameSinkId) (local : LocalSurfaceId) (frame : CompositorFrame) (blocks : List Block) (old : Stored)
    → existing_count (storing client sink local frame blocks old) ≤ existing_count old + 1
unfolding existing_count storing
one_more client sink local frame blocks old = grind (arith, nat_tests, count_push)

pub one_created : (client : ℕ) (sink : FrameSinkId) (local : LocalSurfaceId) (frame : CompositorFrame) (blocks : List Block)
    (old new : Stored) → new ≡ storing client sink local frame blocks old → existing_count new ≤ existing_count old + 1
one_created client sink local frame blocks old new e = grind (arith, nat_tests, one_more client sink local frame blocks old)
