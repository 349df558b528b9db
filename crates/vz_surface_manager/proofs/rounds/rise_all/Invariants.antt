use Rattle.std.proofs.Common.{◌≡◌, ◌+◌, ◌≤◌, length, Option}
use Rattle.vz_ids.specs.declared.SurfaceId.{SurfaceId}
use Rattle.vz_rules.specs.World.{World}
use Rattle.vz_returns.specs.{Lent.resources_out, Notes.owed_count}
use Rattle.vz_surface_manager.specs.Settles.{IsRound}
use Rattle.vz_surface_manager.proofs.One_round.{IsRisingOn}
use Rattle.vz_surface_manager.proofs.rounds.rise_all.Given as goal

-- those so far have risen, each into one place, and nothing more is out or owed
abbrev pub invariant-loop-sub : goal.invariant-loop-sub
invariant-loop-sub l =
    ((w : World) (but : Option SurfaceId) → IsRound w but l.subs l.fn.live → IsRisingOn w but l.sub-index l.live l.fn.ids.list l.ids.list)
    × (l.fn.ids.spare ≡ l.ids.spare + l.sub-index)
    × (resources_out l.live.lent ≡ resources_out l.fn.live.lent)
    × (owed_count l.live.owed.owed ≡ owed_count l.fn.live.owed.owed)
    × (length l.live.kept.sets ≤ length l.fn.live.kept.sets + l.sub-index)
    × (length l.live.kept.temporary ≤ length l.fn.live.kept.temporary)
    × (l.fn.live.kept.room ≤ l.live.kept.room)
