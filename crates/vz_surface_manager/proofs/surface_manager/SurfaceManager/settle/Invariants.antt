use Rattle.std.proofs.Common.{◌≡◌, ◌+◌, ◌≤◌, [], length, Option}
use Rattle.vz_ids.specs.declared.SurfaceId.{SurfaceId}
use Rattle.vz_rules.specs.World.{World}
use Rattle.vz_returns.specs.{Lent.resources_out, Notes.owed_count}
use Rattle.vz_surface_manager.specs.Settles.{IsToSettle}
use Rattle.vz_surface_manager.proofs.Many_rounds.{IsSettlingOn}
use Rattle.vz_surface_manager.proofs.surface_manager.SurfaceManager.settle.Given as goal

-- so many rounds are over, each risen one took one place, and nothing more is out or owed
abbrev pub invariant-loop-from : goal.invariant-loop-from
invariant-loop-from l =
    ((w : World) (but : Option SurfaceId) → l.fn.ids.list ≡ [] → IsToSettle w but l.fn.self l.fn.activated.list
    → IsSettlingOn w but l.self l.from l.activated.list l.ids.list)
    × (l.fn.ids.spare ≡ l.ids.spare + l.from)
    × (length l.fn.self.waiting.blocked ≤ l.fn.activated.spare → length l.self.waiting.blocked ≤ l.activated.spare)
    × (resources_out l.self.live.lent ≡ resources_out l.fn.self.live.lent)
    × (owed_count l.self.live.owed.owed ≡ owed_count l.fn.self.live.owed.owed)
    × (length l.self.live.kept.sets ≤ length l.fn.self.live.kept.sets + l.from)
    × (length l.self.live.kept.temporary ≤ length l.fn.self.live.kept.temporary)
    × (l.fn.self.live.kept.room ≤ l.self.live.kept.room)

-- the places that are left for the surfaces of rounds
abbrev pub decreases-loop-from : goal.decreases-loop-from
decreases-loop-from l = l.ids.spare
