use Rattle.std.proofs.Common.{◌≡◌, [], drop}
use Rattle.std.specs.{List.list_any, BTreeSet.contains}
use Rattle.vz_ids.specs.{declared.SurfaceId.SurfaceId, declared.SurfaceRange.SurfaceRange}
use Rattle.std.proofs.Common.{Option}
use Rattle.vz_rules.specs.{Closure.adding, Damage.of_same_range}
use Rattle.vz_scene.specs.Order.{by_range}
use Rattle.vz_scene.proofs.damage.each_once.Given as goal

-- those so far are added, and their ranges were seen
abbrev pub invariant-loop-pair : goal.invariant-loop-pair
invariant-loop-pair l =
    record {
      added : adding of_same_range [] l.pairs ≡ adding of_same_range l.once.items (drop l.pair-index l.pairs);
      seen : (q : SurfaceRange × Option SurfaceId) → contains by_range l.seen q.0 ≡ list_any (of_same_range q) l.once.items;
    }
