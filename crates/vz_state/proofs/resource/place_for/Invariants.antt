use Rattle.std.proofs.Common.{◌≡◌, ◌-◌, ◌≤◌, take, drop, length, ◌++◌}
use Rattle.vz_pixels.specs.Block.{Block}
use Rattle.vz_rules.specs.Messages.{put_resource}
use Rattle.vz_state.proofs.resource.place_for.Given as goal

-- those so far have smaller ids
abbrev pub invariant-loop-k : goal.invariant-loop-k
invariant-loop-k l =
    record {
      within : l.k ≤ length l.resources;
      put : (block : Block) → put_resource l.id block l.resources ≡ take l.k l.resources ++ put_resource l.id block (drop l.k l.resources);
    }

abbrev pub decreases-loop-k : goal.decreases-loop-k
decreases-loop-k l = length l.resources - l.k
