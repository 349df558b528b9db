use Rattle.std.proofs.Common.{◌≡◌, take}
use Rattle.std.specs.{List.list_any, BTreeSet.contains}
use Rattle.vz_rules.specs.{World.FrameData, Walk.goes_into}
use Rattle.vz_scene.specs.Order.{by_sub}
use Rattle.vz_scene.proofs.damage.entered_subs.Given as goal

-- those of the visits so far are in it
abbrev pub invariant-loop-visit : goal.invariant-loop-visit
invariant-loop-visit l = (i : FrameData) → contains by_sub l.subs i.sub ≡ list_any (goes_into i) (take l.visit-index l.visits)
