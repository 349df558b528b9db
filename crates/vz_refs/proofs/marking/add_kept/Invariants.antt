use Rattle.std.proofs.Common.{◌≡◌, ◌≤◌, ◌+◌, length, map, drop}
use Rattle.vz_ids.specs.Ids.{same_surface}
use Rattle.vz_rules.specs.Closure.{adding}
use Rattle.vz_refs.specs.Noted.{noted, AreNoted}
use Rattle.vz_refs.specs.Lasting.{all_in}
use Rattle.vz_refs.proofs.marking.add_kept.Given as goal

-- those that are left come behind those that are there
abbrev pub invariant-loop-at : goal.invariant-loop-at
invariant-loop-at l =
    (adding same_surface l.out.list (map (λ t. t.id) (drop l.at (all_in l.kept.entries))) ≡ adding same_surface l.fn.out.list (map (λ t. t.id) (all_in l.kept.entries)))
    × (length l.fn.out.list + l.fn.out.spare ≤ length l.out.list + l.out.spare) × AreNoted (noted l.sets.keys l.notes) l.out.list
