use Rattle.std.proofs.Common.{◌≡◌, ◌++◌, take}
use Rattle.std.specs.List.{flat_map}
use Rattle.vz_codec.proofs.field.write_many.Given as goal

-- those so far
abbrev pub invariant-loop-value : goal.invariant-loop-value
invariant-loop-value g l =
    l.out ≡ l.initial.out ++ flat_map (g.F.Field.kind l.field).spelling (take l.value-index l.values)
