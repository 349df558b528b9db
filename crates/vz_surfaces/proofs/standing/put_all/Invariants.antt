use Rattle.std.proofs.Common.{◌≡◌, ◌+◌, ◌≤◌, ◌++◌, map, take, length}
use Rattle.vz_surfaces.specs.declared.standing.Numbered.{Numbered}
use Rattle.vz_surfaces.proofs.standing.put_all.Given as goal

-- those before are in, and there is room for the rest
abbrev pub invariant-loop-one : goal.invariant-loop-one
invariant-loop-one l = (l.out.list ≡ l.fn.out.list ++ map (λ (x : Numbered). x.id) (take l.one-index l.list)) × (l.fn.out.spare ≡ l.out.spare + l.one-index) × (length l.list ≤ l.fn.out.spare)
