use Rattle.std.proofs.Common.{◌≡◌, None}
use Rattle.vz_deps.specs.declared.bunches.Lack.{Lack}
use Rattle.vz_deps.specs.declared.lacks.Lacks.{Lacks}
use Rattle.vz_deps.specs.Bunching.{Stands, bunch_of}
use Rattle.vz_deps.specs.Lacking.{bunches_for}
use Rattle.vz_deps.proofs.Keeping.{empty_kept, by_kind}
use Rattle.vz_deps.proofs.lacks.Lacks.new.Goals as goal

pub returns-clause-kept : goal.returns-clause-kept
returns-clause-kept c =
    let l : Lacks = record { on = c.new.result; groups = c.new-2.result; sinks = c.new-3.result; counts = c.new-4.result; freed = c.new-5.result } in
    empty_kept l c.new.ensures.empty (by_kind (λ w. Stands (bunches_for w l)) c.new-2.ensures.stands c.new-3.ensures.stands)
    (by_kind (λ w. (x : Lack) → bunch_of (bunches_for w l) x ≡ None) c.new-2.ensures.none c.new-3.ensures.none) c.new-4.ensures.empty c.new-5.ensures.items
