use Rattle.std.proofs.Common.{◌≡◌, ℕ, ◌≤◌, not, ◌&&◌, ◌==◌, nat_eq, take}
use Rattle.std.specs.List.{list_any}
use Rattle.indexmap.specs.IndexSet.{contains, spare as spare_of}
use Rattle.vz_returns.proofs.queue.forget_all.Given as goal

-- those so far are taken out
abbrev pub invariant-loop-returned : goal.invariant-loop-returned
invariant-loop-returned l =
    ((id : ℕ) → contains nat_eq l.ids id ≡ (not (list_any (λ r. r.id == id) (take l.returned-index l.list)) && contains nat_eq l.fn.ids id)) × (spare_of l.fn.ids ≤ spare_of l.ids)
